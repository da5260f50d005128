use Rattle.std.proofs.Common.{◌-◌, arith}
use Rattle.gg_bits.proofs.PatternLaws.{ones_shr}
use Rattle.gg_bits.proofs.patterns.ones.Goals as goal

pub returns-then-width-le64 : goal.returns-then-width-le64
returns-then-width-le64 c = ones_shr c.args.width (64 - c.args.width) 64 (omega arith)

pub returns-else-width-le64 : goal.returns-else-width-le64
returns-else-width-le64 c = ones_shr c.args.width (128 - c.args.width) 128 (omega arith)
