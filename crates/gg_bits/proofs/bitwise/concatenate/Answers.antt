use Rattle.gg_bits.proofs.PatternLaws.{joined_pattern}
use Rattle.gg_bits.proofs.bitwise.concatenate.Goals as goal

pub returns : goal.returns
returns c =
    joined_pattern c.args.a.0 c.args.b.0 c.args._ta.width c.args.tb.width c.requires.first c.requires.second c.requires.few
