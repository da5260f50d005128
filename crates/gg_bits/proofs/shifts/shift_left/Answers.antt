use Rattle.std.proofs.Common.{pos, ◌^◌, sym}
use Rattle.gg_bits.specs.Shape.{shape, number}
use Rattle.gg_bits.proofs.PatternLaws.{product_wraps, pattern_of-pow}
use Rattle.gg_bits.proofs.shifts.shift_left.Goals as goal

pub returns : goal.returns
returns c =
    product_wraps 128 (number (shape c.args.ty) c.args.v.0) (pos (2 ^ c.args.by)) c.wide.result (2 ^ c.args.by)
    c.wide.ensures (sym (pattern_of-pow c.args.by 128 c.requires.few))
