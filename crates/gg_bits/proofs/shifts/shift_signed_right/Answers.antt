use Rattle.std.proofs.Common.{◌∙◌}
use Rattle.gg_bits.proofs.PatternLaws.{floor_pattern}
use Rattle.gg_bits.proofs.shifts.shift_signed_right.Goals as goal

pub returns : goal.returns
returns c = c.cast_unsigned.ensures ∙ floor_pattern c.args.x c.args.by c.min.result c.ranges.x c.min.ensures
