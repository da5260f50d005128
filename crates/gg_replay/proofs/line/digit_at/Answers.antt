use Rattle.std.proofs.Common.{arith}
use Rattle.gg_replay.proofs.LineLemmas.{digit-past}
use Rattle.gg_replay.proofs.line.digit_at.Goals as goal

pub returns-else-place-lt32 : goal.returns-else-place-lt32
returns-else-place-lt32 c = digit-past c.args.value c.args.place (omega (arith, c.ranges.value.fits)) (omega (arith, c.if-place-lt32.false))
