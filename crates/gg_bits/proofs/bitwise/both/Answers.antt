use Rattle.gg_bits.proofs.PatternLaws.{and_pattern}
use Rattle.gg_bits.proofs.bitwise.both.Goals as goal

pub returns : goal.returns
returns c =
    and_pattern c.args.width c.extend_both.result.0.0 c.extend_both.result.1.0 _ _
    c.extend_both.ensures.fits.0 c.extend_both.ensures.fits.1 c.extend_both.ensures.first c.extend_both.ensures.second
