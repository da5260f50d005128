use Rattle.std.proofs.Common.{◌≤◌, ◌∙◌, sym, arith}
use Rattle.gg_bits.proofs.PatternLaws.{below_wider, uint_extended}
use Rattle.gg_bits.proofs.bitwise.extend_both.Goals as goal

pub returns-in-UInt-clause-first : goal.returns-in-UInt-clause-first
returns-in-UInt-clause-first c =
    let longer : c.args.ta.width ≤ c.args.width = omega (arith, c.requires.width) in
    uint_extended c.args.ta.kind c.args.ta.width c.args.width c.args.a.0 c.in-UInt.is longer c.requires.first

pub returns-in-UInt-clause-second : goal.returns-in-UInt-clause-second
returns-in-UInt-clause-second c =
    let longer : c.args.tb.width ≤ c.args.width = omega (arith, c.requires.width) in
    uint_extended c.args.tb.kind c.args.tb.width c.args.width c.args.b.0 (sym c.requires.kinds ∙ c.in-UInt.is) longer c.requires.second

pub returns-in-UInt-clause-fits : goal.returns-in-UInt-clause-fits
returns-in-UInt-clause-fits c = (
  below_wider c.args.a.0 c.args.ta.width c.args.width (omega (arith, c.requires.width)) c.requires.first,
  below_wider c.args.b.0 c.args.tb.width c.args.width (omega (arith, c.requires.width)) c.requires.second,
)
