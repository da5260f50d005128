use Rattle.gg_bits.proofs.PatternLaws.{floor_none}
use Rattle.gg_bits.proofs.shifts.shift_right.Goals as goal

pub returns-in-UInt-2 : goal.returns-in-UInt-2
returns-in-UInt-2 c =
    rw c.in-UInt-2.is (floor_none c.args.v.0 c.args.ty.width c.args.by c.requires c.args.ty.bounded c.if-by-lt128.false)
