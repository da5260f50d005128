use Rattle.gg_order.specs.inside.Walk.{AreMarkedIns}
use Rattle.gg_order.specs.inside.NeedsMarks.{any_marks}
use Rattle.gg_order.proofs.needs.needs.touched_ins.Given as goal

abbrev pub invariant-loop-signal : goal.invariant-loop-signal
invariant-loop-signal l = AreMarkedIns l.piece (any_marks l.marks) l.signal-index l.touched.items
