use Rattle.std.proofs.Common.{take}
use Rattle.gg_order.specs.inside.Walk.{AreMarkedAmong}
use Rattle.gg_order.specs.inside.NeedsMarks.{marks_of}
use Rattle.gg_order.proofs.needs.needs.marked_ins.Given as goal

abbrev pub invariant-loop-each : goal.invariant-loop-each
invariant-loop-each l = AreMarkedAmong l.piece (marks_of l.place l.marks) (take l.each-index l.touched) l.ins.items
