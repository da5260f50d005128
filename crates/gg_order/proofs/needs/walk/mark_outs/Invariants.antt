use Rattle.std.proofs.Common.{length}
use Rattle.gg_order.specs.inside.Walk.{AreOwn}
use Rattle.gg_order.proofs.needs.walk.mark_outs.Given as goal

abbrev pub invariant-loop-place : goal.invariant-loop-place
invariant-loop-place l = AreOwn l.group (length l.initial.marks) l.place l.marks
