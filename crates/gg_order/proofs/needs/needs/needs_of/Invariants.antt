use Rattle.std.proofs.Common.{◌-◌, length}
use Rattle.gg_order.specs.inside.Groups.{AreNeedsSoFar}
use Rattle.gg_order.proofs.needs.needs.needs_of.Given as goal

abbrev pub invariant-loop-alloc : goal.invariant-loop-alloc
invariant-loop-alloc l = AreNeedsSoFar l.piece l.needs.items

abbrev pub decreases-loop-alloc : goal.decreases-loop-alloc
decreases-loop-alloc l = length l.piece.outs - length l.needs.items
