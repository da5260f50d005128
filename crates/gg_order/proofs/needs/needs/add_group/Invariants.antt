use Rattle.std.proofs.Common.{◌≡◌, ◌+◌, length}
use Rattle.gg_order.specs.inside.Groups.{AreNeedsSoFar}
use Rattle.gg_order.proofs.needs.needs.add_group.Given as goal

abbrev pub invariant-loop-place : goal.invariant-loop-place
invariant-loop-place l = record { count : length l.needs.items ≡ l.first + l.place; so_far : AreNeedsSoFar l.piece l.needs.items }
