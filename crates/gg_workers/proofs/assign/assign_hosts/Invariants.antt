use Rattle.std.proofs.Common.{◌-◌, ◌≡◌, length}
use Rattle.std.specs.Vec.{vec_capacity}
use Rattle.gg_workers.specs.inside.Assigned.{Assigning}
use Rattle.gg_workers.proofs.assign.assign_hosts.Given as goal

abbrev pub invariant-loop-linked_host : goal.invariant-loop-linked_host
invariant-loop-linked_host g l = Assigning l.initial.linked_hosts.items (length l.initial.workers.items) (length l.linked_hosts.items) (length l.initial.linked_hosts.items - length l.linked_hosts.items) l.linked_hosts.items l.workers.items × (vec_capacity l.linked_hosts ≡ vec_capacity l.initial.linked_hosts)

abbrev pub decreases-loop-linked_host : goal.decreases-loop-linked_host
decreases-loop-linked_host g l = length l.linked_hosts.items
