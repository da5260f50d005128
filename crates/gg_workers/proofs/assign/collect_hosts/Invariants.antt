use Rattle.std.proofs.Common.{◌-◌, ◌≡◌, length}
use Rattle.std.specs.Vec.{vec_capacity}
use Rattle.gg_workers.specs.inside.Assigned.{Collecting}
use Rattle.gg_workers.proofs.assign.collect_hosts.Given as goal

abbrev pub invariant-loop-host : goal.invariant-loop-host
invariant-loop-host g l = Collecting l.initial.workers.items (length l.initial.workers.items) l.host (l.count - l.host) l.workers.items l.linked_hosts.items × (vec_capacity l.linked_hosts ≡ vec_capacity l.initial.linked_hosts)
