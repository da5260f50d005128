use Rattle.std.proofs.Common.{◌≡◌, map}
use Rattle.std.specs.Vec.{vec_capacity}
use Rattle.gg_workers.specs.inside.Apart.{row_of}
use Rattle.gg_workers.proofs.apart.separate.Given as goal

abbrev pub invariant-loop-linked_host : goal.invariant-loop-linked_host
invariant-loop-linked_host g l = (l.hosts.items ≡ map (λ b. b.host) l.yielded) × (l.rows.items ≡ map row_of l.yielded) × (vec_capacity l.hosts ≡ vec_capacity l.initial.hosts) × (vec_capacity l.rows ≡ vec_capacity l.initial.rows)
