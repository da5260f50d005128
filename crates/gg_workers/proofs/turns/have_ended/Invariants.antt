use Rattle.std.proofs.Common.{ℕ, ◌<◌, ◌≤◌, length, slice_index_or}
use Rattle.gg_node.specs.Machine.{machine_at}
use Rattle.gg_workers.proofs.turns.have_ended.Given as goal

abbrev pub invariant-loop-linked_host : goal.invariant-loop-linked_host
invariant-loop-linked_host g l = (k : ℕ) (b : _) → k < l.linked_host-index → (t : ℕ) → t < length (g.H.Host.machines (slice_index_or l.linked_hosts k b).host) → l.upto ≤ (machine_at (g.H.Host.machines (slice_index_or l.linked_hosts k b).host) t).cycle
