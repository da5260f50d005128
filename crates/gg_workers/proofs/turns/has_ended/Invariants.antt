use Rattle.std.proofs.Common.{ℕ, ◌<◌, ◌≤◌}
use Rattle.gg_node.specs.Machine.{machine_at}
use Rattle.gg_workers.proofs.turns.has_ended.Given as goal

abbrev pub invariant-loop-thread : goal.invariant-loop-thread
invariant-loop-thread g l = (t : ℕ) → t < l.thread → l.upto ≤ (machine_at (g.H.Host.machines l.host) t).cycle
