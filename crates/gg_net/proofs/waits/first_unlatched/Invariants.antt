use Rattle.std.proofs.Common.{ℕ, ◌<◌}
use Rattle.std.specs.Prelude.{IsSome}
use Rattle.gg_node.specs.Machine.{machine_at, latch_at}
use Rattle.gg_net.proofs.waits.first_unlatched.Given as goal

abbrev pub invariant-loop-place : goal.invariant-loop-place
invariant-loop-place g l = (k : ℕ) → k < l.place → IsSome (latch_at (machine_at (g.H.Host.machines l.host) l.thread).latches k)
