use Rattle.std.proofs.Common.{ℕ, ◌<◌}
use Rattle.std.specs.Prelude.{IsSome}
use Rattle.gg_node.specs.Machine.{machine_at, latch_at}
use Rattle.gg_node.proofs.host.Host.all_latched.Given as goal

abbrev pub invariant-loop-place : goal.invariant-loop-place
invariant-loop-place g l = (k : ℕ) → k < l.place → IsSome (latch_at (machine_at (g.Self.Host.machines l.self) l.thread).latches k)
