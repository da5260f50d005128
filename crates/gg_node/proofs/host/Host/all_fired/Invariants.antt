use Rattle.std.proofs.Common.{◌≡◌, ℕ, ◌<◌, true}
use Rattle.gg_node.specs.Machine.{machine_at, flag_at}
use Rattle.gg_node.proofs.host.Host.all_fired.Given as goal

abbrev pub invariant-loop-place : goal.invariant-loop-place
invariant-loop-place g l = (k : ℕ) → k < l.place → flag_at (machine_at (g.Self.Host.machines l.self) l.thread).flags k ≡ true
