use Rattle.std.proofs.Common.{◌≡◌, ℕ, ◌<◌, true}
use Rattle.gg_node.specs.Machine.{machine_at, flag_at}
use Rattle.gg_net.proofs.waits.first_unfired.Given as goal

abbrev pub invariant-loop-place : goal.invariant-loop-place
invariant-loop-place g l = (k : ℕ) → k < l.place → flag_at (machine_at (g.H.Host.machines l.host) l.thread).flags k ≡ true
