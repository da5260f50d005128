use Rattle.std.proofs.Common.{ℕ, ◌<◌, ◌≤◌}
use Rattle.gg_net.specs.Network.{cycle_at}
use Rattle.net_tests.proofs.built.may_go_to.Given as goal

abbrev pub invariant-loop-machine : goal.invariant-loop-machine
invariant-loop-machine g l = (m : ℕ) → m < l.machine → cycle_at l.net m ≤ l.cycle
