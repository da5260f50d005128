use Rattle.std.proofs.Common.{◌≡◌}
use Rattle.net_tests.proofs.circuits.simulators.gives.Given as goal

-- the simulator still has its circuit, and has made as many cycles
abbrev pub invariant-loop-cycle : goal.invariant-loop-cycle
invariant-loop-cycle l = (l.mono.circuit ≡ l.initial.mono.circuit) × (l.mono.cycle ≡ l.cycle)
