use Rattle.std.proofs.Common.{◌≡◌, length, take}
use Rattle.gg_types.specs.Clocks.{clock_inputs}
use Rattle.gg_elab_sites.proofs.clocks.clock_count.Given as goal

abbrev pub invariant-loop-port : goal.invariant-loop-port
invariant-loop-port l = l.count ≡ length (clock_inputs (take l.port-index l.ports))
