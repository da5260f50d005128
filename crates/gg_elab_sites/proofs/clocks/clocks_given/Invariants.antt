use Rattle.std.proofs.Common.{◌≡◌, map, take}
use Rattle.gg_elab_sites.specs.Sites.{module_at}
use Rattle.gg_elab_sites.specs.Clocks.{clock_connected}
use Rattle.gg_elab_sites.specs.Connection.{connection_in}
use Rattle.gg_elab_sites.specs.Signals.{dotted}
use Rattle.gg_types.specs.Clocks.{clock_inputs}
use Rattle.gg_elab_sites.proofs.clocks.clocks_given.Given as goal

abbrev pub invariant-loop-port : goal.invariant-loop-port
invariant-loop-port l =
    l.clocks.items ≡ map (λ port. clock_connected (module_at l.typed.circuit.modules l.around) (connection_in (module_at l.typed.circuit.modules l.around).statements (dotted l.name port))) (clock_inputs (take l.port-index l.ports))
