use Rattle.std.proofs.Common.{◌≡◌}
use Rattle.std.specs.List.{flat_map}
use Rattle.gg_shape.specs.inside.Told.{is_among, unconnected_input}
use Rattle.gg_shape.proofs.FlatLemmas.{rest}
use Rattle.gg_shape.proofs.unconnected.check_inputs.Given as goal

abbrev pub invariant-loop-port : goal.invariant-loop-port
invariant-loop-port l = flat_map (unconnected_input l.instance (is_among l.declaration.connected.now) l.declaration.line) l.ports ≡ rest (unconnected_input l.instance (is_among l.declaration.connected.now) l.declaration.line) l.ports l.port-index
