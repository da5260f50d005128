use Rattle.std.proofs.Common.{◌≡◌}
use Rattle.std.specs.List.{flat_map}
use Rattle.gg_shape.specs.inside.Told.{is_among, unconnected_of_port}
use Rattle.gg_shape.proofs.FlatLemmas.{rest}
use Rattle.gg_shape.proofs.unconnected.check_names.Given as goal

abbrev pub invariant-loop-port : goal.invariant-loop-port
invariant-loop-port l = flat_map (unconnected_of_port l.sinks.kind l.sinks.memory.now (is_among l.sinks.declaration.connected.now) l.sinks.declaration.line) l.ports ≡ rest (unconnected_of_port l.sinks.kind l.sinks.memory.now (is_among l.sinks.declaration.connected.now) l.sinks.declaration.line) l.ports l.port-index
