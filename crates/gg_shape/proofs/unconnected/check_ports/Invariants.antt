use Rattle.std.proofs.Common.{◌≡◌}
use Rattle.std.specs.List.{flat_map}
use Rattle.gg_shape.specs.Shape.{unconnected_port}
use Rattle.gg_shape.specs.inside.Told.{is_among}
use Rattle.gg_shape.proofs.FlatLemmas.{rest}
use Rattle.gg_shape.proofs.unconnected.check_ports.Given as goal

abbrev pub invariant-loop-port : goal.invariant-loop-port
invariant-loop-port l = flat_map (unconnected_port (is_among l.connected)) l.ports ≡ rest (unconnected_port (is_among l.connected)) l.ports l.port-index
