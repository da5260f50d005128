use Rattle.std.proofs.Common.{◌≡◌, map, filter, take}
use Rattle.gg_shape.specs.inside.Told.{is_input}
use Rattle.gg_shape.proofs.unconnected.Inputs.of.Given as goal

abbrev pub invariant-loop-port : goal.invariant-loop-port
invariant-loop-port l = map (λ p. p.now) l.ports.items ≡ filter is_input (take l.port-index l.this.ports)
