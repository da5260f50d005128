use Rattle.std.proofs.Common.{◌≡◌}
use Rattle.gg_shape.specs.Shape.{in_modules, connected_sources}
use Rattle.gg_shape.proofs.FlatLemmas.{rest}
use Rattle.gg_shape.proofs.connections.check_sources.Given as goal

abbrev pub invariant-loop-number : goal.invariant-loop-number
invariant-loop-number l = in_modules connected_sources l.names ≡ rest (connected_sources l.names.modules) l.names.modules l.number
