use Rattle.std.proofs.Common.{◌≡◌}
use Rattle.gg_shape.specs.Shape.{in_modules, unconnected_sinks}
use Rattle.gg_shape.proofs.FlatLemmas.{rest}
use Rattle.gg_shape.proofs.unconnected.check_modules.Given as goal

abbrev pub invariant-loop-number : goal.invariant-loop-number
invariant-loop-number l = in_modules unconnected_sinks l.names ≡ rest (unconnected_sinks l.names.modules) l.names.modules l.number
