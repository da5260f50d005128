use Rattle.std.proofs.Common.{◌≡◌}
use Rattle.gg_shape.specs.Shape.{in_modules, unknown_names}
use Rattle.gg_shape.proofs.FlatLemmas.{rest}
use Rattle.gg_shape.proofs.references.check_references.Given as goal

abbrev pub invariant-loop-number : goal.invariant-loop-number
invariant-loop-number l = in_modules unknown_names l.names ≡ rest (unknown_names l.names.modules) l.names.modules l.number
