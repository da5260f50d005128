use Rattle.std.proofs.Common.{◌≡◌}
use Rattle.gg_shape_names.specs.Along.{along}
use Rattle.gg_shape_names.specs.Repetitions.{repeated_module}
use Rattle.gg_shape_names.specs.inside.Tables.{AreTold}
use Rattle.gg_shape_names.proofs.AlongLemmas.{left}
use Rattle.gg_shape_names.proofs.namespace.tables_of.Given as goal

abbrev pub invariant-loop-module : goal.invariant-loop-module
invariant-loop-module l = record {
  told : AreTold l.circuit.modules l.module-index l.tables.items;
  left_is : along repeated_module l.circuit.modules ≡ left repeated_module l.circuit.modules l.module-index;
}
