use Rattle.std.proofs.Common.{◌≡◌, length, take}
use Rattle.gg_shape_names.specs.Namespace.{names_after}
use Rattle.gg_shape_names.proofs.AlongLemmas.{left}
use Rattle.gg_shape_names.specs.Along.{along}
use Rattle.gg_shape.specs.Shape.{unknown_by}
use Rattle.gg_shape.specs.inside.Told.{module_of}
use Rattle.gg_shape.proofs.references.check_statements.Given as goal

abbrev pub invariant-loop-place : goal.invariant-loop-place
invariant-loop-place l = record {
  counted : l.count ≡ length (names_after (module_of l.names l.number).ports (take l.place (module_of l.names l.number).statements));
  left_is : along (unknown_by l.names.modules (module_of l.names l.number).ports) (module_of l.names l.number).statements ≡ left (unknown_by l.names.modules (module_of l.names l.number).ports) (module_of l.names l.number).statements l.place;
}
