use Rattle.std.proofs.Common.{◌≡◌, take}
use Rattle.gg_shape_names.specs.Namespace.{scope_of}
use Rattle.gg_shape_names.proofs.AlongLemmas.{left}
use Rattle.gg_shape_names.specs.Along.{along}
use Rattle.gg_shape.specs.Shape.{second_by}
use Rattle.gg_shape.specs.inside.Told.{module_of, TellsConnected}
use Rattle.gg_shape.proofs.connections.connected_by.Given as goal

abbrev pub invariant-loop-statement : goal.invariant-loop-statement
invariant-loop-statement l = record {
  told : TellsConnected (take l.statement-index l.statements) l.connected;
  left_is : along (second_by (scope_of l.names.modules (module_of l.names l.number))) l.statements ≡ left (second_by (scope_of l.names.modules (module_of l.names l.number))) l.statements l.statement-index;
}
