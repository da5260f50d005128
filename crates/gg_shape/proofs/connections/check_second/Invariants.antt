use Rattle.std.proofs.Common.{◌≡◌}
use Rattle.gg_shape.specs.Shape.{in_modules, second_connections}
use Rattle.gg_shape.specs.inside.Told.{TellsFirst}
use Rattle.gg_shape.proofs.FlatLemmas.{rest}
use Rattle.gg_shape.proofs.connections.check_second.Given as goal

abbrev pub invariant-loop-number : goal.invariant-loop-number
invariant-loop-number l = record {
  told : TellsFirst l.names.modules l.number l.all.items;
  rest_is : in_modules second_connections l.names ≡ rest (second_connections l.names.modules) l.names.modules l.number;
}
