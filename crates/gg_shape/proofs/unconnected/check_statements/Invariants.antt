use Rattle.std.proofs.Common.{◌≡◌}
use Rattle.std.specs.List.{flat_map}
use Rattle.gg_shape.specs.Shape.{unconnected_by}
use Rattle.gg_shape.specs.inside.Told.{is_among}
use Rattle.gg_shape.proofs.FlatLemmas.{rest}
use Rattle.gg_shape.proofs.unconnected.check_statements.Given as goal

abbrev pub invariant-loop-statement : goal.invariant-loop-statement
invariant-loop-statement l = flat_map (unconnected_by l.names.modules (is_among l.connected)) l.statements ≡ rest (unconnected_by l.names.modules (is_among l.connected)) l.statements l.statement-index
