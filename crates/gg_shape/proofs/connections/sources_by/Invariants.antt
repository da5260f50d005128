use Rattle.std.proofs.Common.{◌≡◌}
use Rattle.std.specs.List.{flat_map}
use Rattle.gg_shape_names.specs.Namespace.{scope_of}
use Rattle.gg_shape.specs.Shape.{source_by}
use Rattle.gg_shape.specs.inside.Told.{module_of}
use Rattle.gg_shape.proofs.FlatLemmas.{rest}
use Rattle.gg_shape.proofs.connections.sources_by.Given as goal

abbrev pub invariant-loop-statement : goal.invariant-loop-statement
invariant-loop-statement l =
    flat_map (source_by (scope_of l.names.modules (module_of l.names l.number))) l.statements ≡ rest (source_by (scope_of l.names.modules (module_of l.names l.number))) l.statements l.statement-index
