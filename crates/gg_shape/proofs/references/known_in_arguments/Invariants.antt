use Rattle.std.proofs.Common.{◌≡◌, drop}
use Rattle.gg_shape.specs.Shape.{unknown_in_arguments}
use Rattle.gg_shape.specs.inside.Told.{scope_before}
use Rattle.gg_shape.proofs.references.known_in_arguments.Given as goal

abbrev pub invariant-loop-argument : goal.invariant-loop-argument
invariant-loop-argument l =
    unknown_in_arguments (scope_before l.names l.before) l.line l.arguments ≡ unknown_in_arguments (scope_before l.names l.before) l.line (drop l.argument-index l.arguments)
