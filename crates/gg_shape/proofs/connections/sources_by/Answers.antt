use Rattle.std.proofs.Common.{rules}
use Rattle.gg_shape.proofs.FlatLemmas.{rest-refused}
use Rattle.gg_shape_names.specs.Namespace.{scope_of}
use Rattle.gg_shape.specs.Shape.{source_by}
use Rattle.gg_shape.specs.inside.Told.{module_of}
use Rattle.gg_shape.proofs.connections.sources_by.Goals as goal

pub returns-in_err-no_source : goal.returns-in_err-no_source
returns-in_err-no_source c =
    let h = rest-refused (source_by (scope_of c.args.names.now.modules (module_of c.args.names.now c.args.number))) c.args.statements.now c.loop-statement.statement-index c.statement-item.result c.statement-item.result c.in_err-no_source.field-0.0 c.loop-statement-test.true c.statement-item.is c.loop-statement.invariant c.in_err-no_source.ensures in
    search (rules, h)
