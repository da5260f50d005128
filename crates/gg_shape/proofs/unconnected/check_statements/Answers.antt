use Rattle.std.proofs.Common.{rules}
use Rattle.gg_shape.proofs.FlatLemmas.{rest-refused}
use Rattle.gg_shape.specs.inside.Told.{is_among}
use Rattle.gg_shape.specs.Shape.{unconnected_by}
use Rattle.gg_shape.proofs.unconnected.check_statements.Goals as goal

pub returns-in_err-check_statement : goal.returns-in_err-check_statement
returns-in_err-check_statement c =
    let h = rest-refused (unconnected_by c.args.names.now.modules (is_among c.args.connected.now)) c.args.statements.now c.loop-statement.statement-index c.statement-item.result c.statement-item.result c.in_err-check_statement.field-0.0 c.loop-statement-test.true c.statement-item.is c.loop-statement.invariant c.in_err-check_statement.ensures in
    search (rules, h)
