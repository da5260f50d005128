use Rattle.std.proofs.Common.{take, rules}
use Rattle.gg_shape_names.specs.Namespace.{scope_of}
use Rattle.gg_shape_names.proofs.AlongLemmas.{left-more}
use Rattle.gg_shape.specs.Shape.{second_by}
use Rattle.gg_shape.specs.inside.Told.{module_of}
use Rattle.gg_shape.proofs.ConnectedLemmas.{told-next}
use Rattle.gg_shape.proofs.FlatLemmas.{along-refused}
use Rattle.gg_shape.proofs.connections.connected_by.Goals as goal

pub returns-in_err-connected_once-clause-answers : goal.returns-in_err-connected_once-clause-answers
returns-in_err-connected_once-clause-answers c =
    let i = c.loop-statement.statement-index in
    let at = second_by (scope_of c.args.names.now.modules (module_of c.args.names.now c.args.number)) in
    let h = along-refused at c.args.statements.now i c.statement-item.result c.in_err-connected_once.field-0.0 c.loop-statement-test.true c.statement-item.is c.loop-statement.invariant.left_is
    (c.in_err-connected_once.ensures (take i c.args.statements.now) c.loop-statement.invariant.told) in
    search (rules, h)

pub loop-statement-preserved : goal.loop-statement-preserved
loop-statement-preserved c =
    let i = c.loop-statement.statement-index in
    let at = second_by (scope_of c.args.names.now.modules (module_of c.args.names.now c.args.number)) in
    record {
      told = told-next c.args.statements.now i c.statement-item.result c.mark.new.connected c.loop-statement-test.true c.statement-item.is
          (c.in_ok-mark.ensures (take i c.args.statements.now) c.loop-statement.invariant.told);
      left_is = left-more at c.args.statements.now i c.statement-item.result c.loop-statement-test.true c.statement-item.is
          (c.in_ok-connected_once.ensures (take i c.args.statements.now) c.loop-statement.invariant.told) c.loop-statement.invariant.left_is;
    }
