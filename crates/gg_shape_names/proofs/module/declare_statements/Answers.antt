use Rattle.std.proofs.Common.{sym, ap, ◌∙◌}
use Rattle.gg_shape_names.specs.Repetitions.{repeated_by, repeated_by_kind}
use Rattle.gg_shape_names.proofs.AlongLemmas.{left-more}
use Rattle.gg_shape_names.proofs.ScopeLemmas.{statements-next}
use Rattle.gg_shape_names.proofs.module.declare_statements.Goals as goal

pub loop-statement-preserved : goal.loop-statement-preserved
loop-statement-preserved c =
    let s = c.statement-item.result in
    record {
      told = statements-next c.args.circuit.now.modules c.args._ports.now c.args.statements.now c.loop-statement.statement-index s c.loop-statement.table c.declare_statement.new.table c.loop-statement-test.true c.statement-item.is
          c.in_ok-declare_statement.ensures.tells c.in_ok-declare_statement.ensures.table c.loop-statement.invariant.told;
      left_is = left-more (repeated_by c.args._ports.now) c.args.statements.now c.loop-statement.statement-index s c.loop-statement-test.true c.statement-item.is
          (ap (λ names. repeated_by_kind names s.line s.kind) (sym c.loop-statement.invariant.told.names_are) ∙ c.in_ok-declare_statement.ensures.tells) c.loop-statement.invariant.left_is;
    }
