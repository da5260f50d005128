use Rattle.gg_read_row.proofs.Depth.{expr_at-level}
use Rattle.gg_read_row.proofs.expression.+expression.Goals as goal

pub expr-returns : goal.expr-returns
expr-returns t c = rw (expr_at-level c.args.depth c.args.cursor.now c.if-depth-eq0.false) c.form.ensures
