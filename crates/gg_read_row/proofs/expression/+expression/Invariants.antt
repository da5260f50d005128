-- Each operand has one level less than its operation. Within a level the functions are ordered by the number that is added.
use Rattle.std.proofs.Common.{◌+◌, ◌*◌}
use Rattle.gg_read_row.proofs.expression.+expression.Given as goal

abbrev pub decreases-expr : goal.decreases-expr
decreases-expr l = 6 * l.depth

abbrev pub decreases-call : goal.decreases-call
decreases-call l = 6 * l.depth + 4

abbrev pub decreases-operands : goal.decreases-operands
decreases-operands l = 6 * l.depth + 3

abbrev pub decreases-operand : goal.decreases-operand
decreases-operand l = 6 * l.depth + 1

abbrev pub decreases-unary : goal.decreases-unary
decreases-unary l = 6 * l.depth + 2

abbrev pub decreases-binary : goal.decreases-binary
decreases-binary l = 6 * l.depth + 2

abbrev pub decreases-fixed : goal.decreases-fixed
decreases-fixed l = 6 * l.depth + 2

abbrev pub decreases-mux : goal.decreases-mux
decreases-mux l = 6 * l.depth + 2

abbrev pub decreases-form : goal.decreases-form
decreases-form l = 6 * l.depth + 5
