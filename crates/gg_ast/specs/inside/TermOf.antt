-- The term of an expression of the program.
-- Source: FIRRTL Specification, "Expressions".
use Rattle.gg_ast.specs.declared.expression.ExprKind.{ExprKind}
use Rattle.gg_ast.specs.declared.expression.ExprKind.TheVariants.{Named, Constant, Unary, Binary, Fixed, Mux}
use Rattle.gg_ast.specs.Term.{Term, NamedTerm, ConstantTerm, UnaryTerm, BinaryTerm, FixedTerm, MuxTerm}

-- the same expression with its parts' terms as operands
abbrev pub term_of : ExprKind → Term
term_of (Named r) = NamedTerm r
term_of (Constant l) = ConstantTerm l
term_of (Unary o a) = UnaryTerm o a.value
term_of (Binary o a b) = BinaryTerm o a.value b.value
term_of (Fixed o a n m) = FixedTerm o a.value n m
term_of (Mux c a b) = MuxTerm c.value a.value b.value
