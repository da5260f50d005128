-- An expression without pointers. Clauses and definitions use it for expressions (FIRRTL Specification, "Expressions",
-- "Primitive Operations").
use Rattle.std.specs.Prelude.{ℕ}
use Rattle.gg_ast.specs.declared.expression.Literal.{Literal}
use Rattle.gg_ast.specs.declared.expression.Reference.{Reference}
use Rattle.gg_bits.specs.declared.ops.Op1.{Op1}
use Rattle.gg_bits.specs.declared.ops.Op2.{Op2}
use Rattle.gg_bits.specs.declared.ops.OpN.{OpN}

-- a reference, a literal, an operation on one value, on two, on one with the parameters n and m, or mux(c, a, b)
pub data Term : Type 0 where
  NamedTerm : Reference → Term
  ConstantTerm : Literal → Term
  UnaryTerm : Op1 → Term → Term
  BinaryTerm : Op2 → Term → Term → Term
  FixedTerm : OpN → Term → ℕ → ℕ → Term
  MuxTerm : Term → Term → Term → Term
