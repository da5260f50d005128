-- How the logic stores a term: as steps that build it on a stack.
use Rattle.std.specs.Prelude.{◌≡◌, ℕ, List, [], ◌∷◌, refl}
use mathlib.Core.Path.{ap, ◌∙◌}
use Rattle.gg_ast.specs.declared.expression.Literal.{Literal}
use Rattle.gg_ast.specs.declared.expression.Reference.{Reference}
use Rattle.gg_ast.specs.declared.expression.Reference.TheVariants.{Local}
use Rattle.gg_bits.specs.declared.ops.Op1.{Op1}
use Rattle.gg_bits.specs.declared.ops.Op2.{Op2}
use Rattle.gg_bits.specs.declared.ops.OpN.{OpN}
use Rattle.gg_ast.specs.Term.{Term, NamedTerm, ConstantTerm, UnaryTerm, BinaryTerm, FixedTerm, MuxTerm}

-- a leaf, or an operation on what the earlier steps put on the stack
pub data Step : Type 0 where
  NamedStep : Reference → Step
  ConstantStep : Literal → Step
  UnaryStep : Op1 → Step
  BinaryStep : Op2 → Step
  FixedStep : OpN → ℕ → ℕ → Step
  MuxStep : Step

-- the steps of a term, followed by these
abbrev pub steps_before : Term → List Step → List Step
steps_before (NamedTerm r) rest = NamedStep r ∷ rest
steps_before (ConstantTerm l) rest = ConstantStep l ∷ rest
steps_before (UnaryTerm o a) rest = steps_before a (UnaryStep o ∷ rest)
steps_before (BinaryTerm o a b) rest = steps_before a (steps_before b (BinaryStep o ∷ rest))
steps_before (FixedTerm o a n m) rest = steps_before a (FixedStep o n m ∷ rest)
steps_before (MuxTerm c a b) rest = steps_before c (steps_before a (steps_before b (MuxStep ∷ rest)))

-- the steps of a term, the operands of an operation before it
abbrev pub steps_of : Term → List Step
steps_of t = steps_before t []

-- the stack after a step; it is empty if the step lacks an operand
abbrev pub stack_after : Step → List Term → List Term
stack_after (NamedStep r) ts = NamedTerm r ∷ ts
stack_after (ConstantStep l) ts = ConstantTerm l ∷ ts
stack_after (UnaryStep o) (a ∷ ts) = UnaryTerm o a ∷ ts
stack_after (BinaryStep o) (b ∷ (a ∷ ts)) = BinaryTerm o a b ∷ ts
stack_after (FixedStep o n m) (a ∷ ts) = FixedTerm o a n m ∷ ts
stack_after MuxStep (b ∷ (a ∷ (c ∷ ts))) = MuxTerm c a b ∷ ts
stack_after other ts = []

-- the stack after all the steps, one after another
abbrev pub run : List Step → List Term → List Term
run [] ts = ts
run (s ∷ ss) ts = run ss (stack_after s ts)

-- what is on top of the stack, its first element; a reference without a name if the stack is empty
abbrev pub first_of_stack : List Term → Term
first_of_stack [] = NamedTerm (Local [])
first_of_stack (t ∷ ts) = t

-- what is on top of the stack after the steps, which began with an empty one
abbrev pub first_run : List Step → Term
first_run ss = first_of_stack (run ss [])

-- the steps of a term put it on the stack
pub run-steps_before : (t : Term) (rest : List Step) (ts : List Term) → run (steps_before t rest) ts ≡ run rest (t ∷ ts)
run-steps_before (NamedTerm r) rest ts = refl
run-steps_before (ConstantTerm l) rest ts = refl
run-steps_before (UnaryTerm o a) rest ts = run-steps_before a (UnaryStep o ∷ rest) ts
run-steps_before (BinaryTerm o a b) rest ts =
    run-steps_before a (steps_before b (BinaryStep o ∷ rest)) ts ∙ run-steps_before b (BinaryStep o ∷ rest) (a ∷ ts)
run-steps_before (FixedTerm o a n m) rest ts = run-steps_before a (FixedStep o n m ∷ rest) ts
run-steps_before (MuxTerm c a b) rest ts =
    run-steps_before c (steps_before a (steps_before b (MuxStep ∷ rest))) ts
    ∙ run-steps_before a (steps_before b (MuxStep ∷ rest)) (c ∷ ts)
    ∙ run-steps_before b (MuxStep ∷ rest) (a ∷ (c ∷ ts))

-- the steps of a term lead back to the term
pub first_run-steps_of : (t : Term) → first_run (steps_of t) ≡ t
first_run-steps_of t = ap first_of_stack (run-steps_before t [] [])
