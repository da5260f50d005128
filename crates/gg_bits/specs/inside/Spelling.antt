-- More on Spelling: what no promise of the program reaches.
-- Source: FIRRTL Specification, "Primitive Operations". `validif` is written as an expression of its own there.
use Rattle.std.specs.Prelude.{ℕ, List, [], ◌∷◌, Option, None, Some, if◌then◌else◌}
use Rattle.std.specs.Str.{bytes_eq}
use Rattle.gg_bits.specs.declared.ops.Op1.{Op1}
use Rattle.gg_bits.specs.declared.ops.Op1.TheVariants.{AsUInt, AsSInt, Cvt, Neg, Not, Andr, Orr, Xorr}
use Rattle.gg_bits.specs.declared.ops.Op2.{Op2}
use Rattle.gg_bits.specs.declared.ops.Op2.TheVariants.{Add, Sub, Mul, Div, Rem, Lt, Leq, Gt, Geq, Eq, Neq, Dshl, Dshr, And, Or, Xor, Cat, Validif}
use Rattle.gg_bits.specs.declared.ops.OpN.{OpN}
use Rattle.gg_bits.specs.declared.ops.OpN.TheVariants.{Pad, Shl, Shr, Bits, Head, Tail}
use Rattle.gg_bits.specs.Spelling.{text1, text2, text_const}

-- the first of these operations with this spelling
abbrev pub written_as : {A : Type 0} → (A → List ℕ) → List ℕ → List A → Option A
written_as text word [] = None
written_as text word (op ∷ ops) = if bytes_eq word (text op) then Some op else written_as text word ops

-- all operations on one value
abbrev pub all1 : List Op1
all1 = AsUInt ∷ (AsSInt ∷ (Cvt ∷ (Neg ∷ (Not ∷ (Andr ∷ (Orr ∷ (Xorr ∷ [])))))))

-- all operations on two values
abbrev pub all2 : List Op2
all2 = Add ∷ (Sub ∷ (Mul ∷ (Div ∷ (Rem ∷ (Lt ∷ (Leq ∷ (Gt ∷ (Geq ∷ (Eq ∷ (Neq ∷ (Dshl ∷ (Dshr ∷ (And ∷ (Or ∷ (Xor ∷ (Cat ∷ (Validif ∷ [])))))))))))))))))

-- all operations with parameters
abbrev pub all_const : List OpN
all_const = Pad ∷ (Shl ∷ (Shr ∷ (Bits ∷ (Head ∷ (Tail ∷ [])))))

-- the operation on one value that a word names; none if it names no such operation
abbrev pub named1 : List ℕ → Option Op1
named1 word = written_as text1 word all1

-- the operation on two values that a word names; none if it names no such operation
abbrev pub named2 : List ℕ → Option Op2
named2 word = written_as text2 word all2

-- the operation with parameters that a word names; none if it names no such operation
abbrev pub named_const : List ℕ → Option OpN
named_const word = written_as text_const word all_const
