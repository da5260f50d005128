-- How each operation is written, and which operation a word names.
-- Source: FIRRTL Specification, "Primitive Operations". `validif` is written as an expression of its own there.
use Rattle.std.specs.Prelude.{ℕ, List, codes}
use Rattle.gg_bits.specs.declared.ops.Op1.{Op1}
use Rattle.gg_bits.specs.declared.ops.Op1.TheVariants.{AsUInt, AsSInt, Cvt, Neg, Not, Andr, Orr, Xorr}
use Rattle.gg_bits.specs.declared.ops.Op2.{Op2}
use Rattle.gg_bits.specs.declared.ops.Op2.TheVariants.{Add, Sub, Mul, Div, Rem, Lt, Leq, Gt, Geq, Eq, Neq, Dshl, Dshr, And, Or, Xor, Cat, Validif}
use Rattle.gg_bits.specs.declared.ops.OpN.{OpN}
use Rattle.gg_bits.specs.declared.ops.OpN.TheVariants.{Pad, Shl, Shr, Bits, Head, Tail}

-- the operations on one value
abbrev pub text1 : Op1 → List ℕ
text1 AsUInt = codes "asUInt"
text1 AsSInt = codes "asSInt"
text1 Cvt = codes "cvt"
text1 Neg = codes "neg"
text1 Not = codes "not"
text1 Andr = codes "andr"
text1 Orr = codes "orr"
text1 Xorr = codes "xorr"

-- the operations on two values
abbrev pub text2 : Op2 → List ℕ
text2 Add = codes "add"
text2 Sub = codes "sub"
text2 Mul = codes "mul"
text2 Div = codes "div"
text2 Rem = codes "rem"
text2 Lt = codes "lt"
text2 Leq = codes "leq"
text2 Gt = codes "gt"
text2 Geq = codes "geq"
text2 Eq = codes "eq"
text2 Neq = codes "neq"
text2 Dshl = codes "dshl"
text2 Dshr = codes "dshr"
text2 And = codes "and"
text2 Or = codes "or"
text2 Xor = codes "xor"
text2 Cat = codes "cat"
text2 Validif = codes "validif"

-- the operations with parameters
abbrev pub text_const : OpN → List ℕ
text_const Pad = codes "pad"
text_const Shl = codes "shl"
text_const Shr = codes "shr"
text_const Bits = codes "bits"
text_const Head = codes "head"
text_const Tail = codes "tail"
