-- The meaning of each operation, as a whole number, and the pattern of its result.
-- Source: FIRRTL Specification, "Primitive Operations". An operation on two values uses the operands' numbers, so a
-- shorter operand is extended by its kind. a and b are patterns, s and t their shapes.
use Rattle.std.specs.Prelude.{ℕ, ◌+◌, ◌-◌, ◌*◌, ◌/◌, ◌%◌, ◌^◌, max, ℤ, pos, neg_ℤ, ◌+ℤ◌, ◌-ℤ◌, ◌*ℤ◌, Bool, true, false, not, ◌==◌, if◌then◌else◌, int_lt, int_le, int_div, int_rem, bit_and, bit_or, bit_xor, count_ones}
use Rattle.std.specs.Int.{int_div_euclid}
use Rattle.std.specs.Ordering.{int_eq}
use Rattle.gg_bits.specs.declared.ops.Op1.{Op1}
use Rattle.gg_bits.specs.declared.ops.Op1.TheVariants.{AsUInt, AsSInt, Cvt, Neg, Not, Andr, Orr, Xorr}
use Rattle.gg_bits.specs.declared.ops.Op2.{Op2}
use Rattle.gg_bits.specs.declared.ops.Op2.TheVariants.{Add, Sub, Mul, Div, Rem, Lt, Leq, Gt, Geq, Eq, Neq, Dshl, Dshr, And, Or, Xor, Cat, Validif}
use Rattle.gg_bits.specs.declared.ops.OpN.{OpN}
use Rattle.gg_bits.specs.declared.ops.OpN.TheVariants.{Pad, Shl, Shr, Bits, Head, Tail}
use Rattle.gg_bits.specs.Value.{pattern_of}
use Rattle.gg_bits.specs.Shape.{Shape, number}
use Rattle.gg_bits.specs.ResultType.{shape1, shape2, shape_const, shape_mux}

-- ---- the parts of the meanings

-- the bit of a truth value
abbrev pub truth : Bool → ℤ
truth true = pos 1
truth false = pos 0

-- the quotient, cut towards zero; 0 where the divisor is 0
abbrev pub quotient : ℤ → ℤ → ℤ
quotient x y = if int_eq y (pos 0) then pos 0 else int_div x y

-- the remainder, with the dividend's sign; 0 where the divisor is 0
abbrev pub remainder : ℤ → ℤ → ℤ
remainder x y = if int_eq y (pos 0) then pos 0 else int_rem x y

-- the greatest whole number that is not above x divided by 2 ^ n
abbrev pub floor_by : ℤ → ℕ → ℤ
floor_by x n = int_div_euclid x (pos (2 ^ n))

-- the pattern of the same number in w bits
abbrev pub extended : Shape → ℕ → ℕ → ℕ
extended s w a = pattern_of w (number s a)

-- ---- on one value

-- The result of an operation on one value, as a whole number. `asUInt`, `asSInt`, `not` and the reductions read the pattern; `cvt` and
-- `neg` read the number, which depends on the kind.
abbrev pub meaning1 : Op1 → Shape → ℕ → ℤ
meaning1 AsUInt s a = pos a
meaning1 AsSInt s a = pos a
meaning1 Cvt s a = number s a
meaning1 Neg s a = neg_ℤ (number s a)
meaning1 Not s a = pos (2 ^ s.width - 1 - a)
meaning1 Andr s a = truth (a == 2 ^ s.width - 1)
meaning1 Orr s a = truth (not (a == 0))
meaning1 Xorr s a = truth (count_ones a % 2 == 1)

-- the pattern of the result
abbrev pub value1 : Op1 → Shape → ℕ → ℕ
value1 op s a = pattern_of (shape1 op s).width (meaning1 op s a)

-- ---- on two values

-- The result of an operation on two values, as a whole number. `cat` reads the patterns, a dynamic shift reads its amount as a pattern, and
-- `and`, `or` and `xor` read patterns that are extended to the greater width first. `validif` is its second operand, whatever the condition
-- is.
abbrev pub meaning2 : Op2 → Shape → ℕ → Shape → ℕ → ℤ
meaning2 Add s a t b = number s a +ℤ number t b
meaning2 Sub s a t b = number s a -ℤ number t b
meaning2 Mul s a t b = number s a *ℤ number t b
meaning2 Div s a t b = quotient (number s a) (number t b)
meaning2 Rem s a t b = remainder (number s a) (number t b)
meaning2 Lt s a t b = truth (int_lt (number s a) (number t b))
meaning2 Leq s a t b = truth (int_le (number s a) (number t b))
meaning2 Gt s a t b = truth (int_lt (number t b) (number s a))
meaning2 Geq s a t b = truth (int_le (number t b) (number s a))
meaning2 Eq s a t b = truth (int_eq (number s a) (number t b))
meaning2 Neq s a t b = truth (not (int_eq (number s a) (number t b)))
meaning2 Dshl s a t b = number s a *ℤ pos (2 ^ b)
meaning2 Dshr s a t b = floor_by (number s a) b
meaning2 And s a t b = pos (bit_and (extended s (max s.width t.width) a) (extended t (max s.width t.width) b))
meaning2 Or s a t b = pos (bit_or (extended s (max s.width t.width) a) (extended t (max s.width t.width) b))
meaning2 Xor s a t b = pos (bit_xor (extended s (max s.width t.width) a) (extended t (max s.width t.width) b))
meaning2 Cat s a t b = pos (a * 2 ^ t.width + b)
meaning2 Validif s a t b = number t b

-- the pattern of the result
abbrev pub value2 : Op2 → Shape → ℕ → Shape → ℕ → ℕ
value2 op s a t b = pattern_of (shape2 op s t).width (meaning2 op s a t b)

-- ---- with parameters

-- The result of an operation on one value with parameters, as a whole number. `bits` has the parameters hi and lo; the others use only n.
-- `bits`, `head` and `tail` read the pattern.
abbrev pub meaning_const : OpN → Shape → ℕ → ℕ → ℕ → ℤ
meaning_const Pad s a n m = number s a
meaning_const Shl s a n m = number s a *ℤ pos (2 ^ n)
meaning_const Shr s a n m = floor_by (number s a) n
meaning_const Bits s a hi lo = pos (a / 2 ^ lo % 2 ^ (hi - lo + 1))
meaning_const Head s a n m = pos (a / 2 ^ (s.width - n))
meaning_const Tail s a n m = pos (a % 2 ^ (s.width - n))

-- the pattern of the result
abbrev pub value_const : OpN → Shape → ℕ → ℕ → ℕ → ℕ
value_const op s a n m = pattern_of (shape_const op s n m).width (meaning_const op s a n m)

-- ---- the choice by a condition c

-- the number of the first value where the condition's pattern is 1, otherwise the number of the second
abbrev pub meaning_mux : ℕ → Shape → ℕ → Shape → ℕ → ℤ
meaning_mux c s a t b = if c == 1 then number s a else number t b

-- the pattern of the result
abbrev pub value_mux : ℕ → Shape → ℕ → Shape → ℕ → ℕ
value_mux c s a t b = pattern_of (shape_mux s t).width (meaning_mux c s a t b)
