-- The number and the pattern of a literal as it is written.
-- Source: FIRRTL Specification, "Literals" (integer literals: sign, radix and digits; a literal fits its type).
use Rattle.std.specs.Prelude.{ℕ, zero, suc, ◌+◌, ◌*◌, ℤ, pos, neg_ℤ, Bool, List, [], ◌∷◌, ◌==◌, fold, codes, if◌then◌else◌}
use Rattle.std.specs.Char.{to_ascii_lowercase}
use Rattle.std.specs.Ordering.{int_eq}
use Rattle.gg_bits.specs.declared.types.Kind.{Kind}
use Rattle.gg_bits.specs.Value.{number_of, pattern_of}
use Rattle.gg_ast.specs.declared.expression.Literal.{Literal}
use Rattle.gg_ast.specs.declared.expression.Radix.{Radix}
use Rattle.gg_ast.specs.declared.expression.Radix.TheVariants.{Binary, Octal, Decimal, Hexadecimal}

-- how many digits a radix has
abbrev pub base : Radix → ℕ
base Binary = 2
base Octal = 8
base Decimal = 10
base Hexadecimal = 16

-- how many elements are before the first that equals this one; all of them if none does
abbrev pub count_before : ℕ → List ℕ → ℕ
count_before c [] = zero
count_before c (d ∷ ds) = if c == d then zero else suc (count_before c ds)

-- The value of a digit: its place among the digits; letters may be of either case. A byte that is not a digit counts as
-- 16; no literal that is read has one.
unfoldable pub digit : ℕ → ℕ
digit c = count_before (to_ascii_lowercase c) (codes "0123456789abcdef")

-- the number that digits spell in a radix, the highest digit first
abbrev pub digits_number : ℕ → List ℕ → ℕ
digits_number radix digits = fold (λ n c. n * radix + digit c) 0 digits

-- the number n, or its negative
abbrev pub signed_number : Bool → ℕ → ℤ
signed_number negative n = if negative then neg_ℤ (pos n) else pos n

-- the number of a literal: its sign, and the number that its digits spell
abbrev pub literal_number : Literal → ℤ
literal_number l = signed_number l.negative (digits_number (base l.radix) l.digits)

-- the pattern that a literal's number has in its width
abbrev pub literal_value : Literal → ℕ
literal_value l = pattern_of l.width (literal_number l)

-- Whether a pattern of this kind and width has this number. If one does, it is the number modulo 2 ^ w, so only that one is tested.
abbrev pub is_number_of : Kind → ℕ → ℤ → Bool
is_number_of kind w z = int_eq (number_of kind w (pattern_of w z)) z

-- a literal fits its type if a pattern of the type has its number
abbrev pub literal_fits : Literal → Bool
literal_fits l = is_number_of l.kind l.width (literal_number l)
