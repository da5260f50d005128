-- Values of ground types: bit patterns and their whole numbers.
-- Source: FIRRTL Specification, "Ground Types" (unsigned and signed integer types).
use Rattle.std.specs.Prelude.{ℕ, ◌-◌, ◌^◌, ℤ, pos, ◌-ℤ◌, nat_lt, if◌then◌else◌, unsigned_abs}
use Rattle.std.specs.Int.{int_rem_euclid}
use Rattle.gg_bits.specs.declared.types.Kind.{Kind}
use Rattle.gg_bits.specs.declared.types.Kind.TheVariants.{UInt, SInt}

-- The number of a pattern of w bits. For a UInt it is the pattern. For an SInt it is the pattern if that is below half of 2 ^ w, and
-- otherwise the pattern less 2 ^ w: two's complement.
abbrev pub number_of : Kind → ℕ → ℕ → ℤ
number_of UInt w p = pos p
number_of SInt w p = if nat_lt p (2 ^ (w - 1)) then pos p else (pos p -ℤ pos (2 ^ w))

-- The pattern of w bits of a number: the number modulo 2 ^ w.
abbrev pub pattern_of : ℕ → ℤ → ℕ
pattern_of w z = unsigned_abs (int_rem_euclid z (pos (2 ^ w)))
