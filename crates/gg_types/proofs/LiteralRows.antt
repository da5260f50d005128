-- The definitions of literals, worked by hand: each radix, letters of both cases, signs, and for each kind the least and the
-- greatest number that fits, with the next one that doesn't.
use Rattle.std.proofs.Common.{◌≡◌, ℕ, Bool, true, false, List, None, Some, codes, refl}
use Rattle.std.specs.Prelude.{pos, negsuc}
use Rattle.gg_bits.specs.declared.types.Kind.{Kind}
use Rattle.gg_bits.specs.declared.types.Kind.TheVariants.{UInt, SInt}
use Rattle.gg_bits.specs.Shape.{uint, sint}
use Rattle.gg_ast.specs.declared.expression.Literal.{Literal}
use Rattle.gg_ast.specs.declared.expression.Radix.{Radix}
use Rattle.gg_ast.specs.declared.expression.Radix.TheVariants.{Binary, Octal, Decimal, Hexadecimal}
use Rattle.gg_types.specs.Literal.{digit, literal_number, literal_value, literal_fits}
use Rattle.gg_types.specs.Types.{literal_shape}

abbrev written : Kind → ℕ → Radix → Bool → List ℕ → Literal
written kind width radix negative digits = record { kind = kind; width = width; radix = radix; negative = negative; digits = digits }

-- the radixes
binary : literal_number (written UInt 4 Binary false (codes "1010")) ≡ pos 10
unfolding digit
binary = refl

octal : literal_number (written UInt 4 Octal false (codes "17")) ≡ pos 15
unfolding digit
octal = refl

decimal : literal_number (written UInt 7 Decimal false (codes "0127")) ≡ pos 127
unfolding digit
decimal = refl

hexadecimal : literal_number (written UInt 8 Hexadecimal false (codes "a0")) ≡ pos 160
unfolding digit
hexadecimal = refl

-- letters of both cases are digits
both_cases : literal_value (written UInt 8 Hexadecimal false (codes "fF")) ≡ 255
unfolding digit
both_cases = refl

all_letters : literal_value (written UInt 24 Hexadecimal false (codes "aBcDeF")) ≡ 11259375
unfolding digit
all_letters = refl

all_letters_turned : literal_value (written UInt 24 Hexadecimal false (codes "AbCdEf")) ≡ 11259375
unfolding digit
all_letters_turned = refl

-- SInt<4>("h-3") is the pattern d, and SInt<4>("hd") doesn't fit
minus_three : literal_number (written SInt 4 Hexadecimal true (codes "3")) ≡ negsuc 2
unfolding digit
minus_three = refl

minus_three_pattern : literal_value (written SInt 4 Hexadecimal true (codes "3")) ≡ 13
unfolding digit
minus_three_pattern = refl

minus_three_shape : literal_shape (written SInt 4 Hexadecimal true (codes "3")) ≡ Some (sint 4)
unfolding digit
minus_three_shape = refl

thirteen_is_too_large : literal_shape (written SInt 4 Hexadecimal false (codes "d")) ≡ None
unfolding digit
thirteen_is_too_large = refl

-- the least number of a UInt is 0, which may be written -0
minus_zero : literal_shape (written UInt 1 Decimal true (codes "0")) ≡ Some (uint 1)
unfolding digit
minus_zero = refl

minus_one : literal_shape (written UInt 1 Decimal true (codes "1")) ≡ None
unfolding digit
minus_one = refl

-- the greatest number of UInt<8>, and the next one
greatest_unsigned : literal_fits (written UInt 8 Hexadecimal false (codes "ff")) ≡ true
unfolding digit
greatest_unsigned = refl

past_the_greatest_unsigned : literal_fits (written UInt 8 Hexadecimal false (codes "100")) ≡ false
unfolding digit
past_the_greatest_unsigned = refl

-- the least number of SInt<8> and the one below it, the greatest number and the one above it
least : literal_fits (written SInt 8 Decimal true (codes "128")) ≡ true
unfolding digit
least = refl

least_pattern : literal_value (written SInt 8 Decimal true (codes "128")) ≡ 128
unfolding digit
least_pattern = refl

below_the_least : literal_fits (written SInt 8 Decimal true (codes "129")) ≡ false
unfolding digit
below_the_least = refl

greatest : literal_fits (written SInt 8 Decimal false (codes "127")) ≡ true
unfolding digit
greatest = refl

past_the_greatest : literal_fits (written SInt 8 Decimal false (codes "128")) ≡ false
unfolding digit
past_the_greatest = refl

-- SInt<1> has -1 and 0
one_bit_least : literal_value (written SInt 1 Decimal true (codes "1")) ≡ 1
unfolding digit
one_bit_least = refl

one_bit_past : literal_fits (written SInt 1 Decimal false (codes "1")) ≡ false
unfolding digit
one_bit_past = refl

-- 128 bits: 2 ^ 128 - 1 fits, 2 ^ 128 doesn't, and the bits of -1 are all ones
widest : literal_fits (written UInt 128 Hexadecimal false (codes "ffffffffffffffffffffffffffffffff")) ≡ true
unfolding digit
widest = refl

past_the_widest : literal_fits (written UInt 128 Hexadecimal false (codes "100000000000000000000000000000000")) ≡ false
unfolding digit
past_the_widest = refl

all_ones : literal_value (written SInt 128 Decimal true (codes "1")) ≡ 340282366920938463463374607431768211455
unfolding digit
all_ones = refl

-- widths are 1 to 128
no_width : literal_shape (written UInt 0 Decimal false (codes "0")) ≡ None
unfolding digit
no_width = refl

too_wide : literal_shape (written UInt 129 Decimal false (codes "0")) ≡ None
unfolding digit
too_wide = refl
