-- The definitions of specs/ at numbers whose results are known without them.
use Rattle.std.proofs.Common.{◌≡◌, refl}
use Rattle.std.specs.Prelude.{Ok, Err}
use lib.Count.{ones}
use Rattle.gg_bits.specs.declared.types.Bad.TheVariants.{Kind, Width, Param}
use Rattle.gg_bits.specs.declared.ops.Op1.TheVariants.{Neg, Not, Xorr}
use Rattle.gg_bits.specs.declared.ops.Op2.TheVariants.{Add, Mul, Div, Rem, Lt, Dshl, Dshr, Cat}
use Rattle.gg_bits.specs.declared.ops.OpN.TheVariants.{Pad, Shr, Bits, Head, Tail}
use Rattle.gg_bits.specs.Shape.{uint, sint}
use Rattle.gg_bits.specs.ResultType.{type2, type_const}
use Rattle.gg_bits.specs.Meaning.{value1, value2, value_const, value_mux}

-- the greatest UInt<127>, added to itself
sum : value2 Add (uint 127) 0x7fff_ffff_ffff_ffff_ffff_ffff_ffff_ffff (uint 127) 0x7fff_ffff_ffff_ffff_ffff_ffff_ffff_ffff ≡ 0xffff_ffff_ffff_ffff_ffff_ffff_ffff_fffe
sum = refl

-- the least SInt<64>, multiplied by itself
square : value2 Mul (sint 64) 0x8000_0000_0000_0000 (sint 64) 0x8000_0000_0000_0000 ≡ 0x4000_0000_0000_0000_0000_0000_0000_0000
square = refl

-- shr(SInt<4> -3, 9)
shifted_out : value_const Shr (sint 4) 13 9 0 ≡ 1
shifted_out = refl

shifted_out_type : type_const Shr (sint 4) 9 0 ≡ Ok (sint 1)
shifted_out_type = refl

-- quotients and remainders of SInt<4>: -8 by -1, -7 by 2, 5 by 0
least_by_minus_one : value2 Div (sint 4) 8 (sint 4) 15 ≡ 8
least_by_minus_one = refl

least_rem_minus_one : value2 Rem (sint 4) 8 (sint 4) 15 ≡ 0
least_rem_minus_one = refl

cut_towards_zero : value2 Div (sint 4) 9 (sint 4) 2 ≡ 0x1d
cut_towards_zero = refl

sign_of_dividend : value2 Rem (sint 4) 9 (sint 4) 2 ≡ 0xf
sign_of_dividend = refl

by_zero : value2 Div (sint 4) 5 (sint 4) 0 ≡ 0
by_zero = refl

rem_zero : value2 Rem (sint 4) 5 (sint 4) 0 ≡ 0
rem_zero = refl

-- -1 < 0, though its pattern is greater
order_of_numbers : value2 Lt (sint 4) 15 (sint 4) 0 ≡ 1
order_of_numbers = refl

-- a shift amount of 7 bits makes the result 2 ^ 7 - 1 bits wider
widest_shift : type2 Dshl (uint 1) (uint 7) ≡ Ok (uint 128)
widest_shift = refl

too_wide_shift : type2 Dshl (uint 2) (uint 7) ≡ Err (Width 129)
too_wide_shift = refl

far_too_wide_shift : type2 Dshl (uint 1) (uint 128) ≡ Err (Width 4294967295)
far_too_wide_shift = refl

signed_amount : type2 Dshr (uint 1) (sint 128) ≡ Err Kind
signed_amount = refl

-- a parameter out of range is reported before a wrong width
bits_above : type_const Bits (uint 4) 4 0 ≡ Err Param
bits_above = refl

tail_of_all : type_const Tail (uint 4) 4 0 ≡ Err (Width 0)
tail_of_all = refl

head_of_more : type_const Head (uint 4) 5 0 ≡ Err Param
head_of_more = refl

-- the new bits are copies of the sign
padded : value_const Pad (sint 4) 13 8 0 ≡ 0xfd
padded = refl

middle : value_const Bits (uint 8) 0xa5 5 2 ≡ 9
middle = refl

upper : value_const Head (uint 8) 0xa5 3 0 ≡ 5
upper = refl

lower : value_const Tail (uint 8) 0xa5 3 0 ≡ 5
lower = refl

negated : value1 Neg (uint 4) 15 ≡ 0x11
negated = refl

turned : value1 Not (sint 4) 5 ≡ 10
turned = refl

odd : value1 Xorr (uint 8) 7 ≡ 1
unfolding ones
odd = refl

joined : value2 Cat (uint 4) 0xa (uint 8) 0x5c ≡ 0xa5c
joined = refl

-- a mux extends the value that it chooses
chosen : value_mux 1 (sint 2) 2 (sint 8) 5 ≡ 0xfe
chosen = refl
