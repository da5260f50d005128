-- Digits that are read again.
use Rattle.std.proofs.Common.{◌≡◌, ℕ, zero, suc, ◌/◌, ◌%◌, ◌<◌, ◌≤◌, ◌^◌, List, get_or, Result, Ok, Err, ◌≢◌, sym, ap, ◌∙◌, subst, arith}
use Rattle.std.specs.Str.{IsAscii}
use Rattle.std.specs.Char.{digit_char}
use Rattle.std.specs.Result.{OkIff}
use Rattle.std.specs.Str.Parse.{ParsesUnsigned, IsNumeral, digits_value, without_leading_plus}
use Rattle.std.proofs.Math.Pow.{pow_mono}
use Rattle.std.proofs.lemmas.Bool.Decides.{nat_tests}
use Rattle.std.proofs.lemmas.Str.Parse.{without_leading_plus_none}
use Rattle.gg_trace.specs.Cells.{IsHexadecimal, hexadecimal}
use Rattle.gg_trace.specs.Printing.{hex_digits, digit_count}
use Rattle.gg_trace.proofs.PrintLaws.{printed_value, digit_is_ascii}

pub hex-ascii : (k value : ℕ) → IsAscii (hex_digits k value)
hex-ascii zero value i = omega arith
hex-ascii (suc k) value zero = let small : value / 16 ^ k % 16 < 16 = omega arith in digit_is_ascii (value / 16 ^ k % 16) small
hex-ascii (suc k) value (suc i) = hex-ascii k value i

no-plus : (k value : ℕ) → get_or (hex_digits k value) 0 0 ≢ 43
no-plus zero value e = omega (arith, e)
no-plus (suc k) value e =
    let small : value / 16 ^ k % 16 < 16 = omega arith in
    high (value / 16 ^ k % 16) small e
  where
    high : (d : ℕ) → d < 16 → digit_char d ≡ 43 → ⊥
    high d h e = absurd (let low : 48 ≤ digit_char d = grind (arith, nat_tests) in omega (arith, low, e))

parsed : {E : Type 0} (r : Result ℕ E) (P : Type 0) (v value : ℕ) → OkIff r P v → P → v ≡ value → r ≡ Ok value
parsed (Ok x) P v value gives p e = ap Ok (gives.1 ∙ e)
parsed (Err e) P v value gives p is = absurd (gives p)

pub parse-hex : {E : Type 0} (width value : ℕ) (bs : List ℕ) (r : Result ℕ E) → 0 < width → width ≤ 128 → value < 2 ^ width → bs ≡ hex_digits (digit_count width) value → ParsesUnsigned 128 16 bs r → r ≡ Ok value
unfolding IsHexadecimal hexadecimal
parse-hex width value bs r some narrow fits is parses =
    let cell = printed_value width value some fits in
    let plain : without_leading_plus bs ≡ hex_digits (digit_count width) value = without_leading_plus_none bs (λ e. no-plus (digit_count width) value (ap (λ (l : List ℕ). get_or l 0 0) (sym is) ∙ e)) ∙ is in
    let number : digits_value 16 (without_leading_plus bs) ≡ value = ap (digits_value 16) plain ∙ cell.1 in
    let room : 2 ^ width ≤ 2 ^ 128 = pow_mono narrow in
    parsed r (IsNumeral 16 (without_leading_plus bs) × (digits_value 16 (without_leading_plus bs) < 2 ^ 128)) (digits_value 16 (without_leading_plus bs)) value parses
    (subst (IsNumeral 16) (sym plain) cell.0.digits, omega (arith, number, fits, room)) number
