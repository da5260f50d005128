-- The number that is read from a field, digit by digit.
use Rattle.std.proofs.Common.{◌≡◌, ℕ, ◌+◌, ◌*◌, ◌^◌, ◌<◌, ◌≤◌, List, [], ◌∷◌, length, Option, None, Some, MatchOption, refl, ap, ◌∙◌, arith}
use Rattle.std.specs.Char.{digit_value}
use Rattle.std.specs.Str.Parse.{AllDigits, digits_value, digits_value_after}
use Rattle.gg_trace.specs.Cells.{IsHexadecimal, hexadecimal}
use Rattle.gg_trace.specs.inside.Cells.{AppendsDigit}

-- `rest` is what is left of the field; `value` is the number read so far, or none if the field's number doesn't fit 128 bits
pub record ReadsDigits (field rest : List ℕ) (value : Option ℕ) : Type 0 where
  pub before : AllDigits 16 rest → AllDigits 16 field
  pub whole : AllDigits 16 field → AllDigits 16 rest
  pub number : MatchOption value (2 ^ 128 ≤ digits_value 16 field) (λ v. digits_value_after 16 v rest ≡ digits_value 16 field)

pub reads_nothing : (field : List ℕ) → ReadsDigits field field (Some 0)
reads_nothing field = record { before = λ h. h; whole = λ h. h; number = refl }

-- further digits never make a number smaller
grows : (n : ℕ) (ds : List ℕ) → n ≤ digits_value_after 16 n ds
grows n [] = omega arith
grows n (d ∷ ds) = omega (arith, grows (n * 16 + digit_value d) ds)

next_number : (field rest : List ℕ) (c : ℕ) (value new : Option ℕ) → AppendsDigit value (digit_value c) new
    → MatchOption value (2 ^ 128 ≤ digits_value 16 field) (λ v. digits_value_after 16 v (c ∷ rest) ≡ digits_value 16 field)
    → MatchOption new (2 ^ 128 ≤ digits_value 16 field) (λ v. digits_value_after 16 v rest ≡ digits_value 16 field)
next_number field rest c None None append number = number
next_number field rest c None (Some x) append number = cc
next_number field rest c (Some v) None append number =
    let n = v * 16 + digit_value c in
    let wide : 2 ^ 128 ≤ n = omega (arith, append) in
    omega (arith, grows n rest, number, wide)
next_number field rest c (Some v) (Some x) append number = ap (λ n. digits_value_after 16 n rest) append.1 ∙ number

pub reads_digit : (field rest : List ℕ) (c : ℕ) (value new : Option ℕ) → ReadsDigits field (c ∷ rest) value → digit_value c < 16
    → AppendsDigit value (digit_value c) new → ReadsDigits field rest new
reads_digit field rest c value new reads digit append = record {
  before = λ h. reads.before (digit, h);
  whole = λ h. (reads.whole h).1;
  number = next_number field rest c value new append reads.number;
}

pub not_hexadecimal : (field rest : List ℕ) (c : ℕ) (value : Option ℕ) → ReadsDigits field (c ∷ rest) value → (digit_value c < 16 → ⊥) → IsHexadecimal field → ⊥
unfolding IsHexadecimal
not_hexadecimal field rest c value reads none hex = none (reads.whole hex.1).0

pub empty_not_hexadecimal : (field : List ℕ) → length field ≡ 0 → IsHexadecimal field → ⊥
unfolding IsHexadecimal
empty_not_hexadecimal field none hex = omega (arith, hex.0)

pub reads_all : (field : List ℕ) (value : Option ℕ) → 0 < length field → ReadsDigits field [] value
    → IsHexadecimal field × MatchOption value (2 ^ 128 ≤ hexadecimal field) (λ v. v ≡ hexadecimal field)
unfolding IsHexadecimal hexadecimal
reads_all field None some reads = ((some, reads.before tt), reads.number)
reads_all field (Some v) some reads = ((some, reads.before tt), reads.number)
