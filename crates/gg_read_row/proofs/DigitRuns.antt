-- The number of a run of digits.
use Rattle.std.proofs.Common.{◌≡◌, ℕ, ◌<◌, ◌^◌, List, [], ◌∷◌, length, Bool, true, false, ◌&&◌, Result, Ok, Err, Some, None, refl, sym, ap, ◌∙◌, arith}
use Rattle.std.specs.Prelude.{nat_lt, if◌then◌else◌}
use Rattle.std.specs.Char.{is_ascii_digit}
use Rattle.std.specs.Result.{OkIff, result_ok}
use Rattle.std.specs.List.{list_all}
use Rattle.std.specs.Str.{all_ascii_digits}
use Rattle.std.specs.Str.Parse.{ParsesUnsigned, digits_value}
use Rattle.std.proofs.lemmas.Str.Parse.{parse_digits, numerals_by_value, tells_all_ascii_digits}
use Rattle.gg_ast.specs.declared.expression.Radix.TheVariants.{Decimal}
use Rattle.gg_read_row.specs.Forms.{are_digits}
use Rattle.gg_read_row.specs.inside.Reading.{natural_of}

-- std's test for decimal digits tests each byte
decimal_digits : (bs : List ℕ) → all_ascii_digits bs ≡ list_all is_ascii_digit bs
decimal_digits [] = refl
decimal_digits (b ∷ bs) = ap (λ r. is_ascii_digit b && r) (decimal_digits bs)

by_bound : {E : Type 0} (v n : ℕ) (r : Result ℕ E) (b : Bool) → OkIff r ((0 < n) × (v < 2 ^ 32)) v → 0 < n → nat_lt v (2 ^ 32) ≡ b → result_ok r ≡ (if b then Some v else None)
by_bound v n (Ok x) true h some e = ap Some h.1
by_bound v n (Ok x) false h some e = absurd (grind (arith, h.0.1))
by_bound v n (Err x) true h some e = absurd (h (some, grind arith))
by_bound v n (Err x) false h some e = refl

-- `parse` of decimal digits gives the natural number that they spell, if it is at most 4,294,967,295
pub natural_parsed : {E : Type 0} (bs : List ℕ) (r : Result ℕ E) → are_digits Decimal bs ≡ true → ParsesUnsigned 32 10 bs r → result_ok r ≡ natural_of bs
natural_parsed [] r digits h = absurd (cc)
natural_parsed (b ∷ bs) r digits h =
    let own = numerals_by_value (λ ds. all_ascii_digits ds ≡ true) tells_all_ascii_digits in
    let all : all_ascii_digits (b ∷ bs) ≡ true = decimal_digits (b ∷ bs) ∙ digits in
    let parsed = parse_digits own 32 (b ∷ bs) r h all in
    by_bound (digits_value 10 (b ∷ bs)) (length (b ∷ bs)) r (nat_lt (digits_value 10 (b ∷ bs)) (2 ^ 32)) parsed (omega arith) refl
    ∙ ap (λ d. if (d && nat_lt (digits_value 10 (b ∷ bs)) (2 ^ 32)) then Some (digits_value 10 (b ∷ bs)) else None) (sym digits)
