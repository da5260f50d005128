-- Why a text is no number of a range.
use Rattle.std.proofs.Common.{◌≡◌, ◌<◌, ◌^◌, ℕ, Bool, List, length, Option, None, Some, Err, refl, cond, nat_lt, true, false, arith, rules}
use Rattle.std.specs.Prelude.{nat_le, ◌&&◌}
use Rattle.std.specs.Str.{all_ascii_digits}
use Rattle.std.specs.Str.Parse.{ParsesUnsigned, digits_value}
use Rattle.std.proofs.lemmas.Bool.Decides.{nat_tests}
use Rattle.std.proofs.lemmas.Str.Parse.{IsNumeralModel, numerals_by_value, parse_digits}
use Rattle.gg_words.specs.Number.{number_in}

pub digits_model : IsNumeralModel (λ ds. all_ascii_digits ds ≡ true) (digits_value 10)
digits_model = numerals_by_value _ (search rules)

-- digits that `parse` refuses are no number of a range: they are empty, or too large for any
pub parse-refuses : {E : Type 0} (least most : ℕ) (text : List ℕ) (e : E) → most < 2 ^ 32 → all_ascii_digits text ≡ true → ParsesUnsigned 32 10 text (Err e)
    → None ≡ number_in least most text
parse-refuses {E} least most text e fits digits parsed =
    go (nat_lt 0 (length text)) (all_ascii_digits text) (nat_le least (digits_value 10 text)) (nat_le (digits_value 10 text) most) refl refl
  where
    none : (0 < length text) → digits_value 10 text < 2 ^ 32 → ⊥
    none some small = parse_digits digits_model 32 text (Err e) parsed digits (some, small)

    go : (a b c d : Bool) → nat_lt 0 (length text) ≡ a → nat_le (digits_value 10 text) most ≡ d
        → ◌≡◌ {A = Option ℕ} None (cond (a && b && c && d) (Some (digits_value 10 text)) None)
    go false b c d some small = refl
    go true false c d some small = refl
    go true true false d some small = refl
    go true true true false some small = refl
    go true true true true some small = absurd (none (grind (arith, nat_tests)) (grind (arith, nat_tests)))
