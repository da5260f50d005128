-- Numbers among the words.
-- Source: this program's own command line; docs/FORMATS.md describes it.
use Rattle.std.specs.Prelude.{ℕ, ◌&&◌, nat_lt, nat_le, if◌then◌else◌, List, length, Option, None, Some, Result, Ok, Err}
use Rattle.std.specs.Option.{option_map_or}
use Rattle.std.specs.Str.{all_ascii_digits}
use Rattle.std.specs.Str.Parse.{digits_value}

-- a number in this range: one or more decimal digits, without a sign; leading zeros are allowed
abbrev pub number_in : (least most : ℕ) → List ℕ → Option ℕ
number_in least most text =
    if nat_lt 0 (length text) && all_ascii_digits text && nat_le least (digits_value 10 text) && nat_le (digits_value 10 text) most
    then Some (digits_value 10 text) else None

-- a value as a number in this range, or `Err` with the value if it isn't such a number
abbrev pub judged : (least most : ℕ) → List ℕ → Result ℕ (List ℕ)
judged least most text = option_map_or (λ n. Ok n) (number_in least most text) (Err text)

-- The number of an option that may have no value. Without a value it is the default.
abbrev pub number_of : (least most default : ℕ) → Option (List ℕ) → Result ℕ (List ℕ)
number_of least most default given = option_map_or (judged least most) given (Ok default)
