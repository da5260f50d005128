-- The value of a field of a trace.
-- Source: this program's own form; docs/FORMATS.md describes it.
use Rattle.std.specs.Prelude.{ℕ, ◌^◌, ◌<◌, List}
use Rattle.std.specs.Str.Parse.{IsNumeral, digits_value}

-- one or more hexadecimal digits, in either case, and nothing more
unfoldable pub IsHexadecimal : List ℕ → Type 0
IsHexadecimal field = IsNumeral 16 field

-- the number that the digits write
unfoldable pub hexadecimal : List ℕ → ℕ
hexadecimal field = digits_value 16 field

-- the field is a value of this many bits
pub record IsCell (width : ℕ) (field : List ℕ) : Type 0 where
  pub digits : IsHexadecimal field
  pub fits : hexadecimal field < 2 ^ width
