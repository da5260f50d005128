-- The longest front of some bytes that has a property, such as being a word.
-- Source: FIRRTL Specification, "Notes on Syntax" (identifiers, literals); that a token is as long as it can be is the usual rule.
use Rattle.std.specs.Prelude.{◌≡◌, ◌≢◌, ◌<◌, ℕ, false, IsFalse, slice_index, ◌≤◌, ◌==◌, ◌&&◌, if◌then◌else◌, List, [], ◌∷◌, length, take, slice_get, Option, Some, None}
use Rattle.std.specs.List.{AllPass}
use Rattle.gg_lex.specs.Bytes.{quote, minus, zero_digit, starts_word, is_digit_behind}
use Rattle.gg_lex.specs.inside.Bytes.{begins_number, is_in_class}
use Rattle.gg_lex.specs.Tokens.{IsFirst, BeginsNoToken, IsQuoted, spelling}
use Rattle.gg_lex.specs.declared.bytes.Class.{Class}
use Rattle.gg_lex.specs.declared.token.Front.{Front}
use Rattle.gg_lex.specs.declared.token.Symbol.{Symbol}

-- where a number with its radix may begin: how many bytes are before its digits, and the letter of the radix
abbrev pub radix_head : List ℕ → Option (ℕ × ℕ)
radix_head [] = None
radix_head (a ∷ []) = None
radix_head (a ∷ b ∷ []) = None
radix_head (a ∷ b ∷ c ∷ bs) =
    if a == minus && b == zero_digit then Some (3, c) else (if a == zero_digit then (if c == minus then Some (3, b) else Some (2, b)) else None)

-- the first n bytes have the property, and no longer front has it
pub record IsLongest (Has : List ℕ → Type 0) (bs : List ℕ) (n : ℕ) : Type 0 where
  pub within : n ≤ length bs
  pub has : Has (take n bs)
  pub longest : (m : ℕ) → m ≤ length bs → Has (take m bs) → m ≤ n

-- one or more bytes of the class
abbrev pub IsRunOf : Class → List ℕ → Type 0
IsRunOf class bs = (0 < length bs) × AllPass (is_in_class class) bs

-- the class of the digits of the radix with this letter; none if no radix has it
abbrev pub TellsDigits : ℕ → Option Class → Type 0
TellsDigits letter None = (b : ℕ) → is_digit_behind letter b ≡ false
TellsDigits letter (Some class) = (b : ℕ) → is_digit_behind letter b ≡ is_in_class class b

-- no front of the bytes has the property, not even the empty one
abbrev pub HasNoFront : (List ℕ → Type 0) → List ℕ → Type 0
HasNoFront Has bs = (n : ℕ) → n ≤ length bs → Has (take n bs) → ⊥

-- the length of the longest front with the property; none if there is none
abbrev pub FindsFront : (List ℕ → Type 0) → List ℕ → Option ℕ → Type 0
FindsFront Has bs None = HasNoFront Has bs
FindsFront Has bs (Some n) = IsLongest Has bs n

-- the kind and length of the first token; none if there is none
abbrev pub FindsToken : List ℕ → Option Front → Type 0
FindsToken bs None = BeginsNoToken bs
FindsToken bs (Some front) = IsFirst front.kind bs front.length

-- at this place is a quote, and the bytes before it are quoted
abbrev pub EndsQuoted : List ℕ → ℕ → Type 0
EndsQuoted bs n = (slice_get bs n ≡ Some quote) × IsQuoted (take n bs)

-- the only place of a quote that ends the quoted bytes; none if there is none
abbrev pub FindsQuote : List ℕ → Option ℕ → Type 0
FindsQuote bs None = (n : ℕ) → EndsQuoted bs n → ⊥
FindsQuote bs (Some n) = EndsQuoted bs n × ((m : ℕ) → EndsQuoted bs m → m ≡ n)

-- the first two bytes are this symbol
abbrev pub IsFrontOfTwo : List ℕ → Symbol → Type 0
IsFrontOfTwo bs symbol = (2 ≤ length bs) × (take 2 bs ≡ spelling symbol)

-- a first byte that begins no token except a symbol
pub record LeadsSymbol (bs : List ℕ) : Type 0 where
  pub nonempty : 0 < length bs
  pub no_word : IsFalse (starts_word (slice_index bs 0))
  pub no_number : IsFalse (begins_number (slice_index bs 0))
  pub no_text : slice_index bs 0 ≢ quote
