-- What the bytes of each token are, and which token a list of bytes begins with (FIRRTL Specification, "Notes on
-- Syntax" and the grammar's terminals).
use Rattle.std.specs.Prelude.{◌≡◌, ◌≢◌, ◌⊎◌, ℕ, ◌-◌, ◌<◌, ◌≤◌, List, [], ◌∷◌, ◌++◌, length, take, drop, codes, IsTrue, ◌==◌}
use Rattle.std.specs.Bool.{MatchBool}
use Rattle.std.specs.List.{AllPass}
use Rattle.std.specs.Char.{is_ascii_digit}
use Rattle.gg_lex.specs.Bytes.{quote, minus, zero_digit, backslash, starts_word, is_word_byte, is_tail_byte, is_digit_behind}
use Rattle.gg_lex.specs.declared.token.Symbol.{Symbol}
use Rattle.gg_lex.specs.declared.token.Symbol.TheVariants.{Connect, Arrow, PartialConnect, Colon, Comma, Dot, OpenParen, CloseParen, Less, Greater, Equals, OpenBracket, CloseBracket, OpenBrace, CloseBrace, OpenAnnotations}
use Rattle.gg_lex.specs.declared.token.TokenKind.{TokenKind}
use Rattle.gg_lex.specs.declared.token.TokenKind.TheVariants as kinds
use Rattle.gg_lex.specs.declared.token.Tok.{Tok}
use Rattle.gg_lex.specs.declared.token.Tok.TheVariants as tok

-- how a symbol is written
abbrev pub spelling : Symbol → List ℕ
spelling Connect = codes "<="
spelling Arrow = codes "=>"
spelling PartialConnect = codes "<-"
spelling Colon = codes ":"
spelling Comma = codes ","
spelling Dot = codes "."
spelling OpenParen = codes "("
spelling CloseParen = codes ")"
spelling Less = codes "<"
spelling Greater = codes ">"
spelling Equals = codes "="
spelling OpenBracket = codes "["
spelling CloseBracket = codes "]"
spelling OpenBrace = codes "{"
spelling CloseBrace = codes "}"
spelling OpenAnnotations = codes "%["

-- a word: a letter or `_`, then letters, digits, `_` and `$`, then dashes and letters
abbrev pub IsWord : List ℕ → Type 0
IsWord bs =
    (first : ℕ) × (body : List ℕ) × (tail : List ℕ) × (bs ≡ first ∷ (body ++ tail)) × IsTrue (starts_word first) × AllPass is_word_byte body × AllPass is_tail_byte tail

-- one or more decimal digits
abbrev pub IsDigits : List ℕ → Type 0
IsDigits bs = (0 < length bs) × AllPass is_ascii_digit bs

-- a decimal number: digits, with or without a `-` before them
abbrev pub IsDecimal : List ℕ → Type 0
IsDecimal [] = ⊥
IsDecimal (b ∷ bs) = MatchBool (b == minus) (IsDigits bs) (IsDigits (b ∷ bs))

-- one or more digits of the radix with this letter
abbrev pub AreDigitsBehind : ℕ → List ℕ → Type 0
AreDigitsBehind letter bs = (0 < length bs) × AllPass (is_digit_behind letter) bs

-- a number with its radix: `0`, the letter of the radix, and digits, as in `0h1f`; a `-` may be before the `0` or before the digits, but
-- not before both
pub record IsRadixNumber (bs : List ℕ) : Type 0 where
  pub letter : ℕ
  pub digits : List ℕ
  pub are : AreDigitsBehind letter digits
  pub spelt : (bs ≡ zero_digit ∷ letter ∷ digits) ⊎ (bs ≡ zero_digit ∷ letter ∷ minus ∷ digits) ⊎ (bs ≡ minus ∷ zero_digit ∷ letter ∷ digits)

-- a number, with its radix or decimal
abbrev pub IsNumber : List ℕ → Type 0
IsNumber bs = IsDecimal bs ⊎ IsRadixNumber bs

-- what is between the quotes of a text: no quote except after a backslash, which takes the next character with it (the
-- bytes after the first of a non-ASCII character are neither quotes nor backslashes)
abbrev pub IsQuoted : List ℕ → Type 0
IsQuoted [] = Unit {0}
IsQuoted (b ∷ []) = (b ≢ quote) × (b ≢ backslash)
IsQuoted (b ∷ c ∷ bs) = MatchBool (b == backslash) (IsQuoted bs) ((b ≢ quote) × IsQuoted (c ∷ bs))

-- a text: a quote, quoted bytes, a quote
abbrev pub IsText : List ℕ → Type 0
IsText bs = (quoted : List ℕ) × (bs ≡ quote ∷ (quoted ++ quote ∷ [])) × IsQuoted quoted

-- the bytes are a token of this kind
abbrev pub IsToken : TokenKind → List ℕ → Type 0
IsToken kinds.Word bs = IsWord bs
IsToken kinds.Number bs = IsNumber bs
IsToken kinds.Text bs = IsText bs
IsToken (kinds.Symbol symbol) bs = bs ≡ spelling symbol

-- the token of bytes of this kind: a text is kept without its quotes, its backslashes as written
abbrev pub token_of : TokenKind → List ℕ → Tok
token_of kinds.Word bs = tok.Word bs
token_of kinds.Number bs = tok.Number bs
token_of kinds.Text bs = tok.Text (take (length bs - 2) (drop 1 bs))
token_of (kinds.Symbol symbol) bs = tok.Symbol symbol

-- the first n bytes are a token of this kind, and no front of the bytes that is a token of any kind is longer
pub record IsFirst (kind : TokenKind) (bs : List ℕ) (n : ℕ) : Type 0 where
  pub within : n ≤ length bs
  pub token : IsToken kind (take n bs)
  pub longest : (other : TokenKind) (m : ℕ) → m ≤ length bs → IsToken other (take m bs) → m ≤ n

-- no front of the bytes is a token
abbrev pub BeginsNoToken : List ℕ → Type 0
BeginsNoToken bs = (kind : TokenKind) (n : ℕ) → n ≤ length bs → IsToken kind (take n bs) → ⊥
