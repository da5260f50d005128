-- The tokens of a line, what may follow the last one, and the first place where a line begins no token (FIRRTL
-- Specification, "Notes on Syntax", "Comments" and "Info").
use Rattle.std.specs.Prelude.{◌≡◌, ◌≢◌, ℕ, zero, suc, ◌+◌, ◌<◌, ◌≤◌, List, [], ◌∷◌, length, drop, take, Option, Some, None, slice_get}
use Rattle.std.specs.List.{prefix_len}
use Rattle.gg_lex.specs.Bytes.{semicolon, at_sign, open_bracket, backslash, close_bracket, is_blank}
use Rattle.gg_lex.specs.Tokens.{IsFirst, BeginsNoToken, token_of}
use Rattle.gg_lex.specs.declared.token.TokenKind.{TokenKind}
use Rattle.gg_lex.specs.declared.token.Tok.{Tok}

-- the bytes without the blanks at their front
abbrev pub after_blanks : List ℕ → List ℕ
after_blanks bs = drop (prefix_len is_blank bs) bs

-- file information begins here
abbrev pub OpensInfo : List ℕ → Type 0
OpensInfo bs = (slice_get bs 0 ≡ Some at_sign) × (slice_get bs 1 ≡ Some open_bracket)

-- place k has no backslash and is followed by a `]`
abbrev pub ClosesBehind : List ℕ → ℕ → Type 0
ClosesBehind bs k = (slice_get bs (k + 1) ≡ Some close_bracket) × (slice_get bs k ≢ Some backslash)

-- the first n bytes are one file information: `@[` up to the first `]` without a backslash before it
pub record IsInfo (bs : List ℕ) (n : ℕ) : Type 0 where
  pub opens : OpensInfo bs
  pub last : (k : ℕ) × (1 ≤ k) × (n ≡ k + 2) × ClosesBehind bs k
  pub first : (k : ℕ) → 1 ≤ k → k + 2 < n → ClosesBehind bs k → ⊥

-- nothing, or a comment, which begins with `;`
abbrev pub IsComment : List ℕ → Type 0
IsComment [] = Unit {0}
IsComment (b ∷ bs) = b ≡ semicolon

-- this many file informations, and then a comment or nothing; there may be blanks before each
abbrev pub IsEndWith : ℕ → List ℕ → Type 0
IsEndWith zero bs = IsComment (after_blanks bs)
IsEndWith (suc infos) bs = (n : ℕ) × IsInfo (after_blanks bs) n × IsEndWith infos (drop n (after_blanks bs))

-- what may follow the last token of a line
abbrev pub IsEnd : List ℕ → Type 0
IsEnd bs = (infos : ℕ) × IsEndWith infos bs

-- The bytes begin with these tokens. Each is the first token of the bytes that are left after the blanks before it.
-- After the last token `rest` is left.
abbrev pub Begins : List Tok → List ℕ → List ℕ → Type 0
Begins [] bs rest = rest ≡ bs
Begins (t ∷ ts) bs rest =
    (kind : TokenKind) × (n : ℕ) × IsFirst kind (after_blanks bs) n × (t ≡ token_of kind (take n (after_blanks bs))) × Begins ts (drop n (after_blanks bs)) rest

-- these are the tokens of the line, and after them is only what may follow the last token
pub record AreTokens (ts : List Tok) (line : List ℕ) : Type 0 where
  pub rest : List ℕ
  pub before : Begins ts line rest
  pub end : IsEnd rest

-- after these tokens the line's byte at this place begins no token, and the line doesn't end there
pub record FailsAt (ts : List Tok) (line : List ℕ) (place : ℕ) : Type 0 where
  pub rest : List ℕ
  pub before : Begins ts line rest
  pub no_token : BeginsNoToken (after_blanks rest)
  pub no_end : IsEnd rest → ⊥
  pub there : place + length (after_blanks rest) ≡ length line

-- the tokens of a line without a bad place; otherwise those up to its first bad place
abbrev pub Lexes : List ℕ → List Tok → Option ℕ → Type 0
Lexes line ts None = AreTokens ts line
Lexes line ts (Some place) = FailsAt ts line place
