-- One step over a line: the first token, and the bytes after it.
-- Source: FIRRTL Specification, "Notes on Syntax".
use Rattle.std.specs.Prelude.{◌≡◌, ℕ, ◌+◌, List, take, drop, length, Option, Some, None}
use Rattle.gg_lex.specs.Tokens.{IsFirst}
use Rattle.gg_lex.specs.Lines.{after_blanks, IsEnd}
use Rattle.gg_lex.specs.declared.token.NextToken.{NextToken}

-- `next` is the first token after the blanks
pub record IsNextToken (bs : List ℕ) (next : NextToken) : Type 0 where
  pub size : ℕ
  pub first : IsFirst next.kind (after_blanks bs) size
  pub text : next.text.now ≡ take size (after_blanks bs)
  pub after : next.after.now ≡ drop size (after_blanks bs)

-- the line may end where this is left; otherwise the byte after the blanks is at this place
abbrev pub EndsOrFails : List ℕ → List ℕ → Option ℕ → Type 0
EndsOrFails line rest None = IsEnd rest
EndsOrFails line rest (Some place) = (IsEnd rest → ⊥) × (place + length (after_blanks rest) ≡ length line)
