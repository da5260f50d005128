-- A text and its lines as a relation. It allows only the list that `text_lines` computes.
-- Source: this program's own form; docs/FORMATS.md describes it.
use Rattle.std.specs.Prelude.{◌≡◌, ◌≢◌, ℕ, ◌-◌, ◌<◌, List, [], ◌∷◌, ◌++◌, length, slice_index, ◌⊎◌}

-- no byte is a line feed
abbrev pub HasNoFeed : List ℕ → Type 0
HasNoFeed text = (k : ℕ) → k < length text → slice_index text k ≢ 10

-- the last byte is a carriage return
pub record EndsInReturn (text : List ℕ) : Type 0 where
  pub some : 0 < length text
  pub is : slice_index text (length text - 1) ≡ 13

-- a line ends with CR LF, or with a line feed that has no carriage return before it
abbrev pub IsLineEnd : (line end : List ℕ) → Type 0
IsLineEnd line end = (end ≡ 13 ∷ 10 ∷ []) ⊎ ((end ≡ 10 ∷ []) × ¬ EndsInReturn line)

-- the text is a line, followed by its end and the rest
pub record IsEnded (text line rest : List ℕ) : Type 0 where
  pub end : List ℕ
  pub whole : text ≡ line ++ (end ++ rest)
  pub plain : HasNoFeed line
  pub is_end : IsLineEnd line end

-- the text is the only line that is left, and has no line end
pub record IsLastLine (text line : List ℕ) (more : List (List ℕ)) : Type 0 where
  pub some : 0 < length text
  pub plain : HasNoFeed text
  pub is : line ≡ text
  pub last : more ≡ []

-- these are the lines of the text; an empty text has none
abbrev pub AreLines : List ℕ → List (List ℕ) → Type 0
AreLines text [] = text ≡ []
AreLines text (line ∷ more) = IsLastLine text line more ⊎ ((rest : List ℕ) × IsEnded text line rest × AreLines rest more)
