-- A line and its fields as a relation. It allows only the list that `fields` computes.
-- Source: this program's own form; docs/FORMATS.md describes it.
use Rattle.std.specs.Prelude.{◌≡◌, ℕ, ◌<◌, true, false, List, [], ◌∷◌, ◌++◌, length, slice_index}
use Rattle.gg_trace.specs.Fields.{is_blank}

-- no byte is a blank
abbrev pub HasNoBlank : List ℕ → Type 0
HasNoBlank text = (k : ℕ) → k < length text → is_blank (slice_index text k) ≡ false

-- one or more blanks, and nothing more
pub record IsGap (gap : List ℕ) : Type 0 where
  pub some : 0 < length gap
  pub blanks : (k : ℕ) → k < length gap → is_blank (slice_index gap k) ≡ true

-- the text is a first field, followed by a gap and the rest, which doesn't begin with a blank
pub record IsCut (text field rest : List ℕ) : Type 0 where
  pub gap : List ℕ
  pub whole : text ≡ field ++ (gap ++ rest)
  pub plain : HasNoBlank field
  pub is_gap : IsGap gap
  pub ends : 0 < length rest → is_blank (slice_index rest 0) ≡ false

-- the text is these fields, with gaps between them
abbrev pub IsParted : List ℕ → List (List ℕ) → Type 0
IsParted text [] = ⊥
IsParted text (f ∷ []) = (text ≡ f) × HasNoBlank f
IsParted text (f ∷ g ∷ fs) = (rest : List ℕ) × IsCut text f rest × IsParted rest (g ∷ fs)

-- these are the fields of the line; an empty line has none
abbrev pub AreFields : List ℕ → List (List ℕ) → Type 0
AreFields [] fs = fs ≡ []
AreFields (b ∷ line) fs = IsParted (b ∷ line) fs
