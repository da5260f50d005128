-- Lists of names, each with a value.
use Rattle.std.specs.Prelude.{◌≡◌, ℕ, ◌+◌, Bool, false, List, [], ◌∷◌, ◌++◌, Option, Some, None, length, take, slice_index_or}
use Rattle.gg_ast.specs.Places.{place_of}
use Rattle.gg_types.specs.declared.sort.Own.{Own}

-- names, each with its type data, as far as that list goes
abbrev pub owned : List (List ℕ) → List Own → List (List ℕ × Option Own)
owned [] os = []
owned (name ∷ names) [] = []
owned (name ∷ names) (o ∷ os) = (name, Some o) ∷ owned names os

-- the flag at a place, if there is one
abbrev pub flag_at : List Bool → Option ℕ → Bool
flag_at flags None = false
flag_at flags (Some place) = slice_index_or flags place false

-- the flag of a name
abbrev pub flagged : List (List ℕ) → List Bool → List ℕ → Bool
flagged names flags name = flag_at flags (place_of name names)

-- the number at a place, if there is one
abbrev pub number_at : List (Option ℕ) → Option ℕ → Option ℕ
number_at numbers None = None
number_at numbers (Some place) = slice_index_or numbers place None

-- these names are the next after the first `count`
abbrev pub AreNext : List (List ℕ) → ℕ → List (List ℕ) → Type 0
AreNext names count more = take (count + length more) names ≡ take count names ++ more
