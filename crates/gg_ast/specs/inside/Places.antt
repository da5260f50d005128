-- More on Places: what no promise of the program reaches.
use Rattle.std.specs.Prelude.{◌≡◌, ◌≢◌, ℕ, ◌<◌, List, Some, String, slice_get}
use Rattle.std.specs.HashMap.{HashMap, get_by_text}
use Rattle.std.specs.declared.alloc.Global.{Global}
use Rattle.std.specs.declared.hash.FoldHasher.{FoldHasher}
use Rattle.std.specs.declared.hash.BuildHasherDefault.{BuildHasherDefault}
use Rattle.gg_ast.specs.Places.{place_of}

-- `i` is the place of the first name in the list that equals `name`
pub record IsFirstOf (names : List (List ℕ)) (name : List ℕ) (i : ℕ) : Type 0 where
  pub named : slice_get names i ≡ Some name
  pub first : (k : ℕ) → k < i → slice_get names k ≢ Some name

-- the list doesn't have the name
abbrev pub Lacks : List (List ℕ) → List ℕ → Type 0
Lacks names name = (k : ℕ) → slice_get names k ≢ Some name

-- a table from names to places: a look-up by any name returns the place of the first in the list
abbrev pub TellsPlaces : List (List ℕ) → HashMap (String Global) ℕ (BuildHasherDefault FoldHasher) → Type 0
TellsPlaces names places = (q : List ℕ) → get_by_text places q ≡ place_of q names
