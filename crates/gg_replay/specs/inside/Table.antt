-- A table that finds names by their bytes.
-- Source: this program's own.
use Rattle.std.specs.Prelude.{◌≡◌, ℕ, List}
use Rattle.std.specs.Borrow.{Bor}
use Rattle.std.specs.List.{position}
use Rattle.std.specs.Str.{bytes_eq}
use Rattle.std.specs.HashMap.{HashMap, get_by}
use Rattle.std.specs.declared.hash.FoldHasher.{FoldHasher}
use Rattle.std.specs.declared.hash.BuildHasherDefault.{BuildHasherDefault}

-- a look-up of any bytes finds their first place in the list, if they have one
abbrev pub TellsNames : List (List ℕ) → HashMap (Bor (List ℕ)) ℕ (BuildHasherDefault FoldHasher) → Type 0
TellsNames names places = (word : List ℕ) → get_by (λ key. bytes_eq word key.now) places ≡ position (bytes_eq word) names
