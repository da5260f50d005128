-- The keys of objects are in the order of their bytes.
use Rattle.std.specs.Prelude.{◌≡◌, ℕ, List, is_some, true, false}
use Rattle.std.specs.Ordering.{nat_cmp}
use Rattle.std.specs.Cmp.Lexicographic.{slice_cmp}
use Rattle.std.specs.declared.cmp.Ordering.TheVariants.{Less}
use Rattle.serde_json.specs.Data.{Data}
use Rattle.serde_json.specs.Find.{get}
use Rattle.gg_partfile.specs.Keys.{is_known}

-- a text comes before another, by their bytes
abbrev pub IsBefore : List ℕ → List ℕ → Type 0
IsBefore a b = slice_cmp nat_cmp a b ≡ Less

-- no unknown key of an object comes before this one
abbrev pub IsLeastUnknown : Data → List ℕ → Type 0
IsLeastUnknown d key = (other : List ℕ) → is_some (get other d) ≡ true → is_known other ≡ false → ¬ IsBefore other key
