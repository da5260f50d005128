-- A list of numbers with a table of their places.
-- Source: this program's own: a table from a number of the whole circuit to its number in the part.
use Rattle.std.specs.Prelude.{◌≡◌, ℕ, ◌<◌, List, length}
use Rattle.gg_flat.specs.Line.{value_at}

-- At each of the first `count` numbers of the list, the table has a place of the number in the list. Its other entries don't matter.
pub record ArePlaces (items : List ℕ) (count : ℕ) (places : List ℕ) : Type 0 where
  pub known : (k : ℕ) → k < count → value_at items k < length places
  pub within : (k : ℕ) → k < count → value_at places (value_at items k) < count
  pub found : (k : ℕ) → k < count → value_at items (value_at places (value_at items k)) ≡ value_at items k
