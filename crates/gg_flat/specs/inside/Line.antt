-- More on Line: what no promise of the program reaches.
use Rattle.std.specs.Prelude.{ℕ, ◌-◌, ◌<◌, List, length}
use Rattle.gg_bits.specs.Shape.{Shape, shape, Fits}
use Rattle.gg_flat.specs.Line.{value_at}

-- ---- types

-- signal s has a value among these, and it is of the shape `to`
abbrev pub HasValue : List ℕ → ℕ → Shape → Type 0
HasValue signals s to = (s < length signals) × Fits to (value_at signals s)
