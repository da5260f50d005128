-- More on Along: what no promise of the program reaches.
-- Source: this program's own way to compute them; what a settled row and a run are is defined without an order.
use Rattle.std.specs.Prelude.{ℕ, List}
use Rattle.gg_flat.specs.Circuit.{FlatCircuit}
use Rattle.gg_flat.specs.Run.{opening_start}
use Rattle.gg_flat.specs.Along.{rows_from}

-- the rows of n cycles from the opening
abbrev pub rows_along : FlatCircuit → List ℕ → List (List ℕ) → ℕ → List (List ℕ)
rows_along circuit order columns n = rows_from circuit order (opening_start circuit) columns n
