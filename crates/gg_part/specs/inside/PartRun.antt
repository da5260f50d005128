-- More on PartRun: what no promise of the program reaches.
-- Source: MEMOCODE 2009: the values of a part are the values of the same signals in the whole.
use Rattle.std.specs.Prelude.{ℕ, List, map}
use Rattle.gg_flat.specs.Line.{value_at}
use Rattle.gg_flat.specs.Circuit.{FlatCircuit}
use Rattle.gg_flat.specs.Run.{column}

-- the columns of the part's in-signals in the rows of the whole
abbrev pub part_columns : List ℕ → FlatCircuit → List (List ℕ) → List (List ℕ)
part_columns globals part rows = map (λ s. column rows (value_at globals s)) part.ins
