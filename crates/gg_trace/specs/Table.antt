-- The contents of a trace: a column of values for each port.
use Rattle.std.specs.Prelude.{ℕ, List, map, slice_index}

-- row r of these columns: a value for each port, in port order
abbrev pub row_of : List (List ℕ) → ℕ → List ℕ
row_of columns r = map (λ column. slice_index column r) columns
