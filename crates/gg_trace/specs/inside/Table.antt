-- More on Table: what no promise of the program reaches.
use Rattle.std.specs.Prelude.{ℕ, ◌+◌, ◌*◌, List, map, slice_index}
use Rattle.std.specs.List.{range_with_len}

-- the count of rows, and for each port, in port order, its value in each row
pub record Table : Type 0 where
  pub rows : ℕ
  pub columns : List (List ℕ)

-- the table of the values in the list, row by row, this many values for each
abbrev pub table_of : ℕ → ℕ → List ℕ → Table
table_of rows width cells = record {
  rows = rows;
  columns = map (λ i. map (λ r. slice_index cells (r * width + i)) (range_with_len 0 rows)) (range_with_len 0 width);
}
