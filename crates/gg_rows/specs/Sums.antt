-- The sums of a demo's network: its size, and the fold of the rows of its outputs.
-- Source: this program's own. MEMOCODE 2009 for steps and their count.
use Rattle.std.specs.Prelude.{ℕ, List}
use Rattle.gg_flat.specs.Circuit.{FlatCircuit}
use Rattle.gg_flat.specs.Line.{value_at}
use Rattle.gg_flat.specs.Run.{column}

-- the column of out-signal k of a circuit in a run
abbrev pub output_column : FlatCircuit → (rows : List (List ℕ)) → (k : ℕ) → List ℕ
output_column circuit rows k = column rows (value_at circuit.outs k)
