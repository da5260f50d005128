-- More on Printed: definitions that no promise of the program reaches.
-- Source: ICCAD 2019 (Golden Gate) for target cycles as rows; MEMOCODE 2009 (the counts of a network say what it has done; the
-- k-th token of each queue is the value of its signal in cycle k, in whatever order the nodes go on).
use Rattle.std.specs.Prelude.{ℕ, ◌≡◌, ◌<◌, ◌+◌, List, Bool, Option, None, Some, Result, Ok, IfOk, true, false, not, nat_lt, ◌&&◌, length, map, take, drop}
use Rattle.gg_flat.specs.Clock.{Ratio}
use Rattle.gg_flat.specs.Circuit.{FlatCircuit}
use Rattle.gg_flat.specs.Run.{column}
use Rattle.gg_flat.specs.declared.ports.Port.{Port}
use Rattle.gg_io.specs.declared.output.Sink
use Rattle.gg_io.specs.inside.Endings.{PrintsOn}
use Rattle.gg_io.specs.WentOn.{SinkWentOn}
use Rattle.gg_io.specs.declared.endings.Ending.{Ending}
use Rattle.gg_trace.specs.Last.{acts, halts, row_count}
use Rattle.gg_trace.specs.Printing.{row_line, text_from, trace_text}

-- the columns of all out-signals of a circuit in a run
abbrev pub out_columns : FlatCircuit → (rows : List (List ℕ)) → List (List ℕ)
out_columns circuit rows = map (column rows) circuit.outs

-- the columns of the first out-signals of a circuit in a run, one for each port; the later ones are the stops'
abbrev pub shown_columns : FlatCircuit → List Port → (rows : List (List ℕ)) → List (List ℕ)
shown_columns circuit ports rows = map (column rows) (take (length ports) circuit.outs)

-- the columns of the out-signals after the ports', which are the conditions of the stops
abbrev pub stop_columns : FlatCircuit → List Port → (rows : List (List ℕ)) → List (List ℕ)
stop_columns circuit ports rows = map (column rows) (drop (length ports) circuit.outs)

-- whether a stop acts in cycle t of a run, where the clocks of the stops have these ratios
abbrev pub is_halt : List Ratio → FlatCircuit → List Port → (rows : List (List ℕ)) → (t : ℕ) → Bool
is_halt stops circuit ports rows t = halts stops (stop_columns circuit ports rows) t

-- how many of the first n cycles of a run have a row: up to the first where a stop acts, or all
abbrev pub rows_to : List Ratio → FlatCircuit → List Port → (rows : List (List ℕ)) → (n : ℕ) → ℕ
rows_to stops circuit ports rows n = row_count (is_halt stops circuit ports rows) n

-- the text of n rows of a run: a header, and the rows
abbrev pub text_to : FlatCircuit → List Port → (rows : List (List ℕ)) → (n : ℕ) → List ℕ
text_to circuit ports rows n = trace_text ports (shown_columns circuit ports rows) n

-- the text of the first n cycles of a run, up to the row of the first cycle where a stop acts
abbrev pub text_of : List Ratio → FlatCircuit → List Port → (rows : List (List ℕ)) → (n : ℕ) → List ℕ
text_of stops circuit ports rows n = text_to circuit ports rows (rows_to stops circuit ports rows n)

-- how many of n cycles of a run, starting at cycle `begin`, have a row: up to the first where a stop acts, or all
abbrev pub rows_since : List Ratio → FlatCircuit → List Port → (rows : List (List ℕ)) → (begin n : ℕ) → ℕ
rows_since stops circuit ports rows begin n = row_count (λ k. is_halt stops circuit ports rows (begin + k)) n

-- the text of n cycles of a run, starting at cycle `begin`, up to the row of the first cycle where a stop acts
abbrev pub text_since : List Ratio → FlatCircuit → List Port → (rows : List (List ℕ)) → (begin n : ℕ) → List ℕ
text_since stops circuit ports rows begin n = text_from ports (shown_columns circuit ports rows) begin (rows_since stops circuit ports rows begin n)

-- The form of the rows: the ports that are shown, and the ratios of the clocks of the stops.
pub record RowForm : Type 0 where
  pub ports : List Port
  pub stops : List Ratio

-- The row of a cycle was printed: its line, with the first values, one for each port, is on the output, or a front part of it if the
-- printing stopped. It is to go on if no stop acts in the cycle, by the other values.
pub record PrintsRow {K : Type 0} (sink : Sink.Ghosts K) (stops : List Ratio) (ports : List Port) (before : K) (cycle : ℕ) (row : List ℕ) (after : K) (answer : Result Bool Ending) : Type 0 where
  pub prints : PrintsOn sink before after (row_line ports cycle (take (length ports) row)) answer
  pub goes : IfOk answer (λ goes_on. goes_on ≡ not (acts stops cycle (drop (length ports) row)))
  pub on : SinkWentOn sink before after

-- `SeesStop` looks at the row of a cycle, in a run of this many cycles. It is to go on if no stop acts, or if the cycle is the last one. If it isn't
-- to go on, the cycle is noted.
pub record SeesStop (stops : List Ratio) (shown cycles : ℕ) (before : ℕ) (cycle : ℕ) (row : List ℕ) (after : ℕ) (answer : Result Bool Ending) : Type 0 where
  pub answers : answer ≡ Ok (not (acts stops cycle (drop shown row) && nat_lt (cycle + 1) cycles))
  pub goes : answer ≡ Ok true → after ≡ before
  pub notes : answer ≡ Ok false → after ≡ cycle

-- whether a stop ends a run of this many cycles in cycle t: one acts, and the cycle isn't the last
abbrev pub ends_run : List Ratio → FlatCircuit → List Port → (rows : List (List ℕ)) → (cycles t : ℕ) → Bool
ends_run stops circuit ports rows cycles t = is_halt stops circuit ports rows t && nat_lt (t + 1) cycles

-- the first of n cycles with this property, if there is one
abbrev pub IsFirst : (holds : ℕ → Bool) (n : ℕ) → Option ℕ → Type 0
IsFirst holds n None = (t : ℕ) → t < n → holds t ≡ false
IsFirst holds n (Some b) = (b < n) × (holds b ≡ true) × ((t : ℕ) → t < b → holds t ≡ false)
