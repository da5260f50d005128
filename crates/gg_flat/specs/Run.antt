-- A run of a flat circuit, and the column of a signal.
-- Source: FIRRTL Specification, "Registers" (a state at a time); ICCAD 2019 for target cycles as rows. A cycle is a base tick, where some
-- of the circuit's clocks have an edge.
use Rattle.std.specs.Prelude.{◌≡◌, ℕ, zero, suc, ◌<◌, List, [], length, map, slice_index_or, All}
use Rattle.gg_flat.specs.Clock.{Ratio, edges_at}
use Rattle.gg_flat.specs.Line.{value_at}
use Rattle.gg_flat.specs.Circuit.{FlatCircuit}
use Rattle.gg_flat.specs.State.{State, opening, next_state}
use Rattle.gg_flat.specs.Settled.{Settled, IsInputs}

-- row t of a list of rows; an empty one past the end
abbrev pub row_at : List (List ℕ) → ℕ → List ℕ
row_at rows t = slice_index_or rows t []

-- the inputs of cycle t, where `columns` has the values of each in-signal by cycle
abbrev pub inputs_at : List (List ℕ) → ℕ → List ℕ
inputs_at columns t = map (λ column. value_at column t) columns

-- cycle c, t cycles later
abbrev pub later : ℕ → ℕ → ℕ
later zero t = t
later (suc c) t = suc (later c t)

-- the number of cycles from cycle c to cycle t; 0 if t is before c
abbrev pub since : ℕ → ℕ → ℕ
since zero t = t
since (suc c) zero = zero
since (suc c) (suc t) = since c t

-- where a run starts, and how its clocks tick: the cycle, the state, and a ratio for each clock
pub record Start : Type 0 where
  pub cycle : ℕ
  pub state : State
  pub ratios : List Ratio

-- the start of a whole run with these ratios for its clocks: cycle 0, with zeros
abbrev pub clocked_start : FlatCircuit → List Ratio → Start
clocked_start circuit ratios = record { cycle = 0; state = opening circuit; ratios = ratios }

-- the start of a whole run without ratios: each clock has an edge in each tick
abbrev pub opening_start : FlatCircuit → Start
opening_start circuit = clocked_start circuit []

-- the state after t cycles from the start, if the signals have the values `rows`
abbrev pub state_at : FlatCircuit → Start → List (List ℕ) → ℕ → State
state_at circuit start rows zero = start.state
state_at circuit start rows (suc t) = next_state (edges_at start.ratios (later start.cycle t)) circuit (state_at circuit start rows t) (row_at rows t)

-- A run of n cycles from a start: n rows. Each is settled, in the state that the rows before it lead to and with the
-- inputs of its cycle.
pub record IsRunFrom (circuit : FlatCircuit) (start : Start) (columns : List (List ℕ)) (n : ℕ) (rows : List (List ℕ)) : Type 0 where
  pub count : length rows ≡ n
  pub settled : (t : ℕ) → t < n → Settled circuit (state_at circuit start rows t) (inputs_at columns (later start.cycle t)) (row_at rows t)

-- a run of n cycles from the opening
abbrev pub IsRun : FlatCircuit → List (List ℕ) → ℕ → List (List ℕ) → Type 0
IsRun circuit columns n rows = IsRunFrom circuit (opening_start circuit) columns n rows

-- the column of a signal: its values, by cycle
abbrev pub column : List (List ℕ) → ℕ → List ℕ
column rows s = map (λ row. value_at row s) rows

-- Columns that the circuit can get for n cycles: one for each in-signal, each with n values, which are inputs in each
-- cycle.
pub record IsColumns (circuit : FlatCircuit) (n : ℕ) (columns : List (List ℕ)) : Type 0 where
  pub count : length columns ≡ length circuit.ins
  pub height : All (λ column. length column ≡ n) columns
  pub inputs : (t : ℕ) → t < n → IsInputs circuit (inputs_at columns t)
