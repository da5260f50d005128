-- Runs of a circuit: there is one along an order, there is no other, and runs can be joined and split.
-- Source: FIRRTL Specification, "Registers" (a state at a time); ICCAD 2019 for target cycles as rows.
use Rattle.std.specs.Prelude.{◌≡◌, ℕ, ◌+◌, ◌<◌, ◌≤◌, List, ◌++◌, take, drop}
use Rattle.gg_flat.specs.Circuit.{FlatCircuit}
use Rattle.gg_flat.specs.State.{IsState}
use Rattle.gg_flat.specs.Settled.{IsInputs}
use Rattle.gg_flat.specs.Run.{Start, later, IsRunFrom, IsRun, IsColumns, state_at, inputs_at}
use Rattle.gg_flat.specs.inside.Run.{after_rows}
use Rattle.gg_flat.specs.WellFormed.{IsWellFormed}
use Rattle.gg_flat.specs.Along.{rows_from}
use Rattle.gg_flat.specs.inside.Along.{rows_along}
use Rattle.gg_flat.specs.Order.{IsOrder}

-- A circuit with an order has at most one run of a length from a start with columns of inputs.
abbrev pub RunsOnce : Type 0
RunsOnce =
    (circuit : FlatCircuit) (order : List ℕ) (start : Start) (columns : List (List ℕ)) (n : ℕ) (rows others : List (List ℕ))
    -- The circuit has an order.
    → IsOrder circuit order
    -- There are two runs of n cycles from this start with these columns.
    → IsRunFrom circuit start columns n rows → IsRunFrom circuit start columns n others
    -- They are the same.
    → rows ≡ others

-- `RunsOnce` for runs from the opening.
abbrev pub OpensOnce : Type 0
OpensOnce =
    (circuit : FlatCircuit) (order : List ℕ) (columns : List (List ℕ)) (n : ℕ) (rows others : List (List ℕ))
    -- The circuit has an order.
    → IsOrder circuit order
    -- There are two runs of n cycles with these columns.
    → IsRun circuit columns n rows → IsRun circuit columns n others
    -- They are the same.
    → rows ≡ others

-- The rows that are computed along an order, cycle by cycle from a start, are a run.
abbrev pub RunsAlong : Type 0
RunsAlong =
    (circuit : FlatCircuit) (order : List ℕ) (start : Start) (columns : List (List ℕ)) (n : ℕ)
    -- The circuit is well formed and has an order.
    → IsWellFormed circuit → IsOrder circuit order
    -- The start has a state of the circuit, and the columns have inputs of the circuit in each of the n cycles.
    → IsState circuit start.state → ((t : ℕ) → t < n → IsInputs circuit (inputs_at columns (later start.cycle t)))
    -- The rows that are computed along the order are a run.
    → IsRunFrom circuit start columns n (rows_from circuit order start columns n)

-- `RunsAlong` for runs from the opening.
abbrev pub OpensAlong : Type 0
OpensAlong =
    (circuit : FlatCircuit) (order : List ℕ) (columns : List (List ℕ)) (n : ℕ)
    -- The circuit is well formed and has an order.
    → IsWellFormed circuit → IsOrder circuit order
    -- The columns are columns of the circuit for n cycles.
    → IsColumns circuit n columns
    -- The rows that are computed along the order are a run.
    → IsRun circuit columns n (rows_along circuit order columns n)

-- Each state of a run is of the circuit's counts and types, if the first one is.
abbrev pub StatesAreTyped : Type 0
StatesAreTyped =
    (circuit : FlatCircuit) (start : Start) (columns : List (List ℕ)) (n : ℕ) (rows : List (List ℕ))
    -- The circuit is well formed.
    → IsWellFormed circuit
    -- There is a run of n cycles, and it starts from a state of the circuit.
    → IsState circuit start.state → IsRunFrom circuit start columns n rows
    -- The state after each t cycles of the run is a state of the circuit.
    → (t : ℕ) → t ≤ n → IsState circuit (state_at circuit start rows t)

-- Two runs, the second from where the first leads to, are one run together.
abbrev pub RunsJoin : Type 0
RunsJoin =
    (circuit : FlatCircuit) (start : Start) (columns : List (List ℕ)) (n more : ℕ) (rows others : List (List ℕ))
    -- A first run has n cycles.
    → IsRunFrom circuit start columns n rows
    -- A second one starts at the cycle and in the state that the first leads to.
    → IsRunFrom circuit (after_rows circuit start rows n) columns more others
    -- The rows of both, one after the other, are a run from the first start.
    → IsRunFrom circuit start columns (n + more) (rows ++ others)

-- The first rows of a run are a run from the same start.
abbrev pub FirstRowsRun : Type 0
FirstRowsRun =
    (circuit : FlatCircuit) (start : Start) (columns : List (List ℕ)) (n more : ℕ) (rows : List (List ℕ))
    -- There is a run of n cycles and some more.
    → IsRunFrom circuit start columns (n + more) rows
    -- Its first n rows are a run.
    → IsRunFrom circuit start columns n (take n rows)

-- The rest of the rows of a run are a run from where the first ones lead to.
abbrev pub LastRowsRun : Type 0
LastRowsRun =
    (circuit : FlatCircuit) (start : Start) (columns : List (List ℕ)) (n more : ℕ) (rows : List (List ℕ))
    -- There is a run of n cycles and some more.
    → IsRunFrom circuit start columns (n + more) rows
    -- The rows after the first n are a run from the cycle and the state that the first n lead to.
    → IsRunFrom circuit (after_rows circuit start (take n rows) n) columns more (drop n rows)
