-- A run that is made cycle by cycle.
-- Source: FIRRTL Specification, "Registers" (a state at a time); ICCAD 2019 for target cycles as rows.
use Rattle.std.specs.Prelude.{◌≡◌, ℕ, ◌+◌, List, [], ◌∷◌, ◌++◌}
use Rattle.gg_flat.specs.Clock.{edges_at}
use Rattle.gg_flat.specs.Circuit.{FlatCircuit}
use Rattle.gg_flat.specs.State.{State}
use Rattle.gg_flat.specs.Run.{Start, IsRunFrom, later, state_at, inputs_at}
use Rattle.gg_refsim.specs.Cycle.{Cycle}

-- One more cycle makes a run of n + 1 cycles of a run of n cycles.
abbrev pub RunContinues : Type 0
RunContinues =
    (circuit : FlatCircuit) (start : Start) (columns : List (List ℕ)) (n : ℕ) (rows : List (List ℕ))
    (before after : State) (inputs printed : List ℕ)
    -- There is a cycle, with the edges of the tick after the n cycles.
    → (cycle : Cycle (edges_at start.ratios (later start.cycle n)) circuit before inputs printed after)
    -- There is a run of n cycles, and the cycle begins in the state that the run leads to.
    → IsRunFrom circuit start columns n rows → before ≡ state_at circuit start rows n
    -- The cycle has the inputs of its number.
    → inputs ≡ inputs_at columns (later start.cycle n)
    -- The rows, followed by the cycle's, are a run.
    → IsRunFrom circuit start columns (n + 1) (rows ++ cycle.row ∷ [])

-- The longer run leads to the state after that cycle.
abbrev pub StateContinues : Type 0
StateContinues =
    (circuit : FlatCircuit) (start : Start) (columns : List (List ℕ)) (n : ℕ) (rows : List (List ℕ))
    (before after : State) (inputs printed : List ℕ)
    -- There is a cycle, with the edges of the tick after the n cycles.
    → (cycle : Cycle (edges_at start.ratios (later start.cycle n)) circuit before inputs printed after)
    -- There is a run of n cycles, and the cycle begins in the state that the run leads to.
    → IsRunFrom circuit start columns n rows → before ≡ state_at circuit start rows n
    -- The rows, followed by the cycle's, lead to the state after the cycle.
    → after ≡ state_at circuit start (rows ++ cycle.row ∷ []) (n + 1)
