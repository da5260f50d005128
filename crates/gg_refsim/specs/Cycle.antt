-- One cycle of a flat circuit.
-- Source: FIRRTL Specification, "Registers", "Clock" types; ICCAD 2019 for target cycles as rows. A cycle is a base tick.
use Rattle.std.specs.Prelude.{◌≡◌, ℕ, List, Bool, map}
use Rattle.gg_flat.specs.Line.{value_at}
use Rattle.gg_flat.specs.Circuit.{FlatCircuit}
use Rattle.gg_flat.specs.State.{State, next_state}
use Rattle.gg_flat.specs.Settled.{Settled}

-- the values of the out-signals, in port order
abbrev pub outputs : FlatCircuit → List ℕ → List ℕ
outputs circuit row = map (λ s. value_at row s) circuit.outs

-- A cycle with these edges and inputs leads from one state to another. Some row is settled in the first state with the
-- inputs, the second is the next state by this row, and `printed` has the row's outputs.
pub record Cycle (edges : List Bool) (circuit : FlatCircuit) (before : State) (inputs printed : List ℕ) (after : State) : Type 0 where
  pub row : List ℕ
  pub settled : Settled circuit before inputs row
  pub outputs_are : printed ≡ outputs circuit row
  pub next : after ≡ next_state edges circuit before row
