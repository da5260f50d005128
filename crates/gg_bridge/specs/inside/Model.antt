-- More on Model: what no promise of the program reaches.
-- Source: ICCAD 2019 (bridges: models in the host's own code that stand at a target's ports); MEMOCODE 2009 (a node whose
-- outputs need no input).
use Rattle.std.specs.Prelude.{◌≡◌, ℕ, List, [], length, map}
use Rattle.gg_flat.specs.Line.{value_at}
use Rattle.gg_flat.specs.Circuit.{FlatCircuit}
use Rattle.gg_flat.specs.State.{State, next_state}
use Rattle.gg_flat.specs.Settled.{Settled}

-- These are the values of the out-signals in a state, whatever the inputs are.
pub record IsSaid (model : FlatCircuit) (state : State) (values : List ℕ) : Type 0 where
  pub count : length values ≡ length model.outs
  pub each : (inputs row : List ℕ) → Settled model state inputs row → map (value_at row) model.outs ≡ values

-- The state after a cycle with these inputs.
abbrev pub IsAnswer : FlatCircuit → State → List ℕ → State → Type 0
IsAnswer model state inputs next = (row : List ℕ) → Settled model state inputs row → next ≡ next_state [] model state row
