-- The value of a signal from the inputs that it needs.
-- Source: MEMOCODE 2009 (an output is ready when the inputs that it depends on are there), over the settled cycle.
use Rattle.std.specs.Prelude.{◌≡◌, ℕ, ◌<◌, List, length}
use Rattle.gg_flat.specs.Line.{value_at}
use Rattle.gg_flat.specs.Circuit.{FlatCircuit}
use Rattle.gg_flat.specs.State.{State}
use Rattle.gg_flat.specs.Settled.{Settled}
use Rattle.gg_flat.specs.Reads.{Reaches}

-- in a row, the in-signals that a signal reaches have these inputs, in port order
abbrev pub HasNeeds : FlatCircuit → List ℕ → ℕ → List ℕ → Type 0
HasNeeds circuit inputs out row =
    (place : ℕ) → place < length circuit.ins → Reaches circuit out (value_at circuit.ins place)
    → value_at row (value_at circuit.ins place) ≡ value_at inputs place

-- some row is settled in this state, and has the given inputs at the in-signals that the signal needs
pub record MaySettle (circuit : FlatCircuit) (state : State) (inputs : List ℕ) (out : ℕ) : Type 0 where
  pub others : List ℕ
  pub row : List ℕ
  pub settled : Settled circuit state others row
  pub needs : HasNeeds circuit inputs out row

-- The value of a signal in every row that is settled in this state and has the given inputs, in port order, at the
-- in-signals that the signal needs. There is such a row.
pub record IsConeValue (circuit : FlatCircuit) (state : State) (inputs : List ℕ) (out value : ℕ) : Type 0 where
  pub every : (others row : List ℕ) → Settled circuit state others row → HasNeeds circuit inputs out row → value_at row out ≡ value
  pub some : MaySettle circuit state inputs out
