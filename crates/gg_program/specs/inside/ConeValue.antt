-- More on ConeValue: what no promise of the program reaches.
-- Source: MEMOCODE 2009 (an output is ready when the inputs that it depends on are there), over the settled cycle.
use Rattle.std.specs.Prelude.{◌≡◌, ℕ, ◌<◌, List, length}
use Rattle.gg_flat.specs.Line.{value_at}
use Rattle.gg_flat.specs.Circuit.{FlatCircuit}
use Rattle.gg_flat.specs.State.{State}
use Rattle.gg_flat.specs.Reads.{Reaches}
use Rattle.gg_program.specs.ConeValue.{IsConeValue}

-- two lists of inputs, in port order, agree on the inputs that a signal needs
abbrev pub NeedsAlike : FlatCircuit → ℕ → List ℕ → List ℕ → Type 0
NeedsAlike circuit out inputs others =
    (place : ℕ) → place < length circuit.ins → Reaches circuit out (value_at circuit.ins place)
    → value_at inputs place ≡ value_at others place

-- Inputs that agree on what a signal needs give it the same value in this state.
abbrev pub IsGivenByNeeds : FlatCircuit → State → ℕ → Type 0
IsGivenByNeeds circuit state out =
    (inputs others : List ℕ) (value : ℕ) → NeedsAlike circuit out inputs others
    → IsConeValue circuit state inputs out value → IsConeValue circuit state others out value
