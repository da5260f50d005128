-- Which inputs a settled row depends on.
-- Source: MEMOCODE 2009 (an output is ready when the inputs that it depends on are there), over the settled cycle.
use Rattle.std.specs.Prelude.{◌≡◌, ℕ, List, Contains}
use Rattle.gg_flat.specs.Line.{value_at}
use Rattle.gg_flat.specs.Circuit.{FlatCircuit}
use Rattle.gg_flat.specs.State.{State}
use Rattle.gg_flat.specs.Settled.{Settled}

-- a circuit has at most one settled row for a state and inputs
abbrev pub SettlesOnce : FlatCircuit → Type 0
SettlesOnce circuit = (state : State) (inputs v w : List ℕ) → Settled circuit state inputs v → Settled circuit state inputs w → v ≡ w

-- inputs, in port order, agree at these places
abbrev pub AreAlike : List ℕ → List ℕ → List ℕ → Type 0
AreAlike places inputs others = (place : ℕ) → Contains places place → value_at inputs place ≡ value_at others place

-- The value of a signal depends only on the inputs at these places: it is the same in all settled rows of one state with inputs that agree
-- there.
abbrev pub DependsOn : FlatCircuit → ℕ → List ℕ → Type 0
DependsOn circuit s places = (state : State) (inputs others v w : List ℕ) → Settled circuit state inputs v → Settled circuit state others w → AreAlike places inputs others → value_at v s ≡ value_at w s
