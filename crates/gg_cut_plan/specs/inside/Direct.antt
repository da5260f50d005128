-- More on Direct: what no promise of the program reaches.
-- Source: MEMOCODE 2009 (a fork: one out-signal of a node on several channels); this program's profile for which
-- channels are direct.
use Rattle.std.specs.Prelude.{◌≡◌, ℕ, List}
use Rattle.gg_flat.specs.Line.{value_at}
use Rattle.gg_flat.specs.Circuit.{FlatCircuit}
use Rattle.gg_flat.specs.State.{State}
use Rattle.gg_flat.specs.Settled.{Settled}
use Rattle.gg_cut_plan.specs.declared.wires.Wire.{Wire}

-- ---- the channels of a request

-- in each settled row both signals of the channel have one value
abbrev pub IsSame : FlatCircuit → Wire → Type 0
IsSame circuit r = (state : State) (inputs row : List ℕ) → Settled circuit state inputs row → value_at row r.signal ≡ value_at row r.given
