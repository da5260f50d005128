-- More on Ports: what no promise of the program reaches.
-- Source: FIRRTL Specification, "Modules" (a port is known by its name); the paths of pipes and of models are this program's own.
use Rattle.std.specs.Prelude.{◌≡◌, ℕ, List, true, nat_lt, if◌then◌else◌, Option, Some, None, All}
use Rattle.std.specs.List.{list_any}
use Rattle.gg_flat.specs.Circuit.{FlatCircuit}
use Rattle.gg_flat.specs.Line.{value_at}
use Rattle.gg_bridge.specs.inside.Joined.{CanJoin, place_at}
use Rattle.gg_bridge.specs.Joined.{joined}
use Rattle.gg_bridge.specs.Ports.{driven_at, front_of, is_called, seen_at}

-- ---- by a table of places

-- the place that a table has for a signal, if there is a signal
abbrev pub place_by : List (Option ℕ) → Option ℕ → Option ℕ
place_by places None = None
place_by places (Some s) = place_at places s

-- the earlier of two places
abbrev pub earlier : Option ℕ → Option ℕ → Option ℕ
earlier None other = other
earlier (Some i) None = Some i
earlier (Some i) (Some j) = if nat_lt j i then Some j else Some i

-- the number at a place; 0 if there is none
abbrev pub picked : List ℕ → Option ℕ → ℕ
picked list None = 0
picked list (Some place) = value_at list place

-- ---- where a bridge can be

-- one of these signals is the port with this name
abbrev pub IsAmong : FlatCircuit → List ℕ → List ℕ → Type 0
IsAmong circuit signals name = list_any (is_called circuit name) signals ≡ true

-- A bridge of this name can be at the ports with these names: they are outputs and inputs of the circuit, and the circuit can be joined with the
-- model there.
pub record CanStand (circuit : FlatCircuit) (name : List ℕ) (model : FlatCircuit) (sees drives : List (List ℕ)) : Type 0 where
  pub outputs : All (IsAmong circuit circuit.outs) sees
  pub inputs : All (IsAmong circuit circuit.ins) drives
  pub can : CanJoin circuit (front_of name) model (seen_at circuit sees) (driven_at circuit drives)
