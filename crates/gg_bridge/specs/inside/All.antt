-- More on All: what no promise of the program reaches.
-- Source: ICCAD 2019 (bridges: models in the host's own code that stand at a target's ports).
use Rattle.std.specs.Prelude.{◌≡◌, ◌≢◌, ℕ, ◌<◌, List, [], ◌∷◌, ◌++◌, length, flat_map, slice_index_or, AllPairs, ⊤}
use Rattle.std.specs.List.{range_with_len}
use Rattle.gg_flat.specs.Line.{value_at}
use Rattle.gg_flat.specs.Circuit.{FlatCircuit}
use Rattle.gg_flat.specs.Run.{Start, IsRunFrom, row_at, inputs_at, later, column}
use Rattle.gg_flat.specs.State.{State, opening}
use Rattle.gg_part.specs.PartRun.{part_rows}
use Rattle.gg_bridge.specs.Model.{IsModel}
use Rattle.gg_bridge.specs.inside.Joined.{CanJoin}
use Rattle.gg_bridge.specs.Joined.{joined, globals_behind}
use Rattle.gg_bridge.specs.All.{joined_state}

-- A bridge at a circuit's ports: the front of its model's paths, the model, and the signals that it sees and drives.
pub record Attached : Type 0 where
  pub front : List ℕ
  pub model : FlatCircuit
  pub sees : List ℕ
  pub drives : List ℕ

-- the circuit with the model of one bridge
abbrev pub with_bridge : FlatCircuit → Attached → FlatCircuit
with_bridge one bridge = joined one bridge.front bridge.model bridge.sees bridge.drives

-- the circuit with the models of these bridges
abbrev pub joined_all : FlatCircuit → List Attached → FlatCircuit
joined_all one [] = one
joined_all one (bridge ∷ bridges) = joined_all (with_bridge one bridge) bridges

-- the state of a circuit with the models of these bridges, each with zeros
abbrev pub joined_states : State → List Attached → State
joined_states state [] = state
joined_states state (bridge ∷ bridges) = joined_states (joined_state state (opening bridge.model)) bridges

-- A bridge can be at a circuit's ports.
pub record CanAttach (one : FlatCircuit) (bridge : Attached) : Type 0 where
  pub can : CanJoin one bridge.front bridge.model bridge.sees bridge.drives
  pub model : IsModel bridge.model

-- each bridge can be at the ports of the circuit with the bridges before it
abbrev pub CanAttachAll : FlatCircuit → List Attached → Type 0
CanAttachAll one [] = ⊤
CanAttachAll one (bridge ∷ bridges) = CanAttach one bridge × CanAttachAll (with_bridge one bridge) bridges

-- Each bridge can be at the circuit's own ports, they drive different inputs, and their paths differ.
pub record CanAttachEach (one : FlatCircuit) (bridges : List Attached) : Type 0 where
  pub each : (k : ℕ) (any : Attached) → k < length bridges → CanAttach one (slice_index_or bridges k any)
  pub once : AllPairs (λ a b. a ≢ b) (flat_map (λ bridge. bridge.drives) bridges)
  -- no path of one model is one of another
  pub apart : (j k : ℕ) (any : Attached) → j < k → k < length bridges → (a b : List ℕ) → (slice_index_or bridges j any).front ++ a ≢ (slice_index_or bridges k any).front ++ b

-- ---- runs from a start; row 0 is the row of the start's cycle

-- in n cycles, starting at this one, the inputs are the values of these signals, in order
abbrev pub HasInputs : (rows inputs : List (List ℕ)) (cycle n : ℕ) (signals : List ℕ) → Type 0
HasInputs rows inputs cycle n signals = (t place : ℕ) → t < n → place < length signals → value_at (inputs_at inputs (later cycle t)) place ≡ value_at (row_at rows t) (value_at signals place)

-- A model runs on what its bridge sees, with zeros at the start, and what the bridge drives has the columns of the model's out-signals. The
-- model's signals have these numbers.
pub record RunsModelFrom (cycle n : ℕ) (rows : List (List ℕ)) (globals : List ℕ) (bridge : Attached) : Type 0 where
  pub run : (inputs : List (List ℕ)) → HasInputs rows inputs cycle n bridge.sees → IsRunFrom bridge.model (record { cycle = cycle; state = opening bridge.model; ratios = [] }) inputs n (part_rows globals rows)
  pub driven : (i : ℕ) → i < length bridge.drives → column rows (value_at bridge.drives i) ≡ column (part_rows globals rows) (value_at bridge.model.outs i)

-- each model runs as in `RunsModelFrom`, in the circuit with the bridges before it; its signals come after all others
abbrev pub RunsModelsFrom : (cycle n : ℕ) → List (List ℕ) → FlatCircuit → List Attached → Type 0
RunsModelsFrom cycle n rows one [] = ⊤
RunsModelsFrom cycle n rows one (bridge ∷ bridges) = RunsModelFrom cycle n rows (globals_behind one bridge.model) bridge × RunsModelsFrom cycle n rows (with_bridge one bridge) bridges

-- The circuit runs on the values that its inputs have in these rows, and so does each model.
pub record RunsAllFrom (start : Start) (n : ℕ) (rows : List (List ℕ)) (one : FlatCircuit) (bridges : List Attached) : Type 0 where
  pub circuit : (inputs : List (List ℕ)) → HasInputs rows inputs start.cycle n one.ins → IsRunFrom one start inputs n (part_rows (range_with_len 0 (length one.signals)) rows)
  pub models : RunsModelsFrom start.cycle n rows one bridges
