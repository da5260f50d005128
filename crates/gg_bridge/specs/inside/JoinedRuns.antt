-- What a run of a circuit with a model in it is: a run of the circuit, and a run of the model. The same for several models.
-- Source: ICCAD 2019 (bridges: models in the host's own code that stand at a target's ports).
use Rattle.std.specs.Prelude.{◌≡◌, ℕ, ◌<◌, List, [], length}
use Rattle.std.specs.List.{range_with_len}
use Rattle.gg_flat.specs.Circuit.{FlatCircuit}
use Rattle.gg_flat.specs.Line.{value_at}
use Rattle.gg_flat.specs.Run.{Start, IsRunFrom, column}
use Rattle.gg_flat.specs.State.{State, IsState}
use Rattle.gg_flat.specs.WellFormed.{IsWellFormed}
use Rattle.gg_part.specs.PartRun.{part_rows}
use Rattle.gg_bridge.specs.inside.All.{Attached, CanAttachAll, HasInputs, RunsAllFrom, joined_all, joined_states}
use Rattle.gg_bridge.specs.All.{joined_state}
use Rattle.gg_bridge.specs.inside.Joined.{CanJoin}
use Rattle.gg_bridge.specs.Joined.{joined, globals_behind}
use Rattle.gg_bridge.specs.Model.{IsModel}

-- the start of a circuit with a model, from a start of the circuit and a state of the model
abbrev pub joined_start : Start → State → Start
joined_start start begin = record { cycle = start.cycle; state = joined_state start.state begin; ratios = start.ratios }

-- the start of a circuit with the models of these bridges, from a start of the circuit and zeros of the models
abbrev pub joined_starts : Start → List Attached → Start
joined_starts start bridges = record { cycle = start.cycle; state = joined_states start.state bridges; ratios = start.ratios }

-- A run of a circuit with a model is a run of the circuit.
abbrev pub RunsOfTheCircuit : Type 0
RunsOfTheCircuit =
    (one : FlatCircuit) (front : List ℕ) (model : FlatCircuit) (sees drives : List ℕ) (start : Start) (begin : State) (columns inputs : List (List ℕ)) (n : ℕ) (rows : List (List ℕ))
    -- The model can be at the circuit's ports.
    → CanJoin one front model sees drives → IsWellFormed one → IsModel model
    -- The run of both begins in a state of the circuit and one of the model.
    → IsState one start.state → IsState model begin
    → IsRunFrom (joined one front model sees drives) (joined_start start begin) columns n rows
    -- These inputs are the values of the circuit's in-signals in that run.
    → HasInputs rows inputs start.cycle n one.ins
    -- On these inputs the circuit's signals run as they do in that run.
    → IsRunFrom one start inputs n (part_rows (range_with_len 0 (length one.signals)) rows)

-- A run of a circuit with a model is a run of the model, on what the bridge sees.
abbrev pub RunsOfTheModel : Type 0
RunsOfTheModel =
    (one : FlatCircuit) (front : List ℕ) (model : FlatCircuit) (sees drives : List ℕ) (start : Start) (begin : State) (columns inputs : List (List ℕ)) (n : ℕ) (rows : List (List ℕ))
    -- The model can be at the circuit's ports.
    → CanJoin one front model sees drives → IsWellFormed one → IsModel model
    -- The run of both begins in a state of the circuit and one of the model.
    → IsState one start.state → IsState model begin
    → IsRunFrom (joined one front model sees drives) (joined_start start begin) columns n rows
    -- These inputs are the values of the signals that the bridge sees in that run.
    → HasInputs rows inputs start.cycle n sees
    -- On these inputs the model's signals, which come after the circuit's, run as they do in that run.
    → IsRunFrom model (record { cycle = start.cycle; state = begin; ratios = [] }) inputs n (part_rows (globals_behind one model) rows)

-- What a bridge drives has the columns of the model's out-signals.
abbrev pub DrivesWhatTheModelSays : Type 0
DrivesWhatTheModelSays =
    (one : FlatCircuit) (front : List ℕ) (model : FlatCircuit) (sees drives : List ℕ) (start : Start) (begin : State) (columns : List (List ℕ)) (n : ℕ) (rows : List (List ℕ)) (i : ℕ)
    -- The model can be at the circuit's ports.
    → CanJoin one front model sees drives → IsWellFormed one → IsModel model
    -- The run of both begins in a state of the circuit and one of the model.
    → IsState one start.state → IsState model begin
    → IsRunFrom (joined one front model sees drives) (joined_start start begin) columns n rows
    -- The i-th signal that the bridge drives has the column of the model's i-th out-signal.
    → i < length drives
    → column rows (value_at drives i) ≡ column (part_rows (globals_behind one model) rows) (value_at model.outs i)

-- A run of a circuit with the models of several bridges is a run of the circuit, and one of each model on what its bridge sees.
abbrev pub RunsOfAll : Type 0
RunsOfAll =
    (start : Start) (n : ℕ) (one : FlatCircuit) (bridges : List Attached) (columns rows : List (List ℕ))
    -- Each bridge can be at the ports of the circuit with the bridges before it.
    → CanAttachAll one bridges → IsWellFormed one
    -- The run of all begins in a state of the circuit, and with zeros of the models.
    → IsState one start.state
    → IsRunFrom (joined_all one bridges) (joined_starts start bridges) columns n rows
    -- The circuit and each model run in it.
    → RunsAllFrom start n rows one bridges
