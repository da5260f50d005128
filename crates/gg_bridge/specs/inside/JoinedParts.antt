-- What holds of a circuit with a model in it: the circuit and the model are parts of it, and it is formed, ordered and started as they are.
-- Source: ICCAD 2019 (bridges: models in the host's own code that stand at a target's ports).
use Rattle.std.specs.Prelude.{◌≡◌, ℕ, List, [], length}
use Rattle.std.specs.List.{range_with_len}
use Rattle.gg_flat.specs.Circuit.{FlatCircuit}
use Rattle.gg_flat.specs.Order.{IsOrder}
use Rattle.gg_flat.specs.State.{State, IsState}
use Rattle.gg_flat.specs.WellFormed.{IsWellFormed}
use Rattle.gg_flat_tree.specs.Clocked.{clocks_from}
use Rattle.gg_part.specs.Part.{IsPart}
use Rattle.gg_bridge.specs.All.{joined_state}
use Rattle.gg_bridge.specs.inside.Joined.{CanJoin, HasOrder, placed}
use Rattle.gg_bridge.specs.Joined.{globals_behind, held_behind, joined, memories_behind}
use Rattle.gg_bridge.specs.Model.{IsModel}

-- A circuit is a part of the circuit with a model.
abbrev pub TheCircuitIsPart : Type 0
TheCircuitIsPart =
    (one : FlatCircuit) (front : List ℕ) (model : FlatCircuit) (sees drives : List ℕ)
    -- The model can be at the circuit's ports.
    → CanJoin one front model sees drives → IsWellFormed one
    -- The circuit's signals, registers, memories and clocks keep their numbers.
    → IsPart (joined one front model sees drives) one (range_with_len 0 (length one.signals)) (range_with_len 0 (length one.registers)) (range_with_len 0 (length one.memories)) (clocks_from 0 one.clocks)

-- A model, with its new paths, is a part of the circuit with the model.
abbrev pub TheModelIsPart : Type 0
TheModelIsPart =
    (one : FlatCircuit) (front : List ℕ) (model : FlatCircuit) (sees drives : List ℕ)
    -- Each signal of the circuit has a path.
    → length one.paths ≡ length one.signals → IsModel model
    -- The model's signals, registers and memories come after the circuit's. It has no clock of its own.
    → IsPart (joined one front model sees drives) (placed front model) (globals_behind one model) (held_behind one model) (memories_behind one model) []

-- The circuit with a model is well formed.
abbrev pub JoinedIsFormed : Type 0
JoinedIsFormed =
    (one : FlatCircuit) (front : List ℕ) (model : FlatCircuit) (sees drives : List ℕ)
    -- The model can be at the circuit's ports, and the circuit is well formed, as a model is.
    → CanJoin one front model sees drives → IsWellFormed one → IsModel model
    -- Then the circuit with the model is well formed.
    → IsWellFormed (joined one front model sees drives)

-- The circuit with a model has an order of evaluation, if the circuit has one.
abbrev pub JoinedIsOrdered : Type 0
JoinedIsOrdered =
    (one : FlatCircuit) (front : List ℕ) (model : FlatCircuit) (sees drives order : List ℕ)
    -- The model can be at the circuit's ports, and the circuit has an order, as a model has.
    → CanJoin one front model sees drives → IsWellFormed one → IsOrder one order → IsModel model
    -- Then the circuit with the model has an order.
    → HasOrder (joined one front model sees drives)

-- A state of the circuit and one of the model make a state of the circuit with the model.
abbrev pub StatesMakeAState : Type 0
StatesMakeAState =
    (one : FlatCircuit) (front : List ℕ) (model : FlatCircuit) (sees drives : List ℕ) (state begin : State)
    -- These are a state of the circuit and one of the model.
    → IsState one state → IsState model begin
    -- The model's registers and memories come after the circuit's.
    → IsState (joined one front model sees drives) (joined_state state begin)
