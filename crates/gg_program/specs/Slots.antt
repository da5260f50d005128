-- Slots: the values of the signals in a cycle, and which of them are there already.
-- Source: MEMOCODE 2009 (a node gets its inputs one by one, and gives each output as soon as it can).
use Rattle.std.specs.Prelude.{◌≡◌, ◌⊎◌, ℕ, ◌<◌, List, length, map, Bool, true, false, slice_index_or}
use Rattle.gg_flat.specs.Line.{value_at, AreTyped}
use Rattle.gg_flat.specs.Circuit.{FlatCircuit, signal_shapes}
use Rattle.gg_flat.specs.Reads.{Reaches}
use Rattle.gg_order.specs.runs.Room.{HasRoom}

-- A place for the value of each signal, a mark for each signal that says whether its value is there, and room for this
-- many nodes.
pub record Slotted : Type 0 where
  pub values : List ℕ
  pub done : List Bool
  pub room : ℕ

-- a signal is done: its value of this cycle is in its place
abbrev pub IsDone : Slotted → ℕ → Type 0
IsDone slots s = slice_index_or slots.done s false ≡ true

-- the value of no signal is there
abbrev pub NoneDone : Slotted → Type 0
NoneDone slots = (s : ℕ) → ¬ IsDone slots s

-- the inputs, in port order: the values in the places of the in-signals
abbrev pub inputs_in : FlatCircuit → List ℕ → List ℕ
inputs_in circuit values = map (λ s. value_at values s) circuit.ins

-- slots of a circuit: the values have their signals' types, each signal has a mark, and there is room for each line
pub record AreSlots (circuit : FlatCircuit) (slots : Slotted) : Type 0 where
  pub typed : AreTyped (signal_shapes circuit) slots.values
  pub count : length slots.done ≡ length circuit.signals
  pub room : HasRoom circuit slots.room

-- the input at this place in port order was put
abbrev pub HasInput : FlatCircuit → Slotted → ℕ → Type 0
HasInput circuit slots place = IsDone slots (value_at circuit.ins place)

-- all inputs were put
abbrev pub HasInputs : FlatCircuit → Slotted → Type 0
HasInputs circuit slots = (place : ℕ) → place < length circuit.ins → HasInput circuit slots place

-- the inputs that a signal needs were put
abbrev pub HasNeeded : FlatCircuit → Slotted → ℕ → Type 0
HasNeeded circuit slots out = (place : ℕ) → place < length circuit.ins → Reaches circuit out (value_at circuit.ins place) → HasInput circuit slots place

-- What was done before is done, and what a signal reaches. If not all inputs were put before, no other signal is done.
pub record DoneWith (circuit : FlatCircuit) (out : ℕ) (before after : Slotted) : Type 0 where
  pub done : (s : ℕ) → IsDone before s ⊎ Reaches circuit out s → IsDone after s
  pub only : (s : ℕ) → IsDone after s → IsDone before s ⊎ Reaches circuit out s ⊎ HasInputs circuit before
