-- A circuit with a bridge's model in it. The circuit's signals, registers and memories keep their numbers, and the model's come after them. Each
-- in-signal of the model is a copy of the signal that the bridge sees there, and each input of the circuit that the bridge drives is a copy of the
-- model's out-signal. What is driven is no input any more, and what is seen no output.
-- Source: ICCAD 2019 (bridges: models in the host's own code that stand at a target's ports); FIRRTL Specification, "Connects".
use Rattle.std.specs.Prelude.{ℕ, suc, List, [], ◌∷◌, ◌++◌, not, ◌==◌, if◌then◌else◌, Option, Some, None, option_map, unwrap_or, length, map, filter}
use Rattle.std.specs.List.{list_any, range_with_len}
use Rattle.gg_bits.specs.Lists.{by_number}
use Rattle.gg_bits.specs.declared.types.Ty.{Ty}
use Rattle.gg_flat.specs.declared.line.Node.{Node}
use Rattle.gg_flat.specs.declared.line.Op.TheVariants.{Ref}
use Rattle.gg_flat.specs.declared.piece.Signal.{Signal}
use Rattle.gg_flat.specs.declared.piece.Driver.{Driver}
use Rattle.gg_flat.specs.declared.piece.Driver.TheVariants.{Input, Held, MemoryWord, ReadRegister, Computed}
use Rattle.gg_flat.specs.Line.{value_at}
use Rattle.gg_flat.specs.Circuit.{FlatCircuit}
use Rattle.gg_flat.specs.Renaming.{Renaming, renamed_driver, renamed_register, renamed_memory}

-- ---- lists of numbers

-- the first place of a number
abbrev pub place_among : List ℕ → ℕ → Option ℕ
place_among [] s = None
place_among (x ∷ xs) s = if x == s then Some 0 else option_map suc (place_among xs s)

-- the numbers of a list that aren't gone, in order
abbrev pub without : List ℕ → List ℕ → List ℕ
without gone list = filter (λ s. not (list_any (λ t. t == s) gone)) list

-- ---- the numbers of the model's parts, after the circuit's

-- the numbers of the model's signals, after the circuit's
abbrev pub globals_behind : (one model : FlatCircuit) → List ℕ
globals_behind one model = range_with_len (length one.signals) (length model.signals)

-- the numbers of the model's registers, after the circuit's
abbrev pub held_behind : (one model : FlatCircuit) → List ℕ
held_behind one model = range_with_len (length one.registers) (length model.registers)

-- the numbers of the model's memories, after the circuit's
abbrev pub memories_behind : (one model : FlatCircuit) → List ℕ
memories_behind one model = range_with_len (length one.memories) (length model.memories)

-- the model's signals, registers and memories get the numbers in these lists; the model has no clock of its own
abbrev pub behind_by : (globals held memories : List ℕ) → Renaming
behind_by globals held memories = record { signals = value_at globals; registers = value_at held; memories = value_at memories; clocks = λ clock. None }

-- ---- drivers

-- a bare reference to signal t
abbrev pub copy_line : Ty → ℕ → List Node
copy_line ty t = record { ty = ty; op = Ref t } ∷ []

-- the driver of a signal that isn't driven by the bridge: an input has its place among the inputs that are left, any other driver stays
abbrev pub left_at : (left : Option ℕ) → Driver → Driver
left_at left (Input place) = Input (unwrap_or left 0)
left_at left (Held register) = Held register
left_at left (MemoryWord memory reader addr en) = MemoryWord memory reader addr en
left_at left (ReadRegister memory reader) = ReadRegister memory reader
left_at left (Computed line) = Computed line

-- the driver of a signal of the circuit, by its place among the inputs that are left and among the signals that the bridge drives; `outs`
-- are the model's out-signals
abbrev pub linked_at : (outs : List ℕ) (left : Option ℕ) → Ty → Driver → Option ℕ → Driver
linked_at outs left ty driver None = left_at left driver
linked_at outs left ty driver (Some i) = Computed (copy_line ty (value_at outs i))

-- a signal of the circuit with this driver
abbrev pub linked_signal : (outs : List ℕ) (driven left : Option ℕ) → Signal → Signal
linked_signal outs driven left signal = record { ty = signal.ty; driver = linked_at outs left signal.ty signal.driver driven }

-- signal s of the circuit, by the signals that the bridge drives and the inputs that are left
abbrev pub linked : (outs drives left : List ℕ) → ℕ → Signal → Signal
linked outs drives left s signal = linked_signal outs (place_among drives s) (place_among left s) signal

-- the driver of a signal of the model, after the circuit's signals: an in-signal is a copy of what the bridge sees there
abbrev pub driver_behind : (globals held memories sees : List ℕ) → Ty → Driver → Driver
driver_behind globals held memories sees ty (Input place) = Computed (copy_line ty (value_at sees place))
driver_behind globals held memories sees ty driver = renamed_driver (behind_by globals held memories) driver

-- a signal of the model, after the circuit's signals
abbrev pub signal_behind : (globals held memories sees : List ℕ) → Signal → Signal
signal_behind globals held memories sees signal = record { ty = signal.ty; driver = driver_behind globals held memories sees signal.ty signal.driver }

-- ---- the circuit

-- The circuit with a model in it, by numbers: the numbers of the model's signals, registers and memories, what the bridge sees and drives, the
-- model's out-signals, and the ports that are left.
abbrev pub with_model : (one : FlatCircuit) (front : List ℕ) (model : FlatCircuit) (globals held memories sees drives said ins outs : List ℕ) → FlatCircuit
with_model one front model globals held memories sees drives said ins outs =
    record {
      paths = one.paths ++ map (λ path. front ++ path) model.paths;
      signals = by_number (linked said drives ins) 0 one.signals ++ map (signal_behind globals held memories sees) model.signals;
      registers = one.registers ++ map (λ register. renamed_register (behind_by globals held memories) register) model.registers;
      memories = one.memories ++ map (λ memory. renamed_memory (behind_by globals held memories) memory) model.memories;
      ins = ins;
      outs = outs;
      clocks = one.clocks;
    }

-- The circuit with a model in it. The paths of the model's signals get this front. The bridge sees the signals `sees`, one for each in-signal of the
-- model, and drives the in-signals `drives`, one for each out-signal.
abbrev pub joined : (one : FlatCircuit) (front : List ℕ) (model : FlatCircuit) (sees drives : List ℕ) → FlatCircuit
joined one front model sees drives =
    with_model one front model (globals_behind one model) (held_behind one model) (memories_behind one model) sees drives
    (map (value_at (globals_behind one model)) model.outs) (without drives one.ins) (without sees one.outs)
