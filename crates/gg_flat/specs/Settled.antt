-- A settled cycle: which values the signals have together.
-- Source: FIRRTL Specification, "Connects", "Nodes", "Wires", "Registers", "Memories"; the meaning of a cycle without a
-- combinational loop. It is a relation on whole assignments, with no order of evaluation.
use Rattle.std.specs.Prelude.{◌≡◌, ℕ, ◌<◌, List, length, map}
use Rattle.gg_bits.specs.Shape.{Shape}
use Rattle.gg_flat.specs.declared.piece.Driver.{Driver}
use Rattle.gg_flat.specs.declared.piece.Driver.TheVariants.{Input, Held, MemoryWord, ReadRegister, Computed}
use Rattle.gg_flat.specs.Line.{shape_at, value_at, AreTyped, connected_value}
use Rattle.gg_flat.specs.Circuit.{FlatCircuit, signal_shapes, driver_at}
use Rattle.gg_flat.specs.Memory.{read_word, bank_at}
use Rattle.gg_flat.specs.State.{State}

-- The meaning of a signal's driver, if the signals have the values `signals` and the signal itself this shape. An
-- in-signal has its input, a register's signal its state, a reader's data the word at its address or its read register,
-- and any other signal the line's result.
abbrev pub driver_value : State → List ℕ → List ℕ → Shape → Driver → ℕ
driver_value state inputs signals sink (Input place) = value_at inputs place
driver_value state inputs signals sink (Held register) = value_at state.registers register
driver_value state inputs signals sink (MemoryWord memory reader addr en) = read_word (bank_at state.banks memory).words (value_at signals addr) (value_at signals en)
driver_value state inputs signals sink (ReadRegister memory reader) = value_at (bank_at state.banks memory).reads reader
driver_value state inputs signals sink (Computed line) = connected_value signals sink line

-- The values `signals` are settled: there is one for each signal, it is of the signal's type, and it is its driver's.
pub record Settled (circuit : FlatCircuit) (state : State) (inputs signals : List ℕ) : Type 0 where
  pub typed : AreTyped (signal_shapes circuit) signals
  pub driven : (s : ℕ) → s < length circuit.signals → value_at signals s ≡ driver_value state inputs signals (shape_at (signal_shapes circuit) s) (driver_at circuit s)

-- the shapes of the in-signals, in port order
abbrev pub in_shapes : FlatCircuit → List Shape
in_shapes circuit = map (shape_at (signal_shapes circuit)) circuit.ins

-- inputs that the circuit can get in a cycle, by their count and types
abbrev pub IsInputs : FlatCircuit → List ℕ → Type 0
IsInputs circuit inputs = AreTyped (in_shapes circuit) inputs
