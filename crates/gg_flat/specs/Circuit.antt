-- The flat circuit: what a contract sees of a piece.
-- Source: FIRRTL Specification, "Circuit Definitions", "Statements" (wires, nodes, registers, memories, connects). All
-- instances are inlined; signals of type Clock are left out.
use Rattle.std.specs.Prelude.{ℕ, List, [], None, map, slice_index_or}
use Rattle.gg_bits.specs.Shape.{Shape, shape}
use Rattle.gg_flat.specs.declared.piece.Signal.{Signal}
use Rattle.gg_flat.specs.declared.piece.Register.{Register}
use Rattle.gg_flat.specs.declared.memory.Latency.{Latency}
use Rattle.gg_flat.specs.declared.memory.Latency.TheVariants.{Zero}
use Rattle.gg_flat.specs.declared.memory.Reader.{Reader}
use Rattle.gg_flat.specs.declared.memory.Memory.{Memory}
use Rattle.gg_flat.specs.declared.piece.Driver.{Driver}
use Rattle.gg_flat.specs.declared.piece.Driver.TheVariants.{Input}

-- A flat circuit. Signals, registers and memories are named by their places. `paths` has the path of each signal, as
-- bytes; `ins` and `outs` are the signals that it gets from outside and gives to the outside, in port order. It has
-- `clocks` clocks, which registers and the ports of memories name by their numbers.
pub record FlatCircuit : Type 0 where
  pub paths : List (List ℕ)
  pub signals : List Signal
  pub registers : List Register
  pub memories : List Memory
  pub ins : List ℕ
  pub outs : List ℕ
  pub clocks : ℕ

-- the flat circuit without a signal
abbrev pub no_circuit : FlatCircuit
no_circuit = record { paths = []; signals = []; registers = []; memories = []; ins = []; outs = []; clocks = 0 }

-- the shapes of the signals, by their numbers
abbrev pub signal_shapes : FlatCircuit → List Shape
signal_shapes circuit = map (λ signal. shape signal.ty) circuit.signals

-- the driver of a signal; past the end the driver of an input
abbrev pub driver_at : FlatCircuit → ℕ → Driver
driver_at circuit s = slice_index_or (map (λ signal. signal.driver) circuit.signals) s (Input 0)

-- the shapes of the registers, by their numbers
abbrev pub register_shapes : FlatCircuit → List Shape
register_shapes circuit = map (λ register. shape register.ty) circuit.registers

-- the readers of the memory at a place; none past the end
abbrev pub readers_at : FlatCircuit → ℕ → List Reader
readers_at circuit m = slice_index_or (map (λ memory. memory.readers) circuit.memories) m []

-- the read latency of the memory at a place; 0 past the end
abbrev pub latency_at : FlatCircuit → ℕ → Latency
latency_at circuit m = slice_index_or (map (λ memory. memory.latency) circuit.memories) m Zero

-- the reader at a place; past the end one of signal 0
abbrev pub reader_at : List Reader → ℕ → Reader
reader_at readers r = slice_index_or readers r (record { addr = 0; en = 0; word = 0; clock = None })
