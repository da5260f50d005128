-- A flat circuit with its in-signals and out-signals in another order.
-- Source: FIRRTL Specification, "Circuit Definitions" (ports are known by their names, whatever their order).
use Rattle.std.specs.Prelude.{ℕ, List, map, unwrap_or}
use Rattle.gg_flat.specs.declared.piece.Signal.{Signal}
use Rattle.gg_flat.specs.declared.piece.Driver.{Driver}
use Rattle.gg_flat.specs.declared.piece.Driver.TheVariants.{Input, Held, MemoryWord, ReadRegister, Computed}
use Rattle.gg_flat.specs.Line.{value_at}
use Rattle.gg_flat.specs.Circuit.{FlatCircuit}
use Rattle.gg_bridge.specs.Joined.{place_among}

-- the position of a place in this list; 0 if it isn't there
abbrev pub place_in : List ℕ → ℕ → ℕ
place_in places place = unwrap_or (place_among places place) 0

-- an in-signal's driver names the signal's new place
abbrev pub turned_driver : List ℕ → Driver → Driver
turned_driver ins (Input place) = Input (place_in ins place)
turned_driver ins (Held register) = Held register
turned_driver ins (MemoryWord memory reader addr en) = MemoryWord memory reader addr en
turned_driver ins (ReadRegister memory reader) = ReadRegister memory reader
turned_driver ins (Computed line) = Computed line

-- a signal with the new place in its driver, if it is an in-signal
abbrev pub turned_signal : List ℕ → Signal → Signal
turned_signal ins signal = record { ty = signal.ty; driver = turned_driver ins signal.driver }

-- The circuit with the in-signals at these places as its in-signals, and the out-signals at these places as its
-- out-signals, in this order.
abbrev pub turned : FlatCircuit → (ins outs : List ℕ) → FlatCircuit
turned circuit ins outs =
    record {
      paths = circuit.paths;
      signals = map (turned_signal ins) circuit.signals;
      registers = circuit.registers;
      memories = circuit.memories;
      ins = map (value_at circuit.ins) ins;
      outs = map (value_at circuit.outs) outs;
      clocks = circuit.clocks;
    }
