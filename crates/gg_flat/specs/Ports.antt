-- The ports of a flat circuit: the paths and types of the signals that it gets from outside and gives to the outside.
-- Source: FIRRTL Specification, "Modules" (the ports of the top); a clock is not a signal of a flat circuit.
use Rattle.std.specs.Prelude.{ℕ, List, Option, Some, None, slice_get}
use Rattle.std.specs.List.{filter_map}
use Rattle.gg_flat.specs.declared.piece.Signal.{Signal}
use Rattle.gg_flat.specs.Circuit.{FlatCircuit}
use Rattle.gg_flat.specs.declared.ports.Port.{Port}

-- a port with this name and the type of this signal
abbrev pub port_with : Option (List ℕ) → Option Signal → Option Port
port_with None signal = None
port_with (Some name) None = None
port_with (Some name) (Some signal) = Some (record { name = name; ty = signal.ty })

-- signal s as a port: its path is its name
abbrev pub port_at : FlatCircuit → ℕ → Option Port
port_at circuit s = port_with (slice_get circuit.paths s) (slice_get circuit.signals s)

-- these signals as ports; a number that is no signal has none
abbrev pub ports_at : FlatCircuit → List ℕ → List Port
ports_at circuit signals = filter_map (port_at circuit) signals

-- the input ports, without clocks
abbrev pub in_ports : FlatCircuit → List Port
in_ports circuit = ports_at circuit circuit.ins
