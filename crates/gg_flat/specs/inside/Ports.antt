-- More on Ports: what no promise of the program reaches.
-- Source: FIRRTL Specification, "Modules" (the ports of the top); a clock is not a signal of a flat circuit.
use Rattle.std.specs.Prelude.{List}
use Rattle.gg_flat.specs.Circuit.{FlatCircuit}
use Rattle.gg_flat.specs.declared.ports.Port.{Port}
use Rattle.gg_flat.specs.Ports.{ports_at}

-- the ports that a flat circuit gives to the outside: the output ports, and the stops
abbrev pub out_ports : FlatCircuit → List Port
out_ports circuit = ports_at circuit circuit.outs
