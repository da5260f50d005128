-- The output ports of the top of a flat circuit, without its stops.
-- Source: FIRRTL Specification, "Modules" (the ports of the top); a clock is not a signal of a flat circuit.
use Rattle.std.specs.Prelude.{List}
use Rattle.gg_flat.specs.declared.ports.Port.{Port}
use Rattle.gg_flat.specs.Circuit.{FlatCircuit}
use Rattle.gg_flat.specs.Ports.{ports_at}
use Rattle.gg_flat_tree.specs.Tree.{InstanceTree, instance_at}
use Rattle.gg_flat_tree.specs.Scoped.{output_signals}

-- the top's outputs as ports, in port order
abbrev pub output_ports : FlatCircuit → InstanceTree → List Port
output_ports circuit tree = ports_at circuit (output_signals (instance_at tree 0).ports)
