-- More on Channels: what no promise of the program reaches.
-- Source: MEMOCODE 2009 (channels between the nodes of a dataflow network); ICCAD 2019 (a cut at the ports of instances and
-- of memories).
use Rattle.std.specs.Prelude.{ℕ, List, ◌++◌, map}
use Rattle.gg_flat.specs.Circuit.{FlatCircuit}
use Rattle.gg_flat_tree.specs.Tree.{InstanceTree, instance_at, memory_at}
use Rattle.gg_flat_tree.specs.Scoped.{memory_fields}
use Rattle.gg_cut_plan.specs.declared.listed.Listed.{Listed}
use Rattle.gg_cut_plan.specs.Channels.{flattened}

-- ---- the channels

-- the signals of an instance's ports, in port order
abbrev pub port_signals : InstanceTree → ℕ → List ℕ
port_signals tree unit = map (λ port. port.signal) (instance_at tree unit).ports

-- The signals of the channels, in order: the top's inputs, the units' ports, the listed memories' fields, the top's
-- outputs.
abbrev pub channel_signals : FlatCircuit → InstanceTree → Listed → List ℕ
channel_signals circuit tree listed =
    circuit.ins
    ++ (flattened (port_signals tree) listed.units
    ++ (flattened (λ j. memory_fields circuit (memory_at tree j).memory) listed.memories ++ circuit.outs))
