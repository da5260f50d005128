-- The channels of a cut: each carries the values of one signal from the machine that gives it to the machine that takes it.
-- Source: MEMOCODE 2009 (channels between the nodes of a dataflow network); ICCAD 2019 (a cut at the ports of instances and
-- of memories).
use Rattle.std.specs.Prelude.{ℕ, suc, List, [], ◌∷◌, ◌++◌, if◌then◌else◌, map, find, option_map, unwrap_or, bytes_eq}
use Rattle.gg_flat_tree.specs.declared.tree.InstancePort.{InstancePort}
use Rattle.gg_flat.specs.declared.memory.Reader.{Reader}
use Rattle.gg_flat.specs.declared.memory.Writer.{Writer}
use Rattle.gg_flat.specs.Circuit.{FlatCircuit, readers_at}
use Rattle.gg_flat_tree.specs.Tree.{InstanceTree, path_at, instance_at, memory_at, parent_place}
use Rattle.gg_flat_tree.specs.Scoped.{writers_at}
use Rattle.gg_partfile.specs.declared.request.BridgeEntry.{BridgeEntry}
use Rattle.gg_cut_plan.specs.declared.wires.Wire.{Wire}
use Rattle.gg_cut_plan.specs.declared.listed.Listed.{Listed}
use Rattle.gg_cut_plan.specs.Listed.{owner_of_instance, owner_of}
use Rattle.gg_cut_plan.specs.Machines.{first_unit, first_memory}
use Rattle.gg_cut_plan.specs.Ports.{Bridges, giver_of, keeper_of, ports_of}

-- a channel of a signal, with the machines at its two ends: the producer gives the signal that the consumer takes
abbrev pub wire : ℕ → ℕ → ℕ → Wire
wire signal producer consumer = record { signal = signal; given = signal; producer = producer; consumer = consumer }

-- the lists that f gives for each item and its number, joined; the first number is n
abbrev pub numbered : {A B : Type 0} → (ℕ → A → List B) → ℕ → List A → List B
numbered f n [] = []
numbered f n (x ∷ xs) = f n x ++ numbered f (suc n) xs

-- ---- the channels

-- a port of a unit: an input comes from the machine outside, an output goes to it
abbrev pub port_wire : ℕ → ℕ → InstancePort → Wire
port_wire outside unit port = if port.is_input then wire port.signal outside unit else wire port.signal unit outside

-- the channels of the ports of a unit: `number` is the unit's machine, `unit` its place in the tree
abbrev pub port_wires : InstanceTree → List ℕ → ℕ → ℕ → List Wire
port_wires tree units number unit =
    map (port_wire (owner_of_instance tree units (parent_place (instance_at tree unit).parent)) number) (instance_at tree unit).ports

-- a reader's fields: its address and its enable go to the memory, its data comes from it
abbrev pub reader_wires : ℕ → ℕ → Reader → List Wire
reader_wires outside memory reader = wire reader.addr outside memory ∷ wire reader.en outside memory ∷ wire reader.word memory outside ∷ []

-- a writer's fields go to the memory
abbrev pub writer_wires : ℕ → ℕ → Writer → List Wire
writer_wires outside memory writer =
    wire writer.addr outside memory ∷ wire writer.en outside memory ∷ wire writer.word outside memory ∷ wire writer.mask outside memory ∷ []

-- the lists that f gives for the items, joined
abbrev pub flattened : {A B : Type 0} → (A → List B) → List A → List B
flattened f [] = []
flattened f (x ∷ xs) = f x ++ flattened f xs

-- a memory's fields, by the place of the memory in the tree: its readers', then its writers'
abbrev pub field_wires : FlatCircuit → InstanceTree → List ℕ → ℕ → ℕ → List Wire
field_wires circuit tree units number j =
    let outside = owner_of_instance tree units (memory_at tree j).instance in
    flattened (reader_wires outside number) (readers_at circuit (memory_at tree j).memory)
    ++ flattened (writer_wires outside number) (writers_at circuit (memory_at tree j).memory)

-- the channel of a top input: to the hub, machine 0, from the input's source, or from the bridge that drives the input
abbrev pub input_wires : Bridges → ℕ → ℕ → List Wire
input_wires b place signal = wire signal (giver_of b place) 0 ∷ []

-- the channel of an out-signal: from its owner to its tray, or to the bridge that sees it
abbrev pub output_wires : FlatCircuit → InstanceTree → Listed → Bridges → ℕ → ℕ → List Wire
output_wires circuit tree listed b place signal = wire signal (owner_of circuit tree listed signal) (keeper_of b place) ∷ []

-- The channels in their order: each top input; each unit's ports, in port order; each listed memory's fields; each
-- out-signal of the top, its outputs before its stops.
abbrev pub wires_of : FlatCircuit → InstanceTree → Listed → List BridgeEntry → List Wire
wires_of circuit tree listed entries =
    numbered (input_wires (ports_of circuit tree listed entries)) 0 circuit.ins
    ++ (numbered (port_wires tree listed.units) first_unit listed.units
    ++ (numbered (field_wires circuit tree listed.units) (first_memory listed) listed.memories
    ++ numbered (output_wires circuit tree listed (ports_of circuit tree listed entries)) 0 circuit.outs))

-- a channel is named by its signal's path
abbrev pub channel_names : FlatCircuit → List ℕ → List (List ℕ)
channel_names circuit signals = map (path_at circuit.paths) signals

-- the capacity that the request gives for a name, otherwise the default
abbrev pub capacity_of : List (List ℕ × ℕ) → ℕ → List ℕ → ℕ
capacity_of capacities default name = unwrap_or (option_map (λ pair. pair.1) (find (λ pair. bytes_eq pair.0 name) capacities)) default
