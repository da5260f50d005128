-- The layout of a cut, in terms of the circuit: the ends, the capacity and the needs of each channel, the number of
-- ports of each machine, and the ports that it serves in a cycle, in their order.
-- Sources: MEMOCODE 2009 for channels, their bounds and what an output of a machine depends on; ICCAD 2019 for memories
-- of a target that are served port by port.
use Rattle.std.specs.Prelude.{◌≡◌, ℕ, ◌-◌, ◌<◌, List, [], ◌==◌, if◌then◌else◌, length, map, unwrap_or}
use Rattle.std.specs.List.{range_with_len}
use Rattle.gg_flat.specs.Circuit.{FlatCircuit, latency_at, readers_at}
use Rattle.gg_flat.specs.Line.{value_at}
use Rattle.gg_flat_tree.specs.Scoped.{writers_at}
use Rattle.gg_flat_tree.specs.Tree.{InstanceTree, memory_at, port_count}
use Rattle.gg_order.specs.Design.{Ordered}
use Rattle.gg_partfile.specs.declared.request.Request.{Request}
use Rattle.gg_cut_plan.specs.declared.listed.Listed.{Listed}
use Rattle.gg_cut_plan.specs.declared.wires.Wire.{Wire}
use Rattle.gg_cut_plan.specs.Listed.{first_place, listed_of}
use Rattle.gg_cut_plan.specs.Machines.{first_memory, is_memory}
use Rattle.gg_cut_plan.specs.Channels.{capacity_of}
use Rattle.gg_cut_plan.specs.Direct.{is_piped, plan_wires}
use Rattle.gg_cut_plan.specs.Ports.{machine_end, plan_bridges}
use Rattle.gg_cut_plan.specs.Plan.{wire_at}
use Rattle.gg_cut_reference.specs.text.CheckText.{AreChannelNeeds, channel_name}
use Rattle.gg_node.specs.Machine.{Port}
use Rattle.gg_node.specs.Step.{fields_of}
use Rattle.gg_memunit.specs.MemoryUnit.{ports_by}
use Rattle.gg_net.specs.Refusal.{Turn}
use Rattle.gg_net.specs.markings.Marking.{Link, Layout, link_at}

-- ---- channels

-- The link is channel c of the cut. It has the channel's ends, the capacity that the request gives for the channel's
-- name, otherwise the default, and exactly the channels that the channel needs in the circuit, in their order. It opens
-- with a token exactly if the request pipes the channel.
pub record IsChannelLink (design : Ordered) (request : Request) (default : ℕ) (listed : Listed) (wires : List Wire) (c : ℕ) (link : Link) : Type 0 where
  pub producer : link.producer ≡ (wire_at wires c).producer
  pub consumer : link.consumer ≡ (wire_at wires c).consumer
  pub capacity : link.capacity ≡ capacity_of request.capacity default (channel_name design.circuit wires c)
  pub needs : AreChannelNeeds design.circuit listed wires c link.needs
  pub piped : link.piped ≡ is_piped design.circuit request (wire_at wires c).signal

-- ---- ports

-- the first channel that carries signal s; 0 if none does
abbrev pub channel_of : List Wire → ℕ → ℕ
channel_of wires s = unwrap_or (first_place (λ w. w.signal == s) wires) 0

-- the turn of a port with signals of the circuit as its fields: the port's number, and the channels of its fields
abbrev pub turn_of : List Wire → Port → Turn
turn_of wires port = record { number = port.number; fields = map (channel_of wires) (fields_of port.access) }

-- the turns of memory k of the circuit: its ports in the order of serving
abbrev pub memory_turns : FlatCircuit → List Wire → ℕ → List Turn
memory_turns circuit wires k = map (turn_of wires) (ports_by (latency_at circuit k) (readers_at circuit k) (writers_at circuit k))

-- the memory of the circuit that machine m is, if it is a listed memory
abbrev pub memory_of : InstanceTree → Listed → ℕ → ℕ
memory_of tree listed m = (memory_at tree (value_at listed.memories (m - first_memory listed))).memory

-- the turns of machine m: its memory's turns if it is a listed memory, otherwise none
abbrev pub machine_turns : FlatCircuit → InstanceTree → Listed → List Wire → ℕ → List Turn
machine_turns circuit tree listed wires m = if is_memory listed m then memory_turns circuit wires (memory_of tree listed m) else []

-- the number of ports of machine m: its memory's number if it is a listed memory, otherwise 0
abbrev pub machine_ports : FlatCircuit → InstanceTree → Listed → ℕ → ℕ
machine_ports circuit tree listed m = if is_memory listed m then port_count circuit (memory_of tree listed m) else 0

-- ---- the layout

-- A layout of these channels: a link for each, the ports and the turns of each machine, and n cycles.
pub record IsLayoutBy (design : Ordered) (request : Request) (default n : ℕ) (listed : Listed) (wires : List Wire) (layout : Layout) : Type 0 where
  pub channels : length layout.links ≡ length wires
  pub link : (c : ℕ) → c < length wires → IsChannelLink design request default listed wires c (link_at layout c)
  pub ports : layout.port_counts ≡ map (machine_ports design.circuit design.tree listed) (range_with_len 0 (machine_end (plan_bridges design.circuit design.tree request)))
  pub turns : layout.turns ≡ map (machine_turns design.circuit design.tree listed wires) (range_with_len 0 (machine_end (plan_bridges design.circuit design.tree request)))
  pub end : layout.end ≡ n

-- the layout of the cut of a design and a request for n cycles; channels that the request doesn't name have the default
-- capacity
abbrev pub IsLayoutOf : Ordered → Request → ℕ → ℕ → Layout → Type 0
IsLayoutOf design request default n layout =
    IsLayoutBy design request default n (listed_of design.tree request) (plan_wires design.circuit design.tree request) layout
