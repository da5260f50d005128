-- More on Net: definitions that no promise of the program reaches.
-- Source: MEMOCODE 2009 (a network before its first cycle: latches, flags and queues are empty, except queues that open
-- with a token); ICCAD 2019 for hosts.
use Rattle.std.specs.Prelude.{◌≡◌, ℕ, ◌^◌, ◌<◌, ◌≤◌, List, [], None, false, length, map, sum, replicate, slice_index_or}
use Rattle.gg_bits.specs.Limits.{capacity_limit, cycle_limit}
use Rattle.gg_flat.specs.Line.{value_at}
use Rattle.gg_flat.specs.State.{State}
use Rattle.gg_flat.specs.Streams.{Flow, state_in}
use Rattle.gg_node.specs.Machine.{Behaviour, RunsPiece, GivesColumn, KeepsLast, Port, Machine, no_state, machine_at}
use Rattle.gg_node.specs.Step.{fields_of}
use Rattle.gg_net.specs.declared.shape.Wire.{Wire}
use Rattle.gg_net.specs.declared.shape.Station.{Station}
use Rattle.gg_net.specs.declared.shape.ServedPort.{ServedPort}
use Rattle.gg_net.specs.declared.shape.Shape.{Shape}
use Rattle.gg_net.specs.Network.{wire_at, IsAtIn, IsAtOut, Network, opening_queue, Kind, kind_at, Frame, frame_of}
use Rattle.gg_net.specs.inside.Queue.{Held}
use Rattle.gg_net.specs.inside.Stations.{machines_by, AreStationed}
use Rattle.gg_net.specs.Kept.{IsSound, Kept}
use Rattle.gg_net.specs.Net.{opening_net}

-- ---- the parts

-- the network of these parts
abbrev pub net_of : List (List Machine) → List Station → List Wire → List Held → ℕ → Network
net_of hosts stations wires queues end =
    record { machines = machines_by hosts stations; wires = wires; queues = map (λ queue. queue.tokens) queues; end = end }

-- the queue of the channel with a number; past the end an empty one without room
abbrev pub held_at : List Held → ℕ → Held
held_at queues c = slice_index_or queues c (record { tokens = []; room = 0 })

-- a port with the places of its fields
abbrev pub entry_of : Port → ServedPort
entry_of port = record { number = port.number; fields = fields_of port.access }

-- A station lists the channels at the ins and outs of its machine, and the ports that are served. Numbers of 32 bits
-- suffice for ins and outs.
pub record IsListed (wires : List Wire) (m : ℕ) (kind : Kind) (station : Station) : Type 0 where
  pub ins : length station.ins ≡ kind.ins
  pub into : (i : ℕ) → i < kind.ins → IsAtIn wires m i (value_at station.ins i)
  pub outs : length station.outs ≡ kind.outs
  pub from : (o : ℕ) → o < kind.outs → IsAtOut wires m o (value_at station.outs o)
  pub ports : station.ports ≡ map entry_of kind.ports
  pub few : (kind.ins < 2 ^ 32) × (kind.outs < 2 ^ 32)

-- each station lists the channels and ports of its machine
abbrev pub AreListed : Frame → List Station → Type 0
AreListed frame stations = (m : ℕ) (s : Station) → m < length stations → IsListed frame.wires m (kind_at frame.kinds m) (slice_index_or stations m s)

-- there is room in each queue for its capacity
abbrev pub HasRoom : List Wire → List Held → Type 0
HasRoom wires queues = (c : ℕ) → c < length wires → (wire_at wires c).capacity ≤ (held_at queues c).room

-- A network is within the limits: it has at most 1,000,000 cycles to do, numbers of 32 bits suffice for its machines,
-- its channels, and all ports that are served in a cycle, and a queue may hold at most 4,096 tokens.
pub record IsWithinLimits (frame : Frame) : Type 0 where
  pub cycles : frame.end ≤ cycle_limit
  pub machines : length frame.kinds < 2 ^ 32
  pub channels : length frame.wires < 2 ^ 32
  pub ports : sum (map (λ kind. length kind.ports) frame.kinds) < 2 ^ 32
  pub capacities : (c : ℕ) → c < length frame.wires → (wire_at frame.wires c).capacity ≤ capacity_limit

-- The invariant of the parts of a network.
pub record IsNet (flow : Flow) (hosts : List (List Machine)) (stations : List Station) (wires : List Wire) (queues : List Held) (end : ℕ) : Type 0 where
  -- each machine is at a thread of a host, and each thread has one
  pub stationed : AreStationed hosts stations
  pub listed : AreListed (frame_of (net_of hosts stations wires queues end)) stations
  -- each queue has memory for its channel's capacity
  pub room : HasRoom wires queues
  pub limits : IsWithinLimits (frame_of (net_of hosts stations wires queues end))
  pub kept : Kept flow (net_of hosts stations wires queues end)

-- the network of these hosts' machines, connected in this shape, with these queues
abbrev pub joined : List (List Machine) → Shape → List Held → Network
joined hosts shape queues = net_of hosts shape.stations.items shape.wires.items queues shape.end

-- These hosts, this shape and these queues are the parts of a network.
abbrev pub AreParts : Flow → List (List Machine) → Shape → List Held → Type 0
AreParts flow hosts shape queues = IsNet flow hosts shape.stations.items shape.wires.items queues shape.end

-- ---- before the first cycle

-- a machine that begins in the state `begins` is in this state; a machine without a piece has none
abbrev pub OpensIn : Behaviour → State → State → Type 0
OpensIn (RunsPiece piece) begins state = state ≡ begins
OpensIn (GivesColumn column) begins state = state ≡ no_state
OpensIn (KeepsLast rows) begins state = state ≡ no_state

-- Machine m is before its first cycle.
pub record IsOpening (flow : Flow) (m : ℕ) (machine : Machine) : Type 0 where
  pub cycle : machine.cycle ≡ flow.begin
  pub state : OpensIn machine.behaviour (state_in flow.states m) machine.state
  pub served : machine.served ≡ 0
  pub latches : machine.latches ≡ replicate (length machine.latches) None
  pub flags : machine.flags ≡ replicate (length machine.flags) false
  pub kept : machine.kept ≡ []

-- These hosts and stations make a network for this flow. Each machine has a thread of its own, is before its
-- first cycle, and is connected to its channels as its station lists them. The network is wired and has no ring, and
-- the flow solves it.
pub record Opens (flow : Flow) (hosts : List (List Machine)) (stations : List Station) (wires : List Wire) (end : ℕ) : Type 0 where
  pub stationed : AreStationed hosts stations
  pub opening : (m : ℕ) → m < length stations → IsOpening flow m (machine_at (machines_by hosts stations) m)
  pub listed : AreListed (frame_of (opening_net (machines_by hosts stations) wires end)) stations
  pub limits : IsWithinLimits (frame_of (opening_net (machines_by hosts stations) wires end))
  pub sound : IsSound flow (frame_of (opening_net (machines_by hosts stations) wires end))

-- The queues of the first n channels before the first cycle: each holds the token that it opens with, if there is one,
-- and has room for its capacity.
pub record AreOpen (wires : List Wire) (n : ℕ) (queues : List Held) : Type 0 where
  pub count : length queues ≡ n
  pub opened : (c : ℕ) → c < n → (held_at queues c).tokens ≡ opening_queue (wire_at wires c).first
  pub room : (c : ℕ) → c < n → (wire_at wires c).capacity ≤ (held_at queues c).room
