-- The network with given counts of its steps: each of its queues, latches, flags and machines.
-- Source: MEMOCODE 2009 (the k-th token of each queue is the signal's value in cycle k, so that a network's state
-- follows from counts); ICCAD 2019 for memories that are served port by port.
use Rattle.std.specs.Prelude.{◌≡◌, ℕ, ◌-◌, ◌*◌, ◌<◌, List, Option, Some, None, Bool, true, false, length, take, drop, nat_lt}
use Rattle.gg_flat.specs.Line.{value_at}
use Rattle.gg_flat.specs.Streams.{Flow}
use Rattle.gg_node.specs.Machine.{KeepsLast, Machine, machine_at, latch_at, flag_at}
use Rattle.gg_net.specs.Network.{Network, Frame, Kind, wire_at, queue_at, kind_of, kind_at, frame_of, entered_by}
use Rattle.gg_net.specs.Kept.{IsStateOf, KeepsNone, list_at, rows_at, start_at}
use Rattle.gg_net.specs.inside.Counts.{Counts}
use Rattle.gg_measure.specs.inside.Nets.{AreLast}

-- a latch that holds this value, or is empty
abbrev pub latch_if : Bool → ℕ → Option ℕ
latch_if true value = Some value
latch_if false value = None

-- the number of ports that a machine has served in its cycle: all that it has served, without the ports of its finished
-- cycles
abbrev pub served_now : Kind → Counts → ℕ → ℕ
served_now kind counts m = counts.serves m - length kind.ports * counts.cycles m

-- the part of a list from one place up to another
abbrev pub part_of : List ℕ → ℕ → ℕ → List ℕ
part_of list from to = drop from (take to list)

-- The machine at place m with these counts. It has the kind of that place, and its state is the state of its rows. A
-- latch contains its channel's value of the cycle exactly if that token was taken. A flag is set exactly if the token
-- of the cycle was put. A tray has kept the last values of its channel, another machine none.
pub record MachineIsAt (flow : Flow) (frame : Frame) (counts : Counts) (m : ℕ) (machine : Machine) : Type 0 where
  pub kind : kind_of machine ≡ kind_at frame.kinds m
  pub cycle : machine.cycle ≡ counts.cycles m
  pub served : machine.served ≡ served_now (kind_at frame.kinds m) counts m
  pub state : let kind : Kind = kind_at frame.kinds m in IsStateOf kind.behaviour (start_at flow kind m) kind.ports (rows_at flow.runs m) (counts.cycles m) (served_now kind counts m) machine.state
  pub latches : (c : ℕ) → c < length frame.wires → (wire_at frame.wires c).consumer ≡ m → latch_at machine.latches (wire_at frame.wires c).place ≡ latch_if (nat_lt (counts.cycles m) (counts.takes c)) (value_at (list_at flow.lists c) (counts.cycles m))
  pub flags : (c : ℕ) → c < length frame.wires → (wire_at frame.wires c).producer ≡ m → flag_at machine.flags (wire_at frame.wires c).out ≡ nat_lt (counts.cycles m) (counts.puts c)
  pub kept : (c rows : ℕ) → c < length frame.wires → (wire_at frame.wires c).consumer ≡ m → (kind_at frame.kinds m).behaviour ≡ KeepsLast rows → AreLast (list_at flow.lists c) flow.begin rows (counts.cycles m) machine.kept
  pub rest : KeepsNone (kind_at frame.kinds m).behaviour machine.kept

-- The network of a frame and a flow with these counts. Each queue is the part of its channel's list from the number of
-- tokens taken to the number of tokens that have entered.
pub record IsAt (flow : Flow) (frame : Frame) (counts : Counts) (net : Network) : Type 0 where
  pub frame_is : frame_of net ≡ frame
  pub machines : (m : ℕ) → m < length frame.kinds → MachineIsAt flow frame counts m (machine_at net.machines m)
  pub count : length net.queues ≡ length frame.wires
  pub queues : (c : ℕ) → c < length frame.wires → queue_at net.queues c ≡ part_of (list_at flow.lists c) (counts.takes c) (entered_by (wire_at frame.wires c).first (counts.puts c))
