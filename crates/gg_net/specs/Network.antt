-- A network: machines connected by channels, each with a queue of its own.
-- Source: MEMOCODE 2009 (a bounded dataflow network: nodes connected by queues of a bounded length); ICCAD 2019 (units
-- of a target that pass one another a token for each target cycle); Commoner, Holt, Even and Pnueli, "Marked Directed
-- Graphs" (1971), for a channel that holds a token at the start.
use Rattle.std.specs.Prelude.{◌≡◌, ℕ, suc, ◌+◌, ◌*◌, ◌<◌, List, [], ◌∷◌, Option, Some, None, Bool, true, false, length, map, slice_index_or}
use Rattle.gg_flat.specs.Clock.{Ratio}
use Rattle.gg_net.specs.declared.shape.Wire.{Wire}
use Rattle.gg_node.specs.Machine.{Behaviour, KeepsLast, Port, Machine, machine_at, latch_at, flag_at}

-- ---- channels

-- the channel with a number; past the end one that can't hold a token
abbrev pub wire_at : List Wire → ℕ → Wire
wire_at wires c = slice_index_or wires c (record { producer = 0; out = 0; consumer = 0; place = 0; capacity = 0; first = None })

-- Channel c is at in i of machine m.
pub record IsAtIn (wires : List Wire) (m i c : ℕ) : Type 0 where
  pub known : c < length wires
  pub machine : (wire_at wires c).consumer ≡ m
  pub place : (wire_at wires c).place ≡ i

-- Channel c is at out o of machine m.
pub record IsAtOut (wires : List Wire) (m o c : ℕ) : Type 0 where
  pub known : c < length wires
  pub machine : (wire_at wires c).producer ≡ m
  pub out : (wire_at wires c).out ≡ o

-- ---- networks

-- A network: its machines, its channels with their queues, the front first, and the number of cycles that it has to do.
pub record Network : Type 0 where
  pub machines : List Machine
  pub wires : List Wire
  pub queues : List (List ℕ)
  pub end : ℕ

-- the queue of the channel with a number; an empty one past the end
abbrev pub queue_at : List (List ℕ) → ℕ → List ℕ
queue_at queues c = slice_index_or queues c []

-- the machine that gives the tokens of a channel
abbrev pub producer_of : Network → ℕ → Machine
producer_of net c = machine_at net.machines (wire_at net.wires c).producer

-- the machine that takes the tokens of a channel
abbrev pub consumer_of : Network → ℕ → Machine
consumer_of net c = machine_at net.machines (wire_at net.wires c).consumer

-- ---- cycles

-- the cycle that a machine is in
abbrev pub cycle_at : Network → ℕ → ℕ
cycle_at net m = (machine_at net.machines m).cycle

-- all machines are in this cycle
abbrev pub AllStandAt : ℕ → Network → Type 0
AllStandAt cycle net = (m : ℕ) → m < length net.machines → cycle_at net m ≡ cycle

-- ---- counts

-- The number of tokens that an out has given, if its machine is in cycle `n` and its flag is this one: one more than
-- `n` if the flag is true.
abbrev pub and_one : ℕ → Bool → ℕ
and_one n false = n
and_one n true = suc n

-- the number of tokens that an in has got, in a machine in this cycle, if the in has this latch
abbrev pub got_by : ℕ → Option ℕ → ℕ
got_by cycle None = cycle
got_by cycle (Some value) = suc cycle

-- the number of tokens that were put into a channel
abbrev pub puts : Network → ℕ → ℕ
puts net c = and_one (producer_of net c).cycle (flag_at (producer_of net c).flags (wire_at net.wires c).out)

-- the number of tokens that were taken from a channel
abbrev pub takes : Network → ℕ → ℕ
takes net c = got_by (consumer_of net c).cycle (latch_at (consumer_of net c).latches (wire_at net.wires c).place)

-- the number of tokens that have entered a channel after `n` puts: `n`, and one more if it opens with a token
abbrev pub entered_by : Option ℕ → ℕ → ℕ
entered_by None n = n
entered_by (Some token) n = suc n

-- the number of tokens that have entered a channel
abbrev pub entered : Network → ℕ → ℕ
entered net c = entered_by (wire_at net.wires c).first (puts net c)

-- the queue of a channel before the first cycle
abbrev pub opening_queue : Option ℕ → List ℕ
opening_queue None = []
opening_queue (Some token) = token ∷ []

-- the number of times that a port of a machine was served since the first cycle: once for each served port in each
-- finished cycle, and once for each port served in this one
abbrev pub serves : Network → ℕ → ℕ
serves net m = length (machine_at net.machines m).ports * (machine_at net.machines m).cycle + (machine_at net.machines m).served

-- ---- the parts that never change

-- The parts of a machine that never change: what it does, the number of cycles that it can do, the ratios of its
-- clocks, the needs of its outs, the number of its ports, its served ports, and the numbers of ins and outs.
pub record Kind : Type 0 where
  pub behaviour : Behaviour
  pub limit : ℕ
  pub ratios : List Ratio
  pub needs : List (List ℕ)
  pub port_count : ℕ
  pub ports : List Port
  pub ins : ℕ
  pub outs : ℕ

-- the parts of a machine that never change
abbrev pub kind_of : Machine → Kind
kind_of machine =
    record {
      behaviour = machine.behaviour;
      limit = machine.limit;
      ratios = machine.ratios;
      needs = machine.needs;
      port_count = machine.port_count;
      ports = machine.ports;
      ins = length machine.latches;
      outs = length machine.flags;
    }

-- the kind of a machine that can do nothing
abbrev pub no_kind : Kind
no_kind = record { behaviour = KeepsLast 0; limit = 0; ratios = []; needs = []; port_count = 0; ports = []; ins = 0; outs = 0 }

-- the kind at a place; past the end one of a machine without ins and outs
abbrev pub kind_at : List Kind → ℕ → Kind
kind_at kinds m = slice_index_or kinds m no_kind

-- The parts of a network that never change: the kinds of its machines, its channels, and its end.
pub record Frame : Type 0 where
  pub kinds : List Kind
  pub wires : List Wire
  pub end : ℕ

-- the parts of a network that never change
abbrev pub frame_of : Network → Frame
frame_of net = record { kinds = map kind_of net.machines; wires = net.wires; end = net.end }
