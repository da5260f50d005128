-- More on Pass: definitions that no promise of the program reaches.
-- Source: MEMOCODE 2009 (a node takes its tokens, gives its tokens and then finishes its cycle, as its latches and flags
-- allow). The choice and the order of the events that a pass tries are this program's own.
use Rattle.std.specs.Prelude.{◌≡◌, ℕ, ◌+◌, ◌*◌, ◌<◌, ◌≤◌, List, None, true, false, length, slice_index_or}
use Rattle.gg_flat.specs.Line.{value_at}
use Rattle.gg_flat.specs.Streams.{Flow}
use Rattle.gg_link.specs.Seats.{SeatState}
use Rattle.gg_node.specs.Machine.{Machine, machine_at, latch_at, flag_at, missing}
use Rattle.gg_net.specs.declared.shape.Station.{Station}
use Rattle.gg_net.specs.Network.{Network, wire_at, queue_at, and_one, kind_of, Frame, frame_of, takes, puts, serves}
use Rattle.gg_net.specs.Kept.{MachineAt}
use Rattle.gg_net.specs.inside.Parted.{takes_by, enters_by}
use Rattle.gg_net.specs.declared.event.Event.TheVariants.{Latch, Fire, Serve, Finish}
use Rattle.gg_net.specs.Step.{Ready}
use Rattle.gg_workers_pass.specs.declared.choice.Chosen.{Chosen}
use Rattle.gg_workers_pass.specs.declared.machine_seats.MachineSeats.{MachineSeats}
use Rattle.gg_workers_pass.specs.Tries.{StandsBelow}
use Rattle.gg_workers_pass.specs.inside.Tries.{ServeIsDue, FinishIsDue}
use Rattle.gg_workers_pass.specs.inside.Rows.{SeatsByPlace}
use Rattle.gg_workers_pass.specs.Pass.{RisesTo}

-- ---- the counts of one machine

-- the number of tokens that a machine has put into a channel
abbrev pub puts_by : Frame → Machine → ℕ → ℕ
puts_by frame x c = and_one x.cycle (flag_at x.flags (wire_at frame.wires c).out)

-- the number of times that a port of a machine was served since the first cycle
abbrev pub serves_by : Machine → ℕ
serves_by x = length x.ports * x.cycle + x.served

-- Machine m has gone on: none of its counts has fallen, and none is above both its old value and its number after
-- `upto` cycles.
pub record MachineWentOn (frame : Frame) (m upto : ℕ) (old new : Machine) : Type 0 where
  pub kind : kind_of new ≡ kind_of old
  pub cycle : RisesTo upto old.cycle new.cycle
  pub takes : (c : ℕ) → c < length frame.wires → (wire_at frame.wires c).consumer ≡ m → RisesTo upto (takes_by frame old c) (takes_by frame new c)
  pub puts : (c : ℕ) → c < length frame.wires → (wire_at frame.wires c).producer ≡ m → RisesTo upto (puts_by frame old c) (puts_by frame new c)
  pub serves : RisesTo (length old.ports * upto) (serves_by old) (serves_by new)

-- ---- a machine with its seats

module _ {X S T : Type 0} (takes_from : X → S → Type 0) (puts_into : X → T → Type 0) (taking : S → SeatState) (putting : T → SeatState) (flow : Flow) (net : Network) (links : List X) where
  -- This can be the machine at place m. It has the seats of the channels at its ins and outs, by place, and they count
  -- what it counts.
  pub record HasSeats (m : ℕ) (ins outs : List ℕ) (x : Machine) (take_seats : List S) (put_seats : List T) : Type 0 where
    pub machine : MachineAt flow (frame_of net) m x
    pub takes : SeatsByPlace takes_from taking flow net (takes_by (frame_of net) x) links ins take_seats
    pub puts : SeatsByPlace puts_into putting flow net (enters_by (frame_of net) x) links outs put_seats

module _ {S T : Type 0} (taking : S → SeatState) (putting : T → SeatState) where
  -- The machine is as in the network, and its seats are new: they know how many tokens the network's queues held.
  pub record HasNewSeats (net : Network) (m : ℕ) (ins outs : List ℕ) (x : Machine) (take_seats : List S) (put_seats : List T) : Type 0 where
    pub machine : x ≡ machine_at net.machines m
    pub takes : (k : ℕ) (s : S) → k < length ins → ((taking (slice_index_or take_seats k s)).count ≡ 0) × ((taking (slice_index_or take_seats k s)).seen ≡ length (queue_at net.queues (value_at ins k)))
    pub puts : (k : ℕ) (s : T) → k < length outs → (putting (slice_index_or put_seats k s)).count ≡ length (queue_at net.queues (value_at outs k))

  -- A pass has done all that could be done before it, as far as the seats knew of tokens and of room. The machine was x
  -- with these seats, and is y.
  pub record KnownDone (frame : Frame) (upto : ℕ) (ins outs : List ℕ) (x : Machine) (take_seats : List S) (put_seats : List T) (y : Machine) : Type 0 where
    pub latch : (k : ℕ) (s : S) → k < length ins → StandsBelow upto x → latch_at x.latches k ≡ None → (taking (slice_index_or take_seats k s)).count < (taking (slice_index_or take_seats k s)).seen → takes_by frame x (value_at ins k) < takes_by frame y (value_at ins k)
    pub fire : (k : ℕ) (s : T) → k < length outs → StandsBelow upto x → flag_at x.flags k ≡ false → missing x k ≡ None → (putting (slice_index_or put_seats k s)).count < (putting (slice_index_or put_seats k s)).seen + (putting (slice_index_or put_seats k s)).capacity → puts_by frame x (value_at outs k) < puts_by frame y (value_at outs k)
    pub serve : (p : ℕ) → StandsBelow upto x → ServeIsDue x p → serves_by x < serves_by y
    pub finish : StandsBelow upto x → FinishIsDue x → x.cycle < y.cycle

  -- `KnownDone` for the chosen events only.
  pub record ChosenDone (frame : Frame) (upto : ℕ) (chosen : Chosen) (ins outs : List ℕ) (x : Machine) (take_seats : List S) (put_seats : List T) (y : Machine) : Type 0 where
    pub latch : (k : ℕ) (s : S) → chosen.first_in ≤ k → k < chosen.past_in → k < length ins → StandsBelow upto x → latch_at x.latches k ≡ None → (taking (slice_index_or take_seats k s)).count < (taking (slice_index_or take_seats k s)).seen → takes_by frame x (value_at ins k) < takes_by frame y (value_at ins k)
    pub fire : (k : ℕ) (s : T) → chosen.first_out ≤ k → k < chosen.past_out → k < length outs → StandsBelow upto x → flag_at x.flags k ≡ false → missing x k ≡ None → (putting (slice_index_or put_seats k s)).count < (putting (slice_index_or put_seats k s)).seen + (putting (slice_index_or put_seats k s)).capacity → puts_by frame x (value_at outs k) < puts_by frame y (value_at outs k)
    pub serve : (p : ℕ) → chosen.serves ≡ true → StandsBelow upto x → ServeIsDue x p → serves_by x < serves_by y
    pub finish : chosen.finishes ≡ true → StandsBelow upto x → FinishIsDue x → x.cycle < y.cycle

-- Machine m was below `upto` in the network: then each of its events that could be done there was done. It is y now.
pub record EventsDone (net : Network) (m upto : ℕ) (y : Machine) : Type 0 where
  pub latch : (c : ℕ) → Ready net (Latch c) → (wire_at net.wires c).consumer ≡ m → StandsBelow upto (machine_at net.machines m) → takes net c < takes_by (frame_of net) y c
  pub fire : (c : ℕ) → Ready net (Fire c) → (wire_at net.wires c).producer ≡ m → StandsBelow upto (machine_at net.machines m) → puts net c < puts_by (frame_of net) y c
  pub serve : (p : ℕ) → Ready net (Serve m p) → StandsBelow upto (machine_at net.machines m) → serves net m < serves_by y
  pub finish : Ready net (Finish m) → StandsBelow upto (machine_at net.machines m) → (machine_at net.machines m).cycle < y.cycle

-- ---- the machine at a station, at the station's thread of these machines of a host

module _ {X S T : Type 0} (takes_from : X → S → Type 0) (puts_into : X → T → Type 0) (taking : S → SeatState) (putting : T → SeatState) (flow : Flow) (net : Network) (links : List X) where
  -- It can be machine m, and has these seats of the channels at the station.
  abbrev pub HasSeatsAt : ℕ → Station → List Machine → MachineSeats S T → Type 0
  HasSeatsAt m station machines machine_seats = HasSeats takes_from puts_into taking putting flow net links m station.ins station.outs (machine_at machines station.thread) machine_seats.takes.items machine_seats.puts.items

module _ {S T : Type 0} (taking : S → SeatState) (putting : T → SeatState) where
  -- A pass from the first machines to the second has done all that these seats knew could be done.
  abbrev pub KnownDoneAt : Frame → ℕ → Station → List Machine → MachineSeats S T → List Machine → Type 0
  KnownDoneAt frame upto station old machine_seats new = KnownDone taking putting frame upto station.ins station.outs (machine_at old station.thread) machine_seats.takes.items machine_seats.puts.items (machine_at new station.thread)

  -- A first pass does all that the network could do.
  abbrev pub DoneAtFirst : Network → ℕ → Station → List Machine → MachineSeats S T → List Machine → Type 0
  DoneAtFirst net upto station old machine_seats new =
      -- The machine was as in the network, and these seats were new.
      HasNewSeats taking putting net machine_seats.machine station.ins station.outs (machine_at old station.thread) machine_seats.takes.items machine_seats.puts.items
      -- Each of its events that could be done in the network was done.
      → EventsDone net machine_seats.machine upto (machine_at new station.thread)

  -- `KnownDoneAt` for the chosen events only
  abbrev pub ChosenDoneAt : Frame → ℕ → Chosen → Station → List Machine → MachineSeats S T → List Machine → Type 0
  ChosenDoneAt frame upto chosen station old machine_seats new = ChosenDone taking putting frame upto chosen station.ins station.outs (machine_at old station.thread) machine_seats.takes.items machine_seats.puts.items (machine_at new station.thread)
