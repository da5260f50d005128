-- A row of tries of one machine, and its seats. The seats are in the order of the ins, or of the outs.
-- Source: MEMOCODE 2009 (a node takes a token from each input queue once in a cycle).
use Rattle.std.specs.Prelude.{◌≡◌, ℕ, ◌+◌, ◌*◌, ◌<◌, ◌≤◌, List, Option, Some, None, Bool, true, false, IsSome, is_some, count_by, length, slice_index_or, slice_get}
use Rattle.gg_flat.specs.Line.{value_at}
use Rattle.gg_flat.specs.Streams.{Flow}
use Rattle.gg_flat.specs.State.{State}
use Rattle.gg_link.specs.Seats.{SeatState}
use Rattle.gg_node.specs.Machine.{Machine, machine_at, latch_at, flag_at, missing}
use Rattle.gg_net.specs.Network.{Network, IsAtIn, IsAtOut, frame_of}
use Rattle.gg_net.specs.Kept.{MachineAt}
use Rattle.gg_net.specs.inside.Parted.{takes_by, enters_by}
use Rattle.gg_workers_pass.specs.inside.Seats.{SeatCounts}
use Rattle.gg_workers_pass.specs.inside.Tries.{ServeIsDue}

-- Each place of these channels has a seat of its channel's link, with this count of its channel.
pub record SeatsByPlace {X S : Type 0} (of : X → S → Type 0) (part : S → SeatState) (flow : Flow) (net : Network) (count : ℕ → ℕ) (links : List X) (channels : List ℕ) (seats : List S) : Type 0 where
  pub long : length seats ≡ length channels
  pub belongs : (k : ℕ) (s : S) (link : X) → k < length channels → slice_get links (value_at channels k) ≡ Some link → of link (slice_index_or seats k s)
  pub counts : (k : ℕ) (s : S) → k < length channels → SeatCounts flow net (value_at channels k) (count (value_at channels k)) (part (slice_index_or seats k s))

-- a machine with other latches
abbrev pub with_latches : Machine → List (Option ℕ) → Machine
with_latches x latches = record x { latches = latches }

-- The ins of machine m from place `first` to before n were tried.
pub record LatchesTried {X S : Type 0} (of : X → S → Type 0) (part : S → SeatState) (flow : Flow) (net : Network) (m : ℕ) (links : List X) (ins : List ℕ) (first n : ℕ) (x : Machine) (old : List S) (y : Machine) (new : List S) : Type 0 where
  pub machine : MachineAt flow (frame_of net) m y
  pub placed : SeatsByPlace of part flow net (takes_by (frame_of net) y) links ins new
  pub same : y ≡ with_latches x y.latches
  pub grows : (i : ℕ) → IsSome (latch_at x.latches i) → IsSome (latch_at y.latches i)
  pub no_less : (k : ℕ) (s : S) → k < length ins → (part (slice_index_or old k s)).count ≤ (part (slice_index_or new k s)).count
  pub done : (k : ℕ) (s : S) → first ≤ k → k < n → k < length ins → latch_at x.latches k ≡ None → (part (slice_index_or old k s)).count < (part (slice_index_or old k s)).seen → (part (slice_index_or old k s)).count < (part (slice_index_or new k s)).count
  pub untried : (k : ℕ) (s : S) → n ≤ k → (slice_index_or new k s ≡ slice_index_or old k s) × (latch_at y.latches k ≡ latch_at x.latches k)

-- these are the channels at the ins of machine m, by place
pub record AreIns (net : Network) (m : ℕ) (x : Machine) (ins : List ℕ) : Type 0 where
  pub count : length ins ≡ length x.latches
  pub at : (k : ℕ) → k < length ins → IsAtIn net.wires m k (value_at ins k)

-- a machine with other flags
abbrev pub with_flags : Machine → List Bool → Machine
with_flags x flags = record x { flags = flags }

-- The outs of machine m from place `first` to before n were tried.
pub record FiresTried {X S : Type 0} (of : X → S → Type 0) (part : S → SeatState) (flow : Flow) (net : Network) (m : ℕ) (links : List X) (outs : List ℕ) (first n : ℕ) (x : Machine) (old : List S) (y : Machine) (new : List S) : Type 0 where
  pub machine : MachineAt flow (frame_of net) m y
  pub placed : SeatsByPlace of part flow net (enters_by (frame_of net) y) links outs new
  pub same : y ≡ with_flags x y.flags
  pub grows : (o : ℕ) → flag_at x.flags o ≡ true → flag_at y.flags o ≡ true
  pub no_less : (k : ℕ) (s : S) → k < length outs → (part (slice_index_or old k s)).count ≤ (part (slice_index_or new k s)).count
  pub done : (k : ℕ) (s : S) → first ≤ k → k < n → k < length outs → flag_at x.flags k ≡ false → missing x k ≡ None → (part (slice_index_or old k s)).count < (part (slice_index_or old k s)).seen + (part (slice_index_or old k s)).capacity → (part (slice_index_or old k s)).count < (part (slice_index_or new k s)).count
  pub untried : (k : ℕ) (s : S) → n ≤ k → (slice_index_or new k s ≡ slice_index_or old k s) × (flag_at y.flags k ≡ flag_at x.flags k)

-- these are the channels at the outs of machine m, by place
pub record AreOuts (net : Network) (m : ℕ) (x : Machine) (outs : List ℕ) : Type 0 where
  pub count : length outs ≡ length x.flags
  pub at : (k : ℕ) → k < length outs → IsAtOut net.wires m k (value_at outs k)

-- a machine with another state, after this many served ports
abbrev pub with_serves : Machine → State → ℕ → Machine
with_serves x state served = record x { state = state; served = served }

-- Ports of machine m were served, one after another.
pub record ServesTried (flow : Flow) (net : Network) (m : ℕ) (x y : Machine) : Type 0 where
  pub machine : MachineAt flow (frame_of net) m y
  pub same : y ≡ with_serves x y.state y.served
  pub grows : x.served ≤ y.served

-- no port can be served
abbrev pub NoneServes : Machine → Type 0
NoneServes x = (port : ℕ) → ServeIsDue x port → ⊥

-- ---- whether anything was done

-- The number of steps that a machine has done since the first cycle. In each cycle it latches at each in, fires at each
-- out, serves each port and finishes once.
abbrev pub steps_by : Machine → ℕ
steps_by x = (length x.latches + length x.flags + length x.ports + 1) * x.cycle + (count_by is_some x.latches + count_by (λ flag. flag) x.flags + x.served)

-- Steps of the machine of a thread were done, or nothing was done.
abbrev pub StepsDone : List Machine → ℕ → List Machine → Bool → Type 0
StepsDone old thread new true = steps_by (machine_at old thread) < steps_by (machine_at new thread)
StepsDone old thread new false = new ≡ old
