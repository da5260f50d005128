-- The seats of a network's links and their counts. The first channels have links, the others queues.
-- Source: MEMOCODE 2009 (a queue holds the tokens that were put and not yet taken).
use Rattle.std.specs.Prelude.{◌≡◌, ℕ, ◌+◌, ◌<◌, ◌≤◌, List, [], Some, length, slice_index_or, slice_get}
use Rattle.gg_flat.specs.Streams.{Flow}
use Rattle.gg_node.specs.Machine.{Machine, machine_at}
use Rattle.gg_link.specs.Seats.{SeatState, stream_of}
use Rattle.gg_net.specs.Network.{Network, wire_at, queue_at, takes, frame_of}
use Rattle.gg_net.specs.Kept.{list_at, BetweenAt, MachineAt}
use Rattle.gg_net.specs.inside.Parted.{takes_by, enters_by}
use Rattle.gg_net.specs.inside.Queue.{Held}
use Rattle.gg_net.specs.inside.Net.{held_at, HasRoom}

-- A seat of channel c counts this many tokens. Its stream begins with the next token that the network was to take.
pub record SeatCounts (flow : Flow) (net : Network) (c n : ℕ) (seat : SeatState) : Type 0 where
  pub stream : seat.stream ≡ stream_of flow c (takes net c)
  pub capacity : seat.capacity ≡ (wire_at net.wires c).capacity
  pub count : takes net c + seat.count ≡ n

-- The seats of the machines in this list.
module _ {X S T : Type 0} (takes_from : X → S → Type 0) (puts_into : X → T → Type 0) (taking : S → SeatState) (putting : T → SeatState) (flow : Flow) (net : Network) (links : List X) (machines : List Machine) where
  -- a seat of the link of a channel, with the count of the channel's consumer
  abbrev pub TakeSeatOf : ℕ → S → Type 0
  TakeSeatOf c seat = ((link : X) → slice_get links c ≡ Some link → takes_from link seat) × SeatCounts flow net c (takes_by (frame_of net) (machine_at machines (wire_at net.wires c).consumer) c) (taking seat)

  -- a seat of the link of a channel, with the count of the channel's producer
  abbrev pub PutSeatOf : ℕ → T → Type 0
  PutSeatOf c seat = ((link : X) → slice_get links c ≡ Some link → puts_into link seat) × SeatCounts flow net c (enters_by (frame_of net) (machine_at machines (wire_at net.wires c).producer) c) (putting seat)

-- a queue with these tokens in place of its own
abbrev pub with_tokens : Held → List ℕ → Held
with_tokens queue tokens = record { tokens = tokens; room = queue.room }

-- a queue without its tokens
abbrev pub emptied : Held → Held
emptied queue = with_tokens queue []

-- Each of these machines can be the one at its place.
pub record MayStand (flow : Flow) (net : Network) (machines : List Machine) : Type 0 where
  pub long : length machines ≡ length net.machines
  pub each : (m : ℕ) → m < length net.machines → MachineAt flow (frame_of net) m (machine_at machines m)

module _ {X S T : Type 0} (takes_from : X → S → Type 0) (puts_into : X → T → Type 0) (taking : S → SeatState) (putting : T → SeatState) (flow : Flow) (net : Network) (machines : List Machine) where
  -- A link of channel c has these seats, with the counts of these machines.
  pub record LinkSeats (c : ℕ) (link : X) (put : T) (take : S) : Type 0 where
    pub into : puts_into link put
    pub from : takes_from link take
    pub given : SeatCounts flow net c (enters_by (frame_of net) (machine_at machines (wire_at net.wires c).producer) c) (putting put)
    pub got : SeatCounts flow net c (takes_by (frame_of net) (machine_at machines (wire_at net.wires c).consumer) c) (taking take)

  -- The first channels have links with seats, and their queues are empty. The queues of the others contain the tokens between the counts of these
  -- machines.
  pub record Linked (links : List X) (put_seats : List T) (take_seats : List S) (queues : List Held) : Type 0 where
    pub few : length links ≤ length net.wires
    pub put_count : length put_seats ≡ length links
    pub take_count : length take_seats ≡ length links
    pub count : length queues ≡ length net.wires
    pub room : HasRoom net.wires queues
    pub linked : (c : ℕ) (link : X) (put : T) (take : S) → c < length links → LinkSeats c (slice_index_or links c link) (slice_index_or put_seats c put) (slice_index_or take_seats c take)
    pub empty : (c : ℕ) → c < length links → (held_at queues c).tokens ≡ []
    pub closed : (c : ℕ) → length links ≤ c → c < length net.wires → BetweenAt (list_at flow.lists c) (wire_at net.wires c).capacity (takes_by (frame_of net) (machine_at machines (wire_at net.wires c).consumer) c) (enters_by (frame_of net) (machine_at machines (wire_at net.wires c).producer) c) (held_at queues c).tokens

-- The seats of the first n channels are new: they know how many tokens the network's queue held.
pub record AreNew {S T : Type 0} (taking : S → SeatState) (putting : T → SeatState) (net : Network) (n : ℕ) (put_seats : List T) (take_seats : List S) : Type 0 where
  pub given : (c : ℕ) (put : T) → c < n → (putting (slice_index_or put_seats c put)).count ≡ length (queue_at net.queues c)
  pub got : (c : ℕ) (take : S) → c < n → ((taking (slice_index_or take_seats c take)).count ≡ 0) × ((taking (slice_index_or take_seats c take)).seen ≡ length (queue_at net.queues c))
