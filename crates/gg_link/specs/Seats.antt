-- The two seats of a link as contracts see them, and how a put, a take and a close change them.
-- Source: MEMOCODE 2009 (the k-th token of each queue is the signal's value in cycle k; a queue holds the tokens that
-- were put and not yet taken, at most its bound). What a seat has seen of the other, and how often it has looked, is
-- this program's own.
use Rattle.std.specs.Prelude.{◌≡◌, ℕ, ◌+◌, ◌-◌, ◌<◌, ◌≤◌, List, [], take, drop, slice_index_or, ◌⊎◌}
use Rattle.gg_flat.specs.Streams.{Flow}

-- ---- streams

-- The stream of a link: the list of a channel, starting at place `start`. A channel without a list has an empty stream.
abbrev pub stream_of : Flow → ℕ → ℕ → List ℕ
stream_of flow which start = drop start (slice_index_or flow.lists which [])

-- The most values of a stream: one for each of 1,000,000 cycles, and the token that the channel opens with.
abbrev pub stream_limit : ℕ
stream_limit = 1000001

-- ---- seats

-- A seat: the stream and the capacity of its link, how many values it has put or taken, how many the other seat had
-- taken or put when this one last looked, and how often this one has looked.
pub record SeatState : Type 0 where
  pub stream : List ℕ
  pub capacity : ℕ
  pub count : ℕ
  pub seen : ℕ
  pub looks : ℕ

-- a seat of these parts, in this order
abbrev pub seat_state : List ℕ → ℕ → ℕ → ℕ → ℕ → SeatState
seat_state stream capacity count seen looks = record { stream = stream; capacity = capacity; count = count; seen = seen; looks = looks }

-- A seat of a new link.
pub record Starts (seat : SeatState) (values : List ℕ) (places counted saw : ℕ) : Type 0 where
  pub stream : seat.stream ≡ values
  pub capacity : seat.capacity ≡ places
  pub count : seat.count ≡ counted
  pub seen : seat.seen ≡ saw
  pub looks : seat.looks ≡ 0

-- ---- the effect of a call on its seat

-- The seat stays at its stream, and has seen no less than before.
pub record SeatWentOn (old new : SeatState) : Type 0 where
  pub stream : new.stream ≡ old.stream
  pub capacity : new.capacity ≡ old.capacity
  pub seen : old.seen ≤ new.seen
  pub looks : old.looks ≤ new.looks

-- One more value was put, or taken.
pub record Counted (old new : SeatState) : Type 0 where
  pub went_on : SeatWentOn old new
  pub count : new.count ≡ old.count + 1

-- A count of 64 bits rose, or is at its end.
abbrev pub Rose : ℕ → ℕ → Type 0
Rose old new = (old < new) ⊎ (new ≡ 18446744073709551615)

-- A put looked, saw that this many had been taken, and found the link full.
pub record FoundFull (old new : SeatState) (taken : ℕ) : Type 0 where
  pub went_on : SeatWentOn old new
  pub count : new.count ≡ old.count
  pub looked : Rose old.looks new.looks
  pub seen : taken ≡ new.seen
  pub full : taken + new.capacity ≡ new.count

-- A take looked, and found that all that had been put was taken.
pub record FoundEmpty (old new : SeatState) : Type 0 where
  pub went_on : SeatWentOn old new
  pub count : new.count ≡ old.count
  pub looked : Rose old.looks new.looks
  pub empty : new.seen ≡ new.count

-- ---- the values left in a link

-- The values that were put and not taken.
abbrev pub between : SeatState → SeatState → List ℕ
between put taken = take (put.count - taken.count) (drop taken.count put.stream)

-- No more values were taken than put, and no more are left than the capacity.
pub record WithinCapacity (put taken : SeatState) : Type 0 where
  pub order : taken.count ≤ put.count
  pub room : put.count ≤ taken.count + put.capacity
