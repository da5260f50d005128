-- The seats of a queue, as contracts see them.
use Rattle.std.specs.Prelude.{◌≡◌}
use Rattle.gg_link.specs.Seats.{SeatState, seat_state}
use Rattle.crossbeam_queue.specs.Passes.{view, IsPassOf}
use Rattle.gg_ruled.specs.declared.ruled.PutSeat.{PutSeat}
use Rattle.gg_ruled.specs.declared.ruled.TakeSeat.{TakeSeat}
use Rattle.gg_ruled.specs.declared.ruled.Ruled.{Ruled}

-- a seat that puts, as contracts see it: the stream and the capacity of its queue, and its counts
abbrev pub put_state : PutSeat → SeatState
put_state s = seat_state (view s.pass).stream (view s.pass).capacity s.puts s.seen s.looks

-- a seat that takes, as contracts see it: the stream and the capacity of its queue, and its counts
abbrev pub take_state : TakeSeat → SeatState
take_state s = seat_state (view s.pass).stream (view s.pass).capacity s.takes s.seen s.looks

module _ {R : Type 0} where
  -- the seat that puts is one of this queue
  abbrev pub IsPutSeatOf : Ruled R → PutSeat → Type 0
  IsPutSeatOf link s = IsPassOf link.queue s.pass × ((view s.pass).capacity ≡ link.capacity)

  -- the seat that takes is one of this queue
  abbrev pub IsTakeSeatOf : Ruled R → TakeSeat → Type 0
  IsTakeSeatOf link s = IsPassOf link.queue s.pass × ((view s.pass).capacity ≡ link.capacity)
