-- The seats of a ring, as contracts see them.
use Rattle.std.specs.Prelude.{◌≡◌, ℕ}
use Rattle.gg_link.specs.Seats.{SeatState, seat_state}
use Rattle.gg_ring.specs.declared.ring.PutSeat.{PutSeat}
use Rattle.gg_ring.specs.declared.ring.TakeSeat.{TakeSeat}
use Rattle.gg_ring.specs.declared.ring.Ring.{Ring}

-- a seat that puts, as contracts see it: the stream and the capacity of its ring, and its counts
abbrev pub put_state : PutSeat → SeatState
put_state s = seat_state s.seat.me.0.stream s.seat.me.0.capacity s.puts s.seen s.seat.me.0.looks

-- a seat that takes, as contracts see it: the stream and the capacity of its ring, and its counts
abbrev pub take_state : TakeSeat → SeatState
take_state s = seat_state s.seat.me.0.stream s.seat.me.0.capacity s.takes s.seen s.seat.me.0.looks

-- the seat that puts is one of this ring
abbrev pub IsPutSeatOf : Ring → PutSeat → Type 0
IsPutSeatOf ring s = (s.seat.table_id ≡ ring.table.shared.table_id) × (s.seat.me.0.capacity ≡ ring.capacity)

-- the seat that takes is one of this ring
abbrev pub IsTakeSeatOf : Ring → TakeSeat → Type 0
IsTakeSeatOf ring s = (s.seat.table_id ≡ ring.table.shared.table_id) × (s.seat.me.0.capacity ≡ ring.capacity)

-- how many atomic steps a seat that puts has made
abbrev pub put_moves : PutSeat → ℕ
put_moves s = s.seat.me.0.moves

-- how many atomic steps a seat that takes has made
abbrev pub take_moves : TakeSeat → ℕ
take_moves s = s.seat.me.0.moves

-- The most atomic steps of a put or a take: a look, the two halves of the value, and the count.
abbrev pub steps_of_a_call : ℕ
steps_of_a_call = 4
