use Rattle.std.proofs.Common.{◌≡◌, length}
use Rattle.gg_workers_pass.specs.inside.SeatLists.{RowPutBack}
use Rattle.gg_workers_pass.proofs.seat_lists.put_back.Given as goal

abbrev pub invariant-loop-seat : goal.invariant-loop-seat
invariant-loop-seat g l = record {
  put_back : RowPutBack l.channels l.place l.yielded l.initial.seats.items l.seats.items;
  place : l.place ≡ length l.yielded;
}
