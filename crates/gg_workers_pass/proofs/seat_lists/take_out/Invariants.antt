use Rattle.std.proofs.Common.{◌≡◌}
use Rattle.std.specs.Vec.{vec_capacity}
use Rattle.gg_workers_pass.specs.inside.SeatLists.{RowTakenOut}
use Rattle.gg_workers_pass.proofs.seat_lists.take_out.Given as goal

abbrev pub invariant-loop-channel : goal.invariant-loop-channel
invariant-loop-channel g l = record {
  taken_out : RowTakenOut l.channels l.channel-index l.initial.seats.items l.seats.items l.row.items;
  room : vec_capacity l.row ≡ vec_capacity l.initial.row;
}
