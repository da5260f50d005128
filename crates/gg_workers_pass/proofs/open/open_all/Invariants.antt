use Rattle.std.proofs.Common.{◌≡◌, length}
use Rattle.std.specs.Vec.{vec_capacity}
use Rattle.gg_workers_pass.specs.inside.Seats.{Linked, AreNew}
use Rattle.gg_workers_pass.proofs.open.open_all.Given as goal

abbrev pub invariant-loop-channel : goal.invariant-loop-channel
invariant-loop-channel g l = record {
  standing : Linked g.L.Link.takes_from g.L.Link.puts_into g.L.Link.taking g.L.Link.putting g.Z.Streams.flow g.E.Era.start g.E.Era.start.machines l.links.items l.put_seats.items l.take_seats.items l.queues.items;
  fresh : AreNew g.L.Link.taking g.L.Link.putting g.E.Era.start (length l.links.items) l.put_seats.items l.take_seats.items;
  count : l.channel ≡ length l.links.items;
  links_room : vec_capacity l.links ≡ vec_capacity l.initial.links;
  puts_room : vec_capacity l.put_seats ≡ vec_capacity l.initial.put_seats;
  takes_room : vec_capacity l.take_seats ≡ vec_capacity l.initial.take_seats;
}
