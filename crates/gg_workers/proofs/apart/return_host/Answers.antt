use Rattle.std.proofs.Common.{length, map}
use Rattle.gg_net.specs.inside.Stations.{machines_by}
use Rattle.gg_workers_pass.specs.inside.Seats.{TakeSeatOf, PutSeatOf}
use Rattle.gg_workers.specs.inside.Apart.{consumer_in, producer_in}
use Rattle.gg_workers.proofs.ApartLemmas.{by_thread-more}
use Rattle.gg_workers.proofs.apart.return_host.Goals as goal

pub loop-machine_seats-preserved : goal.loop-machine_seats-preserved
loop-machine_seats-preserved g c = (
  by_thread-more (consumer_in g.E.Era.start) (TakeSeatOf g.L.Link.takes_from g.L.Link.puts_into g.L.Link.taking g.L.Link.putting g.Z.Streams.flow g.E.Era.start c.args.links.now (machines_by (map g.H.Host.machines c.args.hosts.now) c.args.stations.now)) (length g.E.Era.start.wires) c.loop-machine_seats.yielded c.in-Some.machine_seats c.args.takes.now.items c.loop-machine_seats.takes.items c.return_machine.new.takes.items c.loop-machine_seats.invariant.0 c.return_machine.ensures.takes,
  by_thread-more (producer_in g.E.Era.start) (PutSeatOf g.L.Link.takes_from g.L.Link.puts_into g.L.Link.taking g.L.Link.putting g.Z.Streams.flow g.E.Era.start c.args.links.now (machines_by (map g.H.Host.machines c.args.hosts.now) c.args.stations.now)) (length g.E.Era.start.wires) c.loop-machine_seats.yielded c.in-Some.machine_seats c.args.puts.now.items c.loop-machine_seats.puts.items c.return_machine.new.puts.items c.loop-machine_seats.invariant.1 c.return_machine.ensures.puts,
)
