use Rattle.std.proofs.Common.{length, map}
use Rattle.gg_net.specs.inside.Stations.{machines_by}
use Rattle.gg_workers_pass.specs.inside.Seats.{TakeSeatOf, PutSeatOf}
use Rattle.gg_workers.specs.inside.Apart.{consumer_in, producer_in}
use Rattle.gg_workers.proofs.ApartLemmas.{rows-more}
use Rattle.gg_workers.proofs.apart.return_all.Goals as goal

pub loop-row-preserved : goal.loop-row-preserved
loop-row-preserved g c = (
  rows-more (consumer_in g.E.Era.start) (TakeSeatOf g.L.Link.takes_from g.L.Link.puts_into g.L.Link.taking g.L.Link.putting g.Z.Streams.flow g.E.Era.start c.args.links.now (machines_by (map g.H.Host.machines c.args.hosts.now) c.args.stations.now)) (length g.E.Era.start.wires) c.loop-row.yielded c.in-Some.row c.args.takes.now.items c.loop-row.takes.items c.return_host.new.takes.items c.loop-row.invariant.0 c.return_host.ensures.takes,
  rows-more (producer_in g.E.Era.start) (PutSeatOf g.L.Link.takes_from g.L.Link.puts_into g.L.Link.taking g.L.Link.putting g.Z.Streams.flow g.E.Era.start c.args.links.now (machines_by (map g.H.Host.machines c.args.hosts.now) c.args.stations.now)) (length g.E.Era.start.wires) c.loop-row.yielded c.in-Some.row c.args.puts.now.items c.loop-row.puts.items c.return_host.new.puts.items c.loop-row.invariant.1 c.return_host.ensures.puts,
)
