use Rattle.std.proofs.Common.{length, map}
use Rattle.gg_net.specs.inside.Stations.{machines_by}
use Rattle.gg_workers_pass.specs.inside.Seats.{TakeSeatOf, PutSeatOf}
use Rattle.gg_workers.specs.inside.Apart.{consumer_in, producer_in, AllBack}
use Rattle.gg_workers.proofs.apart.return_all.Given as goal

abbrev pub invariant-loop-row : goal.invariant-loop-row
invariant-loop-row g l =
    AllBack (consumer_in g.E.Era.start) (TakeSeatOf g.L.Link.takes_from g.L.Link.puts_into g.L.Link.taking g.L.Link.putting g.Z.Streams.flow g.E.Era.start l.links (machines_by (map g.H.Host.machines l.hosts) l.stations)) (length g.E.Era.start.wires) l.yielded l.initial.takes.items l.takes.items
    × AllBack (producer_in g.E.Era.start) (PutSeatOf g.L.Link.takes_from g.L.Link.puts_into g.L.Link.taking g.L.Link.putting g.Z.Streams.flow g.E.Era.start l.links (machines_by (map g.H.Host.machines l.hosts) l.stations)) (length g.E.Era.start.wires) l.yielded l.initial.puts.items l.puts.items
