use Rattle.std.proofs.Common.{length, map}
use Rattle.gg_net.specs.inside.Stations.{machines_by}
use Rattle.gg_workers_pass.specs.inside.Seats.{Linked}
use Rattle.gg_workers_pass.proofs.close.close_all.Given as goal

abbrev pub invariant-loop-link : goal.invariant-loop-link
invariant-loop-link g l =
    Linked g.L.Link.takes_from g.L.Link.puts_into g.L.Link.taking g.L.Link.putting g.Z.Streams.flow g.E.Era.start (machines_by (map g.H.Host.machines l._hosts) l._stations) l.links.items l.put_seats.items l.take_seats.items l.queues.items

abbrev pub decreases-loop-link : goal.decreases-loop-link
decreases-loop-link g l = length l.links.items
