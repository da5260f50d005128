use Rattle.std.proofs.Common.{map, ◌∙◌}
use Rattle.gg_net.specs.inside.Stations.{machines_by}
use Rattle.gg_workers_pass.proofs.StandLemmas.{unrolled, last-seats, close-room, close-step}
use Rattle.gg_workers_pass.proofs.close.close_all.Goals as goal

pub close_one-requires-clause-seats : goal.close_one-requires-clause-seats
close_one-requires-clause-seats g c κs within =
    let machines = machines_by (map g.H.Host.machines c.args._hosts.now) c.args._stations.now in
    let h = unrolled g.L.Link.takes_from g.L.Link.puts_into g.L.Link.taking g.L.Link.putting g.Z.Streams.flow g.E.Era.start machines c.loop-link.links.items c.pop.new.self.items c.in-Some.link c.loop-link.put_seats.items c.pop-in-Some.new.self.items c.in-Some-pop.put c.loop-link.take_seats.items c.pop-in-Some-2.new.self.items c.in-Some-pop-2.take c.loop-link.queues.items
    c.in-Some.ensures.items c.in-Some-pop.ensures.items c.in-Some-pop-2.ensures.items c.loop-link.invariant in
    let seats = last-seats g.L.Link.takes_from g.L.Link.puts_into g.L.Link.taking g.L.Link.putting g.Z.Streams.flow g.E.Era.start c.requires.kept machines c.requires.owned c.pop.new.self.items c.in-Some.link c.pop-in-Some.new.self.items c.in-Some-pop.put c.pop-in-Some-2.new.self.items c.in-Some-pop-2.take c.loop-link.queues.items h in
    (seats.into, seats.from)

pub close_one-requires-clause-room : goal.close_one-requires-clause-room
close_one-requires-clause-room g c κs within =
    let machines = machines_by (map g.H.Host.machines c.args._hosts.now) c.args._stations.now in
    let h = unrolled g.L.Link.takes_from g.L.Link.puts_into g.L.Link.taking g.L.Link.putting g.Z.Streams.flow g.E.Era.start machines c.loop-link.links.items c.pop.new.self.items c.in-Some.link c.loop-link.put_seats.items c.pop-in-Some.new.self.items c.in-Some-pop.put c.loop-link.take_seats.items c.pop-in-Some-2.new.self.items c.in-Some-pop-2.take c.loop-link.queues.items
    c.in-Some.ensures.items c.in-Some-pop.ensures.items c.in-Some-pop-2.ensures.items c.loop-link.invariant in
    close-room g.L.Link.takes_from g.L.Link.puts_into g.L.Link.taking g.L.Link.putting g.Z.Streams.flow g.E.Era.start c.requires.kept machines c.requires.owned c.pop.new.self.items c.in-Some.link c.pop-in-Some.new.self.items c.in-Some-pop.put c.pop-in-Some-2.new.self.items c.in-Some-pop-2.take c.loop-link.queues.items h c.len.result (c.len.ensures ∙ c.pop.new.self.ok.0)

pub loop-link-preserved : goal.loop-link-preserved
loop-link-preserved g c =
    let machines = machines_by (map g.H.Host.machines c.args._hosts.now) c.args._stations.now in
    let h = unrolled g.L.Link.takes_from g.L.Link.puts_into g.L.Link.taking g.L.Link.putting g.Z.Streams.flow g.E.Era.start machines c.loop-link.links.items c.pop.new.self.items c.in-Some.link c.loop-link.put_seats.items c.pop-in-Some.new.self.items c.in-Some-pop.put c.loop-link.take_seats.items c.pop-in-Some-2.new.self.items c.in-Some-pop-2.take c.loop-link.queues.items
    c.in-Some.ensures.items c.in-Some-pop.ensures.items c.in-Some-pop-2.ensures.items c.loop-link.invariant in
    close-step g.L.Link.takes_from g.L.Link.puts_into g.L.Link.taking g.L.Link.putting g.Z.Streams.flow g.E.Era.start c.requires.kept machines c.requires.owned c.pop.new.self.items c.in-Some.link c.pop-in-Some.new.self.items c.in-Some-pop.put c.pop-in-Some-2.new.self.items c.in-Some-pop-2.take c.loop-link.queues.items h c.len.result (c.len.ensures ∙ c.pop.new.self.ok.0) c.close_one.new.queues.items c.close_one.ensures.queues c.close_one.ensures.counts
