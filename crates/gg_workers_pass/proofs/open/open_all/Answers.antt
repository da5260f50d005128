use Rattle.std.proofs.Common.{◌∙◌, sym}
use Rattle.gg_workers_pass.proofs.StandLemmas.{open-between, open-step, open-more, open-new}
use Rattle.gg_workers_pass.proofs.open.open_all.Goals as goal

pub loop-channel-preserved : goal.loop-channel-preserved
loop-channel-preserved g c =
    let inv = c.loop-channel.invariant in
    let seats = c.in_ok-link.ensures.seats in
    record {
      standing = open-step g.L.Link.takes_from g.L.Link.puts_into g.L.Link.taking g.L.Link.putting g.Z.Streams.flow g.E.Era.start c.requires.kept c.args.wires.now c.requires.here c.args.starts.now c.requires.starts.1 c.loop-channel.links.items c.loop-channel.put_seats.items c.loop-channel.take_seats.items c.loop-channel.queues.items inv.standing c.loop-channel.channel inv.count c.loop-channel-test.true c.in_ok-link.link c.in_ok-link.put c.in_ok-link.take seats.0 seats.1 c.in_ok-link.ensures.put c.in_ok-link.ensures.take
          c.push_reserved.new.self.items c.push_reserved.ensures.items c.push_reserved-in-loop-channel.new.self.items c.push_reserved-in-loop-channel.ensures.items c.push_reserved-in-loop-channel-2.new.self.items c.push_reserved-in-loop-channel-2.ensures.items c.open_one.new.queues.items c.in_ok-link.ensures.queues;
      fresh = open-new g.L.Link.takes_from g.L.Link.puts_into g.L.Link.taking g.L.Link.putting g.Z.Streams.flow g.E.Era.start c.requires.kept c.args.wires.now c.requires.here c.args.starts.now c.requires.starts.1 c.loop-channel.links.items c.loop-channel.put_seats.items c.loop-channel.take_seats.items c.loop-channel.queues.items inv.standing c.loop-channel.channel inv.count c.loop-channel-test.true c.in_ok-link.link c.in_ok-link.put c.in_ok-link.take seats.0 seats.1 c.in_ok-link.ensures.put c.in_ok-link.ensures.take
          c.push_reserved.new.self.items c.push_reserved.ensures.items c.push_reserved-in-loop-channel.new.self.items c.push_reserved-in-loop-channel.ensures.items c.push_reserved-in-loop-channel-2.new.self.items c.push_reserved-in-loop-channel-2.ensures.items inv.fresh;
      count = sym (open-more g.L.Link.takes_from g.L.Link.puts_into g.L.Link.taking g.L.Link.putting g.Z.Streams.flow g.E.Era.start c.requires.kept c.args.wires.now c.requires.here c.args.starts.now c.requires.starts.1 c.loop-channel.links.items c.loop-channel.put_seats.items c.loop-channel.take_seats.items c.loop-channel.queues.items inv.standing c.loop-channel.channel inv.count c.loop-channel-test.true c.in_ok-link.link c.in_ok-link.put c.in_ok-link.take seats.0 seats.1 c.in_ok-link.ensures.put c.in_ok-link.ensures.take
          c.push_reserved.new.self.items c.push_reserved.ensures.items c.push_reserved-in-loop-channel.new.self.items c.push_reserved-in-loop-channel.ensures.items c.push_reserved-in-loop-channel-2.new.self.items c.push_reserved-in-loop-channel-2.ensures.items);
      links_room = c.push_reserved.ensures.capacity ∙ inv.links_room;
      puts_room = c.push_reserved-in-loop-channel.ensures.capacity ∙ inv.puts_room;
      takes_room = c.push_reserved-in-loop-channel-2.ensures.capacity ∙ inv.takes_room;
    }

pub open_one-requires-clause-between : goal.open_one-requires-clause-between
open_one-requires-clause-between g c κs within =
    open-between g.L.Link.takes_from g.L.Link.puts_into g.L.Link.taking g.L.Link.putting g.Z.Streams.flow g.E.Era.start c.requires.kept c.args.wires.now c.requires.here c.args.starts.now c.requires.starts.1 c.loop-channel.links.items c.loop-channel.put_seats.items c.loop-channel.take_seats.items c.loop-channel.queues.items c.loop-channel.invariant.standing c.loop-channel.channel c.loop-channel.invariant.count c.loop-channel-test.true
