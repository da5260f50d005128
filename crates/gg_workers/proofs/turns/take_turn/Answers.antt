use Rattle.gg_workers.specs.inside.LinkedHosts.{ReadyAt, DoneAt}
use Rattle.gg_workers.proofs.TurnLemmas.{linked_hosts-imp, done-ready}
use Rattle.gg_workers.proofs.turns.take_turn.Goals as goal

pub pass_all-requires-clause-linked_hosts : goal.pass_all-requires-clause-linked_hosts
pass_all-requires-clause-linked_hosts g c κs within = linked_hosts-imp g.H.Host.machines c.args.threads.now (ReadyAt g.L.Link.takes_from g.L.Link.puts_into g.L.Link.taking g.L.Link.putting g.Z.Streams.flow g.E.Era.start c.args.stations.now c.args.links.now c.args.upto) (DoneAt g.L.Link.takes_from g.L.Link.puts_into g.L.Link.taking g.L.Link.putting g.Z.Streams.flow g.E.Era.start c.args.stations.now c.args.links.now c.args.upto) (done-ready g.L.Link.takes_from g.L.Link.puts_into g.L.Link.taking g.L.Link.putting g.Z.Streams.flow g.E.Era.start c.args.stations.now c.args.links.now c.args.upto) c.args.linked_hosts.now.items c.requires.linked_hosts
