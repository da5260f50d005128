use Rattle.std.proofs.Common.{inl, sym, subst, arith}
use Rattle.gg_workers.specs.inside.LinkedHosts.{AllEnded}
use Rattle.gg_workers.specs.inside.Turns.{Falls, steps_of, machines_in}
use Rattle.gg_workers.proofs.StepLemmas.{told-count, turns-all, idle-few}
use Rattle.gg_workers.proofs.TurnLemmas.{all-ended}
use Rattle.gg_workers.proofs.turns.run_worker.Goals as goal

pub returns-then-have_ended-clause-linked_hosts : goal.returns-then-have_ended-clause-linked_hosts
returns-then-have_ended-clause-linked_hosts g c = all-ended g.H.Host.machines c.args.threads.now g.L.Link.takes_from g.L.Link.puts_into g.L.Link.taking g.L.Link.putting g.Z.Streams.flow g.E.Era.start c.args.stations.now c.args.links.now c.args.upto c.args.linked_hosts.now.items c.requires.linked_hosts (subst (AllEnded g.H.Host.machines c.args.upto) c.deref.ensures.value (c.have_ended.ensures.0 c.if-have_ended.true))

pub returns-then-have_ended-clause-turns : goal.returns-then-have_ended-clause-turns
returns-then-have_ended-clause-turns g c = omega arith

pub returns-then-have_ended-clause-ended : goal.returns-then-have_ended-clause-ended
returns-then-have_ended-clause-ended g c = inl (subst (AllEnded g.H.Host.machines c.args.upto) c.deref.ensures.value (c.have_ended.ensures.0 c.if-have_ended.true))

pub more_turns-requires-clause-falls : goal.more_turns-requires-clause-falls
more_turns-requires-clause-falls g c κs within = subst Falls (sym c.pass_all-stepped.ensures.numbers) c.requires.falls

pub more_turns-requires-clause-idle : goal.more_turns-requires-clause-idle
more_turns-requires-clause-idle g c κs within = idle-few c.idle_after-idle.result c.pass_all-stepped.result c.idle_after-idle.ensures

pub returns-clause-turns : goal.returns-clause-turns
returns-clause-turns g c =
    let first = machines_in g.H.Host.machines c.args.linked_hosts.now.items in
    let now = machines_in g.H.Host.machines c.pass_all-stepped.new.linked_hosts.items in
    turns-all c.more_turns.result c.idle_after-idle.result (steps_of first) (steps_of now) (steps_of (machines_in g.H.Host.machines c.more_turns.new.linked_hosts.items)) c.pass_all-stepped.result (told-count steps_of first now c.pass_all-stepped.result c.pass_all-stepped.ensures.told) c.idle_after-idle.ensures c.more_turns.ensures.turns
