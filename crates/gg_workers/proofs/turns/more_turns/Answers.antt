use Rattle.std.proofs.Common.{◌∙◌, inl, inr, sym, subst, arith}
use Rattle.gg_workers.specs.inside.LinkedHosts.{AllEnded}
use Rattle.gg_workers.specs.inside.Turns.{Falls, steps_of, machines_in}
use Rattle.gg_workers.proofs.StepLemmas.{turn-more, told-count, turns-end}
use Rattle.gg_workers.proofs.turns.more_turns.Goals as goal

pub take_turn-stepped-requires-clause-linked_hosts : goal.take_turn-stepped-requires-clause-linked_hosts
take_turn-stepped-requires-clause-linked_hosts g c κs within = c.loop-turn.invariant.0

pub take_turn-stepped-requires-clause-falls : goal.take_turn-stepped-requires-clause-falls
take_turn-stepped-requires-clause-falls g c κs within = subst Falls (sym c.loop-turn.invariant.1) c.requires.falls

pub loop-turn-preserved : goal.loop-turn-preserved
loop-turn-preserved g c =
    let inv = c.loop-turn.invariant in
    let first = machines_in g.H.Host.machines c.args.linked_hosts.now.items in
    let now = machines_in g.H.Host.machines c.loop-turn.linked_hosts.items in
    let next = machines_in g.H.Host.machines c.take_turn-stepped.new.linked_hosts.items in
    let more = turn-more c.loop-turn.turn c.args.idle_before (steps_of first) (steps_of now) (steps_of next) c.loop-turn.idle c.idle_after-idle.result c.take_turn-stepped.result inv.3 c.if-idle-ge-IDLE_TURNS.false inv.5 inv.2 (told-count steps_of now next c.take_turn-stepped.result c.take_turn-stepped.ensures.told) c.idle_after-idle.ensures in
    (c.take_turn-stepped.ensures.linked_hosts, c.take_turn-stepped.ensures.numbers ∙ inv.1, more.0, more.1, more.2, more.3)

pub returns-then-idle-ge-IDLE_TURNS-clause-turns : goal.returns-then-idle-ge-IDLE_TURNS-clause-turns
returns-then-idle-ge-IDLE_TURNS-clause-turns g c = turns-end c.loop-turn.turn c.args.idle_before (steps_of (machines_in g.H.Host.machines c.args.linked_hosts.now.items)) (steps_of (machines_in g.H.Host.machines c.loop-turn.linked_hosts.items)) c.loop-turn.idle c.loop-turn.invariant.3 c.loop-turn.invariant.4

pub returns-then-idle-ge-IDLE_TURNS-clause-ended : goal.returns-then-idle-ge-IDLE_TURNS-clause-ended
returns-then-idle-ge-IDLE_TURNS-clause-ended g c = inr (omega (arith, c.if-idle-ge-IDLE_TURNS.true, c.loop-turn.invariant.5))

pub returns-then-ended-clause-turns : goal.returns-then-ended-clause-turns
returns-then-ended-clause-turns g c = turns-end c.loop-turn.turn c.args.idle_before (steps_of (machines_in g.H.Host.machines c.args.linked_hosts.now.items)) (steps_of (machines_in g.H.Host.machines c.loop-turn.linked_hosts.items)) c.loop-turn.idle c.loop-turn.invariant.3 c.loop-turn.invariant.4

pub returns-then-ended-clause-ended : goal.returns-then-ended-clause-ended
returns-then-ended-clause-ended g c = inl (subst (AllEnded g.H.Host.machines c.args.upto) c.deref-in-loop-turn.ensures.value (c.have_ended-ended.ensures.0 c.if-ended.true))

pub returns-clause-turns : goal.returns-clause-turns
returns-clause-turns g c = omega (arith, turns-end c.loop-turn.turn c.args.idle_before (steps_of (machines_in g.H.Host.machines c.args.linked_hosts.now.items)) (steps_of (machines_in g.H.Host.machines c.loop-turn.linked_hosts.items)) c.loop-turn.idle c.loop-turn.invariant.3 c.loop-turn.invariant.4, c.loop-turn-test.false, c.loop-turn.auto.turn-end)

pub returns-clause-ended : goal.returns-clause-ended
returns-clause-ended g c = inr (omega arith)
