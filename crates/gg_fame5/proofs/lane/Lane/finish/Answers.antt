use Rattle.std.proofs.Common.{◌≡◌, List, ℕ, Option, None, Bool, length, sym, subst, ap, ◌∙◌, arith}
use Rattle.std.specs.List.{range_with_len}
use Rattle.std.proofs.lemmas.List.{length-map, length-replicate}
use Rattle.gg_flat.specs.Clock.{edges_at}
use Rattle.gg_flat.specs.Line.{value_at}
use Rattle.gg_flat.specs.State.{State}
use Rattle.gg_flat.specs.Settled.{Settled}
use Rattle.gg_flat.proofs.NumberLemmas.{IsOrder-numbers}
use Rattle.gg_program.specs.Slots.{inputs_in}
use Rattle.gg_program.specs.Right.{IsCycle}
use Rattle.gg_fame5.specs.inside.Lane.{empty_count}
use Rattle.gg_fame5.proofs.EmptyLemmas.{all-empty}
use Rattle.gg_fame5.proofs.TokenLemmas.{next-is}
use Rattle.gg_fame5.proofs.ForkLemmas.{next-forked}
use Rattle.gg_fame5.proofs.lane.Lane.finish.Goals as goal

pub returns-clause-next : goal.returns-clause-next
returns-clause-next g c =
    let program = c.args.program.now in
    let circuit = program.circuit in
    let lane = c.args.self.now in
    let slots = c.args.slots.now in
    let next = c.next_once.new.state in
    let held = inputs_in circuit slots.values in
    let at : c.edges.result.now ≡ edges_at lane.ratios lane.cycle = c.edges.ensures ∙ ap (λ l. edges_at l.ratios l.cycle) c.self.view_is in
    let own : IsCycle c.edges.result.now circuit lane.state held next = subst (λ (s : State). IsCycle c.edges.result.now circuit s held next) (ap (λ l. l.state) c.self.view_is) c.next_once.ensures.next in
    let cycle : IsCycle (edges_at lane.ratios lane.cycle) circuit lane.state held next = subst (λ (edges : List Bool). IsCycle edges circuit lane.state held next) at own in
    let order = range_with_len 0 (length circuit.signals) in
    let once : (signals : List ℕ) → Settled circuit lane.state held signals → cycle.signals ≡ signals = λ signals settled. c.settled_once.ensures circuit order lane.state held cycle.signals signals (IsOrder-numbers circuit c.piece.ensures.ordered) cycle.settled settled in
    next-forked program lane.outs lane.ratios lane.cycle lane.state next lane.latches lane.flags lane.flags
    (next-is program lane.ratios lane.cycle lane.state next lane.latches lane.flags held cycle.signals once (c.requires.lane.ins ∙ sym (length-map circuit.ins (λ s. value_at slots.values s))) c.requires.may.latched c.requires.held.tokens cycle.next)

pub invariant_of-self : goal.invariant_of-self
invariant_of-self g c =
    let latches = c.clean.new.latches in
    let n = length c.self.inside.latches.items in
    let count : empty_count latches.items ≡ n = ap empty_count c.clean.ensures.latches ∙ all-empty n in
    let all : length latches.items ≡ n = ap (λ (l : List (Option ℕ)). length l) c.clean.ensures.latches ∙ length-replicate n None in
    omega (arith, count, all, latches.ok.0, c.len-self-inside.ensures)
