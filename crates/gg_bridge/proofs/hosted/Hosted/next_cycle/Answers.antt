use Rattle.std.proofs.Common.{rules, subst}
use Rattle.gg_node.specs.Machine.{latched_values}
use Rattle.gg_node.specs.Token.{IsNextState}
use Rattle.gg_bridge.specs.inside.Model.{IsAnswer}
use Rattle.gg_bridge.specs.inside.Hosted.{Hosting}
use Rattle.gg_bridge.proofs.HostedLemmas.{IsGathered, gathered-by, seen-is, seen-typed, turned-settled}
use Rattle.gg_bridge.proofs.hosted.Hosted.next_cycle.Goals as goal

pub answer-requires : goal.answer-requires
answer-requires g c =
    let host = c.self.inside in
    let kept = c.self.invariant in
    let model = g.B.Bridge.piece host.bridge in
    let gathered : IsGathered model host.ins host.outs host.latches.items c.deref.result.now = gathered-by model host.ins host.outs c.as_slice.result.now c.as_slice-2.result.now host.latches.items c.gather.new.seen.items c.deref.result.now c.as_slice.ensures c.as_slice-2.ensures.value (search rules) (search rules) c.gather.ensures.put in
    seen-typed model host.ins host.outs kept.ports.takes host.latches.items c.deref.result.now kept.in_count gathered kept.fit

pub returns-clause-next : goal.returns-clause-next
returns-clause-next g c =
    let host = c.self.inside in
    let kept = c.self.invariant in
    let model = g.B.Bridge.piece host.bridge in
    let state = g.B.Bridge.state host.bridge in
    let gathered : IsGathered model host.ins host.outs host.latches.items c.deref.result.now = gathered-by model host.ins host.outs c.as_slice.result.now c.as_slice-2.result.now host.latches.items c.gather.new.seen.items c.deref.result.now c.as_slice.ensures c.as_slice-2.ensures.value (search rules) (search rules) c.gather.ensures.put in
    let same = seen-is model host.ins host.outs kept.ports.takes host.latches.items c.deref.result.now kept.in_count gathered in
    let next = subst (λ seen. IsAnswer model state seen (g.B.Bridge.state c.answer.new.self)) same c.answer.ensures.next in
    subst (λ (hosting : Hosting _). IsNextState hosting.machine (g.B.Bridge.state c.answer.new.self)) c.self.view_is
    (λ row settled. next row (turned-settled model host.ins host.outs kept.is_model.formed kept.ports.takes state (latched_values host.latches.items) row settled))
