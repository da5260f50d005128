use Rattle.std.proofs.Common.{◌≡◌, ◌<◌, length, get_or, sym, ◌∙◌, ap, subst, arith}
use Rattle.std.proofs.lemmas.List.{get_or_default}
use Rattle.gg_flat.specs.Line.{value_at}
use Rattle.gg_node.specs.Token.{IsToken}
use Rattle.gg_bridge.specs.inside.Hosted.{Hosting}
use Rattle.gg_bridge.proofs.HostedLemmas.{said-token}
use Rattle.gg_bridge.proofs.hosted.Hosted.value.Goals as goal

pub returns : goal.returns
returns g c =
    let host = c.self.inside in
    let kept = c.self.invariant in
    let model = g.B.Bridge.piece host.bridge in
    let o = c.args.place in
    let flags = ap (λ (hosting : Hosting _). length hosting.machine.flags) c.self.view_is in
    let low : o < length host.outs = omega (arith, c.requires.there, flags, kept.out_count) in
    let out = value_at host.outs o in
    let known : out < length model.outs = kept.ports.gives o 0 low in
    let said : value_at host.said.items out ≡ c.index.result.now =
    get_or_default host.said.items out 0 c.index.result.now (omega (arith, known, kept.says.count)) ∙ sym (c.index.ensures ∙ ap (λ l. get_or host.said.items (value_at l o) c.index.result.now) c.as_slice.ensures) in
    subst (λ (hosting : Hosting _). IsToken hosting.machine o c.index.result.now) c.self.view_is
    (λ inputs row settled agrees. said-token model host.ins host.outs kept.is_model.formed kept.ports.takes (g.B.Bridge.state host.bridge) host.said.items o kept.says low known inputs row settled ∙ said)
