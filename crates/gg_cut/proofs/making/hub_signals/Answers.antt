use Rattle.std.proofs.Common.{◌<◌, ℕ, Bool, List, length, get_or, sym, ◌∙◌, ap, ap₂, subst, arith}
use Rattle.std.specs.Prelude.{All, filter}
use Rattle.std.proofs.lemmas.List.{get_or_default}
use Rattle.gg_flat.specs.Circuit.{FlatCircuit}
use Rattle.gg_cut_plan.specs.declared.wires.Wire.{Wire}
use Rattle.gg_cut_plan.specs.Ports.{ports_of}
use Rattle.gg_cut_plan.proofs.PortLemmas.{machine-high}
use Rattle.gg_cut_split.specs.declared.share.Share.{Share}
use Rattle.gg_cut_routes.specs.inside.Share.{stays_by}
use Rattle.gg_cut.proofs.ShareLemmas.{hub-known}
use Rattle.gg_cut.proofs.making.hub_signals.Goals as goal

pub staying-requires-clause-wires : goal.staying-requires-clause-wires
staying-requires-clause-wires c =
    let count = c.signal_count.ensures.count ∙ ap (λ (circuit : FlatCircuit). length circuit.signals) c.piece.ensures.circuit in
    subst (λ (n : ℕ). All (λ (w : Wire). w.signal < n) c.wires.result.now) (sym count)
    (subst (λ (l : List Wire). All (λ w. w.signal < length c.args.draft.now.design.now.circuit.signals) l) (sym (c.wires.ensures ∙ c.requires.wires)) c.requires.sound.known)

pub staying-requires-clause-known : goal.staying-requires-clause-known
staying-requires-clause-known c =
    let count = c.signal_count.ensures.count ∙ ap (λ (circuit : FlatCircuit). length circuit.signals) c.piece.ensures.circuit in
    let first = c.index-shares-0.is ∙ ap (λ (l : List Share). get_or l 0 c.index-shares-0.result) c.as_slice-shares.ensures in
    subst (λ (n : ℕ). All (λ s. s < n) c.as_slice-2.result.now) (sym count)
    (subst (λ (l : List ℕ). All (λ s. s < length c.args.draft.now.design.now.circuit.signals) l) (sym c.as_slice-2.ensures) (hub-known c.args.draft.now.design.now c.args.draft.now.listed c.args.draft.now.request.now.bridges c.args.draft.now.split.shares c.index-shares-0.result c.requires.shares first))

pub returns : goal.returns
returns c = λ any.
    let draft = c.args.draft.now in
    let first = c.index-shares-0.is ∙ ap (λ (l : List Share). get_or l 0 c.index-shares-0.result) c.as_slice-shares.ensures ∙ get_or_default draft.split.shares 0 c.index-shares-0.result any (let high = machine-high (ports_of draft.design.now.circuit draft.design.now.tree draft.listed draft.request.now.bridges) in omega (arith, c.requires.shares.many, high)) in
    c.in_ok-hub.ensures {u = tt} ∙ ap₂ (λ (l : List Wire) (g : List Bool). filter (stays_by l g) c.as_slice-2.result.now) c.wires.ensures c.as_slice.ensures
    ∙ ap (filter (stays_by draft.routed.wires draft.routed.gone)) (c.as_slice-2.ensures ∙ ap (λ (s : Share). s.globals) first)
