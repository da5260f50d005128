use Rattle.std.proofs.Common.{◌≡◌, ℕ, ◌+◌, ◌-◌, ◌<◌, [], List, length, get_or, refl, sym, ◌∙◌, ap, subst, arith}
use Rattle.std.specs.Prelude.{All, Contains}
use Rattle.std.proofs.lemmas.List.{get_or_default}
use Rattle.gg_flat.specs.Circuit.{FlatCircuit}
use Rattle.gg_partfile.specs.declared.request.BridgeEntry.{BridgeEntry}
use Rattle.gg_cut_plan.specs.Models.{model_names}
use Rattle.gg_cut_plan.specs.Plan.{IsBridgeBody, channels_from, channels_to}
use Rattle.gg_cut_plan.specs.Ports.{first_bridge}
use Rattle.gg_cut_plan.specs.declared.wires.Wire.{Wire}
use Rattle.gg_cut_parts.specs.declared.draft.Draft.{Draft}
use Rattle.gg_cut_parts.proofs.MachineLemmas.{from-below, to-below}
use Rattle.gg_cut_machines.specs.inside.Drafted.{draft_bridges, draft_end, draft_wires}
use Rattle.gg_cut_machines.proofs.PortLemmas.{part-few}
use Rattle.gg_cut.proofs.BodyLemmas.{bridge-by}
use Rattle.gg_cut.proofs.machines.bridge_at.Goals as goal

-- a bridge's number is below the number of all machines
at-end : (draft : Draft) (place m : ℕ) → place < length draft.request.now.bridges → m ≡ first_bridge (draft_bridges draft) + place → m < draft_end draft
at-end draft place m lt is = omega (arith, lt, is)

pub taken-ins-requires : goal.taken-ins-requires
taken-ins-requires c = let known = at-end c.args.making.now.draft.now c.args.place c.args.number c.requires.place c.requires.number in omega (arith, known, c.requires.making.places.into.many)

pub given-outs-requires : goal.given-outs-requires
given-outs-requires c = let known = at-end c.args.making.now.draft.now c.args.place c.args.number c.requires.place c.requires.number in omega (arith, known, c.requires.making.places.from.many)

pub bridge_body-requires-clause-known : goal.bridge_body-requires-clause-known
bridge_body-requires-clause-known c =
    let draft = c.args.making.now.draft.now in
    let design = draft.design.now in
    let place = c.args.place in
    let inside = c.requires.place in
    let fit = c.bridges_fit.ensures design.circuit (length design.tree.stops) draft.models.now draft.request.now.bridges c.requires.making.draft.bridges in
    subst (λ (entry : BridgeEntry). Contains (model_names draft.models.now) entry.name) (sym (c.index-entries-place.is ∙ ap (λ (l : List BridgeEntry). get_or l place c.index-entries-place.result) c.as_slice-entries.ensures))
    (fit.each place c.index-entries-place.result inside).known

pub bridge_body-requires-clause-sees : goal.bridge_body-requires-clause-sees
bridge_body-requires-clause-sees c =
    let draft = c.args.making.now.draft.now in
    let place = c.args.place in
    let inside = c.requires.place in
    let most = part-few (λ (entry : BridgeEntry). entry.sees) draft.request.now.bridges place c.index-entries-place.result inside in
    let same = ap (λ (entry : BridgeEntry). length entry.sees) (c.index-entries-place.is ∙ ap (λ (l : List BridgeEntry). get_or l place c.index-entries-place.result) c.as_slice-entries.ensures) in
    omega (arith, most, same, c.requires.making.draft.small.seen)

pub bridge_body-requires-clause-drives : goal.bridge_body-requires-clause-drives
bridge_body-requires-clause-drives c =
    let draft = c.args.making.now.draft.now in
    let place = c.args.place in
    let inside = c.requires.place in
    let most = part-few (λ (entry : BridgeEntry). entry.drives) draft.request.now.bridges place c.index-entries-place.result inside in
    let same = ap (λ (entry : BridgeEntry). length entry.drives) (c.index-entries-place.is ∙ ap (λ (l : List BridgeEntry). get_or l place c.index-entries-place.result) c.as_slice-entries.ensures) in
    omega (arith, most, same, c.requires.making.draft.small.driven)

pub bridge_body-requires-clause-wires : goal.bridge_body-requires-clause-wires
bridge_body-requires-clause-wires c =
    let draft = c.args.making.now.draft.now in
    let is = c.requires.making in
    subst (λ (k : FlatCircuit). All (λ (w : Wire). w.signal < length k.signals) c.wires-wires.result.now) (sym c.piece-piece.ensures.circuit)
    (subst (λ (l : List Wire). All (λ w. w.signal < length draft.design.now.circuit.signals) l) (sym (c.wires-wires.ensures ∙ is.draft.wires)) is.draft.sound.known)

pub bridge_body-requires-clause-ins : goal.bridge_body-requires-clause-ins
bridge_body-requires-clause-ins c =
    let is = c.requires.making in
    to-below c.wires-wires.result.now c.args.number c.taken-ins.result.now (c.taken-ins.ensures ∙ is.places.into.each c.args.number (at-end c.args.making.now.draft.now c.args.place c.args.number c.requires.place c.requires.number) ∙ ap (λ (l : List Wire). channels_to l c.args.number) (sym (c.wires-wires.ensures ∙ is.draft.wires)))

pub bridge_body-requires-clause-outs : goal.bridge_body-requires-clause-outs
bridge_body-requires-clause-outs c =
    let is = c.requires.making in
    from-below c.wires-wires.result.now c.args.number c.given-outs.result.now (c.given-outs.ensures ∙ is.places.from.each c.args.number (at-end c.args.making.now.draft.now c.args.place c.args.number c.requires.place c.requires.number) ∙ ap (λ (l : List Wire). channels_from l c.args.number) (sym (c.wires-wires.ensures ∙ is.draft.wires)))

pub bridge_body-requires-clause-count : goal.bridge_body-requires-clause-count
bridge_body-requires-clause-count c = c.requires.count ∙ sym (ap (λ (k : FlatCircuit). length k.signals) c.piece-piece.ensures.circuit)

pub returns-clause-body : goal.returns-clause-body
returns-clause-body c =
    let making = c.args.making.now in
    let draft = making.draft.now in
    let design = draft.design.now in
    let request = draft.request.now in
    let is = c.requires.making in
    let m = c.args.number in
    let place = c.args.place in
    let inside = c.requires.place in
    let number : place ≡ m - first_bridge (draft_bridges draft) = omega (arith, c.requires.number) in
    let known = at-end draft place m inside c.requires.number in
    let paths = ap (λ (k : FlatCircuit). k.paths) c.piece-piece.ensures.circuit in
    let read = c.index-entries-place.is ∙ ap (λ (l : List BridgeEntry). get_or l place c.index-entries-place.result) c.as_slice-entries.ensures ∙ get_or_default request.bridges place c.index-entries-place.result (record { name = []; sees = []; drives = [] }) inside in (
      omega (arith, c.requires.number),
      subst (λ k. IsBridgeBody design request draft.models.now (draft_wires draft) m k c.in_ok-body.body) number
          (bridge-by design request draft.models.now m place c.piece-piece.result.now.paths c.index-entries-place.result c.wires-wires.result.now c.taken-ins.result.now c.given-outs.result.now c.in_ok-body.body inside paths read
          (c.wires-wires.ensures ∙ is.draft.wires) (c.taken-ins.ensures ∙ is.places.into.each m known) (c.given-outs.ensures ∙ is.places.from.each m known) c.in_ok-body.ensures.body),
    )

pub returns-clause-count : goal.returns-clause-count
returns-clause-count c = c.in_ok-body.ensures.count ∙ ap (λ (k : FlatCircuit). length k.signals) c.piece-piece.ensures.circuit
