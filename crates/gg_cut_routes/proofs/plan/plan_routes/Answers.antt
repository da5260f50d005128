use Rattle.std.proofs.Common.{List, length, ◌∙◌, ap, subst}
use Rattle.gg_flat.specs.Circuit.{FlatCircuit}
use Rattle.gg_order.specs.Design.{IsDesign}
use Rattle.gg_cut_plan.specs.declared.listed.Listed.{Listed}
use Rattle.gg_flat_tree.specs.Tree.{path_at}
use Rattle.gg_order.specs.Marks.{is_marked}
use Rattle.gg_partfile.specs.declared.request.BridgeEntry.{BridgeEntry}
use Rattle.gg_cut_plan.specs.Direct.{hub_of, is_gone, is_piped, routes}
use Rattle.gg_cut_plan.specs.Listed.{is_among}
use Rattle.gg_cut_routes.specs.inside.Routes.{AreRoutes}
use Rattle.gg_cut_routes.proofs.PipedTables.{marked-as, planned-wires, planned-gone}
use Rattle.gg_cut_routes.proofs.plan.plan_routes.Goals as goal

pub routes-requires-clause-piped : goal.routes-requires-clause-piped
routes-requires-clause-piped c =
    ap length c.deref.ensures.value ∙ c.in_ok-piped.ensures.count ∙ ap (λ (circuit : FlatCircuit). length circuit.signals) c.piece.ensures.circuit

pub returns-clause-wires : goal.returns-clause-wires
returns-clause-wires c =
    let is : IsDesign c.args.design.now = record { formed = c.piece.ensures.formed; ordered = c.order.ensures.ordered } in
    let design = c.args.design.now in
    c.in_ok-channels.ensures.wires
    ∙ ap (λ (l : List BridgeEntry). routes (hub_of design.circuit design.tree c.args.listed.now (is_marked c.deref.result.now) l c.args.request.now.direct)) c.as_slice-2.ensures
    ∙ planned-wires c.args.design.now c.args.request.now c.args.listed.now c.deref.result.now is c.requires.keeps c.requires.apart c.requires.listed
    (marked-as c.args.design.now.circuit c.piece.result.now c.args.request.now c.deref.result.now c.in_ok-piped.piped.items c.piece.ensures.circuit c.deref.ensures.value (λ t low. c.in_ok-piped.ensures.marks t low ∙ ap (λ names. is_among names (path_at c.piece.result.now.paths t)) c.as_slice.ensures))

pub returns-clause-gone : goal.returns-clause-gone
returns-clause-gone c = λ s lt.
    let is : IsDesign c.args.design.now = record { formed = c.piece.ensures.formed; ordered = c.order.ensures.ordered } in
    let design = c.args.design.now in
    c.in_ok-channels.ensures.gone s lt
    ∙ ap (λ (l : List BridgeEntry). is_gone (hub_of design.circuit design.tree c.args.listed.now (is_marked c.deref.result.now) l c.args.request.now.direct) s) c.as_slice-2.ensures
    ∙ planned-gone c.args.design.now c.args.request.now c.args.listed.now c.deref.result.now is c.requires.keeps c.requires.apart c.requires.listed
    (marked-as c.args.design.now.circuit c.piece.result.now c.args.request.now c.deref.result.now c.in_ok-piped.piped.items c.piece.ensures.circuit c.deref.ensures.value (λ t low. c.in_ok-piped.ensures.marks t low ∙ ap (λ names. is_among names (path_at c.piece.result.now.paths t)) c.as_slice.ensures)) s

pub returns-clause-sound : goal.returns-clause-sound
returns-clause-sound c =
    let design = c.args.design.now in
    subst (λ (l : Listed). AreRoutes design c.args.listed.now c.args.request.now.bridges (hub_of design.circuit design.tree l (is_piped design.circuit c.args.request.now) c.args.request.now.bridges c.args.request.now.direct)) c.requires.listed
    (c.channels_routed.ensures design c.args.listed.now (is_piped design.circuit c.args.request.now) c.args.request.now.bridges c.args.request.now.direct (record { formed = c.piece.ensures.formed; ordered = c.order.ensures.ordered }) c.requires.keeps c.requires.apart)
