use Rattle.std.proofs.Common.{List, ◌∙◌, ap}
use Rattle.std.specs.Prelude.{slice_index_or}
use Rattle.gg_order.specs.Design.{IsDesign}
use Rattle.gg_order.specs.Marks.{is_marked}
use Rattle.gg_cut_split.specs.declared.share.Share.{Share}
use Rattle.gg_cut_routes.proofs.RoutableLemmas.{routable, routing-at}
use Rattle.gg_cut_routes.proofs.routing.routes.Goals as goal

pub routes_of-requires-clause-can : goal.routes_of-requires-clause-can
routes_of-requires-clause-can c =
    let first = c.index-as_slice-0.is ∙ ap (λ (l : List Share). slice_index_or l 0 c.index-as_slice-0.result) c.as_slice.ensures in
    let is : IsDesign c.args.design.now = record { formed = c.piece.ensures.formed; ordered = c.order.ensures.ordered } in
    routable c.args.design.now c.args._listed.now c.args._entries.now is c.requires.keeps c.requires.apart (c.channels_once.ensures.once c.args.design.now c.args._listed.now c.args._entries.now is c.requires.keeps c.requires.apart) (c.channels_once.ensures.ends c.args.design.now c.args._listed.now c.args._entries.now is c.requires.keeps c.requires.apart)
    c.piece.result.now c.tree.result.now c.order.result.now c.as_slice-2.result.now c.args.split.now.shares c.index-as_slice-0.result c.as_slice-3.result.now c.as_slice-4.result.now
    c.piece.ensures.circuit c.tree.ensures.tree c.order.ensures.order (c.as_slice-2.ensures ∙ c.requires.wires) c.requires.shares
    (c.as_slice-3.ensures ∙ ap (λ (s : Share). s.globals) first) (c.as_slice-4.ensures ∙ ap (λ (s : Share). s.memories) first)

pub returns-clause-wires : goal.returns-clause-wires
returns-clause-wires c =
    (routing-at c.args.design.now c.piece.result.now c.tree.result.now c.args._listed.now (is_marked c.args.piped.now) c.args._entries.now c.args.direct c.in_ok-channels.channels.wires c.in_ok-channels.channels.gone c.piece.ensures.circuit c.tree.ensures.tree (c.in_ok-channels.ensures {u = tt})).channels

pub returns-clause-gone : goal.returns-clause-gone
returns-clause-gone c =
    (routing-at c.args.design.now c.piece.result.now c.tree.result.now c.args._listed.now (is_marked c.args.piped.now) c.args._entries.now c.args.direct c.in_ok-channels.channels.wires c.in_ok-channels.channels.gone c.piece.ensures.circuit c.tree.ensures.tree (c.in_ok-channels.ensures {u = tt})).leaves

pub returns-clause-sound : goal.returns-clause-sound
returns-clause-sound c =
    c.channels_routed.ensures c.args.design.now c.args._listed.now (is_marked c.args.piped.now) c.args._entries.now c.args.direct (record { formed = c.piece.ensures.formed; ordered = c.order.ensures.ordered }) c.requires.keeps c.requires.apart

pub returns-in_err-channels-clause-sound : goal.returns-in_err-channels-clause-sound
returns-in_err-channels-clause-sound c =
    c.channels_routed.ensures c.args.design.now c.args._listed.now (is_marked c.args.piped.now) c.args._entries.now c.args.direct (record { formed = c.piece.ensures.formed; ordered = c.order.ensures.ordered }) c.requires.keeps c.requires.apart
