use Rattle.std.proofs.Common.{◌≡◌, ℕ, ◌<◌, ◌++◌, List, Bool, Option, length, map, not, refl, sym, ◌∙◌, ap, subst}
use Rattle.std.specs.Prelude.{◌==◌, All, Contains, filter}
use Rattle.std.specs.List.{list_any}
use Rattle.gg_flat_tree.specs.Scoped.{stop_signals}
use Rattle.gg_order.specs.Marks.{is_marked}
use Rattle.gg_cut_plan.specs.declared.wires.Wire.{Wire}
use Rattle.gg_cut_routes.specs.declared.sides.Side.{Side}
use Rattle.gg_cut_plan.specs.inside.Machines.{Counts}
use Rattle.gg_cut_plan.specs.Direct.{hub_of}
use Rattle.gg_cut_routes.specs.inside.Tables.{side_at, entry_at, is_makers, IsSeen, direct_by, AreEntries, AreGone, routed_by}
use Rattle.gg_cut_routes.specs.inside.Routable.{IsRouting}
use Rattle.gg_cut_routes.proofs.GoneTables.{names_by}
use Rattle.gg_cut_routes.proofs.CutTables.{known-wires, mine-known, mine-named, names-known, fields-known, seen, routing-is}
use Rattle.gg_cut_routes.proofs.routing.routes_of.Goals as goal

pub routed_sides-requires-clause-wires : goal.routed_sides-requires-clause-wires
routed_sides-requires-clause-wires c =
    subst (λ n. All (λ (w : Wire). w.signal < n) c.args.wires.now) (sym c.signal_count-count.ensures.count)
    (known-wires c.args.piece.now c.args.tree.now c.args.order.now c.args._listed.now c.args._entries.now c.args.wires.now c.args.globals.now c.args.memories.now c.requires.can (is_marked c.args.piped.now) c.args.direct)

pub names_of-requires-clause-signals : goal.names_of-requires-clause-signals
names_of-requires-clause-signals c =
    let made = c.in_ok-made.ensures {u = tt} ∙ ap (λ (l : List Side). filter (λ s. is_makers (side_at l s)) c.args.globals.now) c.deref.ensures.value in
    subst (λ (l : List ℕ). All (λ s. s < length c.args.piece.now.signals) l) (sym (c.deref-3.ensures.value ∙ made))
    (mine-known c.args.piece.now c.args.tree.now c.args.order.now c.args._listed.now c.args._entries.now c.args.wires.now c.args.globals.now c.args.memories.now c.requires.can (is_marked c.args.piped.now) c.args.direct c.in_ok-sides.sides.items c.in_ok-sides.ensures.sides)

pub marks_of-requires : goal.marks_of-requires
marks_of-requires c =
    let made = c.in_ok-made.ensures {u = tt} ∙ ap (λ (l : List Side). filter (λ s. is_makers (side_at l s)) c.args.globals.now) c.deref.ensures.value in
    let names =
    c.deref-4.ensures.value ∙ c.in_ok-push_stops.ensures
    ∙ ap (λ (l : List ℕ). l ++ stop_signals c.args.tree.now) (c.in_ok-names.ensures {u = tt} ∙ ap (names_by c.args.piece.now c.args.memories.now) (c.deref-3.ensures.value ∙ made)) in
    subst (λ n. All (λ t. t < n) c.deref-4.result.now) (sym c.signal_count-count.ensures.count)
    (subst (λ (l : List ℕ). All (λ t. t < length c.args.piece.now.signals) l) (sym names)
    (names-known c.args.piece.now c.args.tree.now c.args.order.now c.args._listed.now c.args._entries.now c.args.wires.now c.args.globals.now c.args.memories.now c.requires.can (is_marked c.args.piped.now) c.args.direct c.in_ok-sides.sides.items c.in_ok-sides.ensures.sides))

pub straight_of-requires-clause-signals : goal.straight_of-requires-clause-signals
straight_of-requires-clause-signals c = known-wires c.args.piece.now c.args.tree.now c.args.order.now c.args._listed.now c.args._entries.now c.args.wires.now c.args.globals.now c.args.memories.now c.requires.can (is_marked c.args.piped.now) c.args.direct

pub gone_of-requires-clause-made : goal.gone_of-requires-clause-made
gone_of-requires-clause-made c =
    let made = c.in_ok-made.ensures {u = tt} ∙ ap (λ (l : List Side). filter (λ s. is_makers (side_at l s)) c.args.globals.now) c.deref.ensures.value in
    subst (λ (l : List ℕ). All (λ s. s < length c.args.piece.now.signals) l) (sym (c.deref-9.ensures.value ∙ made))
    (mine-known c.args.piece.now c.args.tree.now c.args.order.now c.args._listed.now c.args._entries.now c.args.wires.now c.args.globals.now c.args.memories.now c.requires.can (is_marked c.args.piped.now) c.args.direct c.in_ok-sides.sides.items c.in_ok-sides.ensures.sides)

pub gone_of-requires-clause-named : goal.gone_of-requires-clause-named
gone_of-requires-clause-named c =
    let made = c.in_ok-made.ensures {u = tt} ∙ ap (λ (l : List Side). filter (λ s. is_makers (side_at l s)) c.args.globals.now) c.deref.ensures.value in
    λ s t h named.
    mine-named c.args.piece.now c.args.tree.now c.args.order.now c.args._listed.now c.args._entries.now c.args.wires.now c.args.globals.now c.args.memories.now c.requires.can (is_marked c.args.piped.now) c.args.direct c.in_ok-sides.sides.items c.in_ok-sides.ensures.sides s t (subst (λ (l : List ℕ). Contains l s) (c.deref-9.ensures.value ∙ made) h) named

pub gone_of-requires-clause-fields : goal.gone_of-requires-clause-fields
gone_of-requires-clause-fields c = λ m t h field. fields-known c.args.piece.now c.args.tree.now c.args.order.now c.args._listed.now c.args._entries.now c.args.wires.now c.args.globals.now c.args.memories.now c.requires.can m t h field

pub routed_of-requires-clause-signals : goal.routed_of-requires-clause-signals
routed_of-requires-clause-signals c =
    subst (λ n. All (λ (w : Wire). w.signal < n) c.args.wires.now) (sym (ap (λ (l : List Bool). length l) c.deref-14.ensures.value ∙ c.in_ok-gone.ensures.count))
    (known-wires c.args.piece.now c.args.tree.now c.args.order.now c.args._listed.now c.args._entries.now c.args.wires.now c.args.globals.now c.args.memories.now c.requires.can (is_marked c.args.piped.now) c.args.direct)

pub returns : goal.returns
returns c =
    let hub = hub_of c.args.piece.now c.args.tree.now c.args._listed.now (is_marked c.args.piped.now) c.args._entries.now c.args.direct in
    let sides = c.in_ok-sides.sides.items in
    let origins = c.in_ok-origins.origins.items in
    let named = c.in_ok-named.named.items in
    let straight = c.in_ok-straight.straight.items in
    let gone = c.in_ok-gone.gone.items in
    let mine = filter (λ s. is_makers (side_at c.in_ok-sides.sides.items s)) c.args.globals.now in
    let made : c.in_ok-made.made.items ≡ filter (λ s. is_makers (side_at c.in_ok-sides.sides.items s)) c.args.globals.now =
    c.in_ok-made.ensures {u = tt} ∙ ap (λ (l : List Side). filter (λ s. is_makers (side_at l s)) c.args.globals.now) c.deref.ensures.value in
    let names : c.deref-4.result.now ≡ names_by c.args.piece.now c.args.memories.now (filter (λ s. is_makers (side_at c.in_ok-sides.sides.items s)) c.args.globals.now) ++ stop_signals c.args.tree.now =
    c.deref-4.ensures.value ∙ c.in_ok-push_stops.ensures
    ∙ ap (λ (l : List ℕ). l ++ stop_signals c.args.tree.now) (c.in_ok-names.ensures {u = tt} ∙ ap (names_by c.args.piece.now c.args.memories.now) (c.deref-3.ensures.value ∙ made)) in
    let view =
    subst (λ (l : List Side). IsSeen (hub_of c.args.piece.now c.args.tree.now c.args._listed.now (is_marked c.args.piped.now) c.args._entries.now c.args.direct) c.args.piece.now l c.args.piped.now) (sym c.deref-2.ensures.value)
    (seen c.args.piece.now c.args.tree.now c.args.order.now c.args._listed.now c.args._entries.now c.args.wires.now c.args.globals.now c.args.memories.now c.requires.can (is_marked c.args.piped.now) c.args.direct sides c.in_ok-sides.ensures.sides c.args.piped.now (λ s. refl)) in
    let found =
    subst (λ (l : List Side). AreEntries (direct_by c.args.piece.now c.args.numbering l c.in_ok-origins.origins.items c.in_ok-named.named.items c.args.direct) c.args.wires.now c.in_ok-straight.straight.items) c.deref-5.ensures.value
    (subst (λ (l : List (Option ℕ)). AreEntries (direct_by c.args.piece.now c.args.numbering c.deref-5.result.now l c.in_ok-named.named.items c.args.direct) c.args.wires.now c.in_ok-straight.straight.items) c.deref-6.ensures.value
    (subst (λ (l : List Bool). AreEntries (direct_by c.args.piece.now c.args.numbering c.deref-5.result.now c.deref-6.result.now l c.args.direct) c.args.wires.now c.in_ok-straight.straight.items) c.deref-7.ensures.value
    c.in_ok-straight.ensures.entries)) in
    let entered =
    subst (λ (n : Counts). AreEntries (direct_by c.args.piece.now n c.in_ok-sides.sides.items c.in_ok-origins.origins.items c.in_ok-named.named.items c.args.direct) c.args.wires.now c.in_ok-straight.straight.items) c.requires.numbers found in
    let left =
    subst (λ (l : List Side). AreGone c.args.piece.now l (filter (λ s. is_makers (side_at c.in_ok-sides.sides.items s)) c.args.globals.now) c.args.memories.now c.in_ok-origins.origins.items c.in_ok-straight.straight.items c.in_ok-gone.gone.items) c.deref-8.ensures.value
    (subst (λ (l : List ℕ). AreGone c.args.piece.now c.deref-8.result.now l c.args.memories.now c.in_ok-origins.origins.items c.in_ok-straight.straight.items c.in_ok-gone.gone.items) (c.deref-9.ensures.value ∙ made)
    (subst (λ (l : List (Option ℕ)). AreGone c.args.piece.now c.deref-8.result.now c.deref-9.result.now c.args.memories.now l c.in_ok-straight.straight.items c.in_ok-gone.gone.items) c.deref-10.ensures.value
    (subst (λ (l : List (Option ℕ)). AreGone c.args.piece.now c.deref-8.result.now c.deref-9.result.now c.args.memories.now c.deref-10.result.now l c.in_ok-gone.gone.items) c.deref-11.ensures.value c.in_ok-gone.ensures.gone))) in
    let routed =
    c.in_ok-routed.ensures {u = tt}
    ∙ ap (λ (l : List Side). map (λ (w : Wire). routed_by l w (entry_at c.deref-13.result.now w.signal)) (filter (λ (w : Wire). not (is_marked c.deref-14.result.now w.signal)) c.args.wires.now)) c.deref-12.ensures.value
    ∙ ap (λ (l : List (Option ℕ)). map (λ (w : Wire). routed_by c.in_ok-sides.sides.items w (entry_at l w.signal)) (filter (λ (w : Wire). not (is_marked c.deref-14.result.now w.signal)) c.args.wires.now)) c.deref-13.ensures.value
    ∙ ap (λ (l : List Bool). map (λ (w : Wire). routed_by c.in_ok-sides.sides.items w (entry_at c.in_ok-straight.straight.items w.signal)) (filter (λ (w : Wire). not (is_marked l w.signal)) c.args.wires.now)) c.deref-14.ensures.value in
    let is =
    routing-is c.args.piece.now c.args.tree.now c.args.order.now c.args._listed.now c.args._entries.now c.args.wires.now c.args.globals.now c.args.memories.now c.requires.can (is_marked c.args.piped.now) c.args.direct sides c.in_ok-sides.ensures.sides origins straight named gone
    c.in_ok-origins.ensures.count (c.in_ok-origins.ensures.origins hub view)
    (λ s. c.in_ok-named.ensures.marks s ∙ ap (λ (l : List ℕ). list_any (λ t. s == t) l) names) entered left c.in_ok-routed.routed.items routed in
    subst (λ (l : List Wire). IsRouting (hub_of c.args.piece.now c.args.tree.now c.args._listed.now (is_marked c.args.piped.now) c.args._entries.now c.args.direct) l c.from-2.result) (sym c.from.ensures)
    (subst (λ (l : List Bool). IsRouting (hub_of c.args.piece.now c.args.tree.now c.args._listed.now (is_marked c.args.piped.now) c.args._entries.now c.args.direct) c.in_ok-routed.routed.items l) (sym c.from-2.ensures) is)
