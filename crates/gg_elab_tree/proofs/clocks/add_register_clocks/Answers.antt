use Rattle.std.proofs.Common.{ℕ, ◌+◌, ◌<◌, List, ◌++◌, Option, flat_map, length, map, take, subst, sym, ap, ◌∙◌, append_assoc, arith}
use Rattle.gg_elab_sites.specs.Sites.{module_at}
use Rattle.gg_elab_sites.specs.declared.own.OwnSignal.{OwnSignal}
use Rattle.gg_elab_sites.specs.declared.sites.Place.{Place}
use Rattle.gg_elab_sites.specs.Flat.{flat_signals}
use Rattle.gg_elab_sites.specs.Known.{types_of}
use Rattle.gg_elab_sites.specs.inside.Views.{IsPlaceIn, cause_of, site_of}
use Rattle.gg_elab_sites.proofs.FlatLemmas.{digest-at}
use Rattle.gg_elab_tree.specs.IsTreeOf.{clocks_held}
use Rattle.gg_elab_tree.specs.inside.TreeParts.{clock_kept}
use Rattle.gg_elab_tree.proofs.KeptLemmas.{register_clocks-more}
use Rattle.gg_elab_tree.proofs.StopPartLemmas.{held-clocks-more}
use Rattle.gg_elab_tree.proofs.clocks.add_register_clocks.Goals as goal

pub loop-place-preserved : goal.loop-place-preserved
loop-place-preserved c =
    let circuit = c.args.typed.now.circuit in
    let i = c.loop-place.place-index in
    let p = c.place-item.result in
    let m = module_at circuit.modules p.number in
    let lt : c.loop-place.place-index < length c.args.places.now = omega arith in
    let inside : IsPlaceIn circuit.modules p = subst (λ (x : Place). IsPlaceIn circuit.modules x) (sym c.place-item.is) (c.requires.within i p lt) in
    let d = digest-at (types_of circuit) circuit.modules c.args.digests.now p.number c.index-digests-place.result c.requires.digests inside.own c.index-digests-place.is in
    let before = clocks_held (flat_signals (types_of circuit) circuit.modules (map site_of (take i c.args.places.now))) in
    let next = flat_map (λ (s : OwnSignal). clock_kept m (cause_of s.origin)) c.as_slice.result.now in
    register_clocks-more c.args.tree.now c.loop-place.tree c.add_all_kept.new.tree before next (clocks_held (flat_signals (types_of circuit) circuit.modules (map site_of (take (i + 1) c.args.places.now))))
    c.loop-place.invariant c.in_ok-add_all_kept.ensures
    (append_assoc c.args.tree.now.register_clocks before next
    ∙ ap (λ (l : List (Option ℕ)). c.args.tree.now.register_clocks ++ l)
    (ap (λ (l : List OwnSignal). before ++ flat_map (λ (s : OwnSignal). clock_kept m (cause_of s.origin)) l) c.as_slice.ensures.value
    ∙ held-clocks-more circuit c.args.places.now i p c.index-digests-place.result lt c.place-item.is d))

pub add_all_kept-requires : goal.add_all_kept-requires
add_all_kept-requires c =
    let inside : IsPlaceIn c.args.typed.now.circuit.modules c.place-item.result = subst (λ (x : Place). IsPlaceIn c.args.typed.now.circuit.modules x) (sym c.place-item.is) (c.requires.within c.loop-place.place-index c.place-item.result (omega arith)) in
    inside.own
