use Rattle.std.proofs.Common.{ℕ, ◌<◌, List, ◌++◌, length, map, flat_map, take, subst, sym, ap, ◌∙◌, arith}
use Rattle.std.specs.Prelude.{All, Contains}
use Rattle.gg_elab_sites.specs.Sites.{Site, sites_of}
use Rattle.gg_flat_tree.specs.Tree.{joined}
use Rattle.gg_flat.proofs.ListLemmas.{Contains-map}
use Rattle.gg_elab_sites.specs.declared.sites.Place.{Place}
use Rattle.gg_elab_sites.specs.declared.stops.OwnStop.{OwnStop}
use Rattle.gg_elab_sites.specs.Known.{types_of}
use Rattle.gg_elab_sites.specs.inside.Views.{IsPlaceIn, site_of}
use Rattle.gg_elab_sites.proofs.FlatLemmas.{digest-at}
use Rattle.gg_elab_tree.specs.IsTreeOf.{Pairwise, HeldStop, held_stops}
use Rattle.gg_elab_tree.specs.inside.TreeParts.{IsAskedFor, stop_at_place}
use Rattle.gg_elab_tree.proofs.KeptLemmas.{stops-kept}
use Rattle.gg_elab_tree.proofs.StopPartLemmas.{asked-more, stops-there}
use Rattle.gg_elab_tree.proofs.stops.add_stops.Goals as goal

pub loop-place-preserved : goal.loop-place-preserved
loop-place-preserved c =
    let circuit = c.args.typed.now.circuit in
    let lt : c.loop-place.place-index < length c.args.places.now = omega arith in
    let inside : IsPlaceIn c.args.typed.now.circuit.modules c.place-item.result = subst (λ (x : Place). IsPlaceIn c.args.typed.now.circuit.modules x) (sym c.place-item.is) (c.requires.within c.loop-place.place-index c.place-item.result lt) in
    let d = digest-at (types_of c.args.typed.now.circuit) c.args.typed.now.circuit.modules c.args.digests.now c.place-item.result.number c.index-digests-place.result c.requires.digests inside.own c.index-digests-place.is in
    let added = c.in_ok-add_site_stops.ensures in (
      subst (λ (l : List HeldStop). Pairwise (IsAskedFor c.args.typed.now.circuit) l c.add_site_stops.new.tree.stops)
          (ap (λ (l : List OwnStop). flat_map (held_stops c.args.typed.now.circuit.modules) (map site_of (take c.loop-place.place-index c.args.places.now)) ++ map (stop_at_place c.place-item.result) l) c.as_slice.ensures.value
          ∙ asked-more c.args.typed.now.circuit c.args.places.now c.loop-place.place-index c.place-item.result c.index-digests-place.result lt c.place-item.is d)
          (added.made (flat_map (held_stops c.args.typed.now.circuit.modules) (map site_of (take c.loop-place.place-index c.args.places.now))) c.requires.paths c.requires.signals c.loop-place.invariant.0),
      stops-kept c.args.tree.now c.loop-place.tree c.add_site_stops.new.tree c.add_site_stops.new.tree.stops c.loop-place.invariant.1 added.rest,
    )

pub add_site_stops-requires-clause-there : goal.add_site_stops-requires-clause-there
add_site_stops-requires-clause-there c =
    let inside : IsPlaceIn c.args.typed.now.circuit.modules c.place-item.result = subst (λ (x : Place). IsPlaceIn c.args.typed.now.circuit.modules x) (sym c.place-item.is) (c.requires.within c.loop-place.place-index c.place-item.result (omega arith)) in
    inside.own

pub add_site_stops-requires-clause-holder : goal.add_site_stops-requires-clause-holder
add_site_stops-requires-clause-holder c =
    let circuit = c.args.typed.now.circuit in
    subst (λ (l : List (List ℕ)). Contains l c.place-item.result.path) (sym c.requires.paths)
    (Contains-map (λ (s : Site). s.path) (sites_of circuit) (site_of c.place-item.result)
    (subst (λ (l : List Site). Contains l (site_of c.place-item.result)) c.requires.sites (Contains-map site_of c.args.places.now c.place-item.result (c.loop-place.place-index, omega arith, sym c.place-item.is))))

pub add_site_stops-requires-clause-signals : goal.add_site_stops-requires-clause-signals
add_site_stops-requires-clause-signals c =
    let circuit = c.args.typed.now.circuit in
    let lt : c.loop-place.place-index < length c.args.places.now = omega arith in
    let inside : IsPlaceIn circuit.modules c.place-item.result = subst (λ (x : Place). IsPlaceIn circuit.modules x) (sym c.place-item.is) (c.requires.within c.loop-place.place-index c.place-item.result lt) in
    let d = digest-at (types_of circuit) circuit.modules c.args.digests.now c.place-item.result.number c.index-digests-place.result c.requires.digests inside.own c.index-digests-place.is in
    let there : Contains (sites_of circuit) (site_of c.place-item.result) = subst (λ (l : List Site). Contains l (site_of c.place-item.result)) c.requires.sites (Contains-map site_of c.args.places.now c.place-item.result (c.loop-place.place-index, lt, sym c.place-item.is)) in
    subst (λ (l : List (List ℕ)). All (λ (own : OwnStop). Contains l (joined c.place-item.result.path own.name)) c.as_slice.result.now) (sym c.requires.signals)
    (stops-there circuit c.place-item.result c.index-digests-place.result d there c.as_slice.result.now c.as_slice.ensures.value)
