use Rattle.std.proofs.Common.{◌≡◌, ◌<◌, List, ◌++◌, length, map, subst, sym, ap, ◌∙◌, arith}
use Rattle.gg_flat_tree.specs.Tree.{joined}
use Rattle.gg_elab_sites.specs.IsFlat.{number_of}
use Rattle.gg_elab_sites.specs.Known.{types_of}
use Rattle.gg_elab_sites.specs.inside.Views.{IsPlaceIn}
use Rattle.gg_elab_sites.specs.declared.sites.Place.{Place}
use Rattle.gg_elab_sites.specs.declared.stops.OwnStop.{OwnStop}
use Rattle.gg_elab_sites.proofs.FlatLemmas.{digest-at}
use Rattle.gg_elab.proofs.WholeLemmas.{stops-more}
use Rattle.gg_elab.proofs.ports.add_stops.Goals as goal

pub loop-place-preserved : goal.loop-place-preserved
loop-place-preserved c =
    let circuit = c.args._typed.now.circuit in
    let paths = c.args.paths.now in
    let i = c.loop-place.place-index in
    let p = c.place-item.result in
    let lt : i < length c.args.places.now = omega arith in
    let inside : IsPlaceIn circuit.modules p = subst (λ (x : Place). IsPlaceIn circuit.modules x) (sym c.place-item.is) (c.requires.places i p lt) in
    let d = digest-at (types_of circuit) circuit.modules c.args.digests.now p.number c.index-digests-place.result c.requires.digests inside.own c.index-digests-place.is in
    let listed : c.as_slice.result.now ≡ c.index-digests-place.result.stops.items = c.as_slice.ensures.value in
    stops-more circuit.modules (types_of circuit) paths c.args.piece.now c.loop-place.piece c.add_site_stops.new.piece c.args.places.now i p c.index-digests-place.result lt c.place-item.is d c.loop-place.invariant
    (c.in_ok-add_site_stops.ensures ∙ ap (λ (l : List OwnStop). record c.loop-place.piece { outs = c.loop-place.piece.outs ++ map (λ (stop : OwnStop). number_of paths (joined p.path stop.name)) l }) listed)
