use Rattle.std.proofs.Common.{◌≡◌, ℕ, ◌+◌, ◌<◌, List, ◌++◌, length, map, flat_map, take, subst, sym, ap, ◌∙◌, arith}
use Rattle.std.specs.Prelude.{All, Contains}
use Rattle.gg_elab_sites.specs.Sites.{Site, sites_of}
use Rattle.gg_flat_tree.specs.Tree.{joined}
use Rattle.gg_flat.proofs.ListLemmas.{Contains-map}
use Rattle.gg_elab_sites.specs.declared.digest.OwnMemory.{OwnMemory}
use Rattle.gg_elab_sites.specs.declared.sites.Place.{Place}
use Rattle.gg_elab_sites.specs.inside.Views.{IsPlaceIn, site_of}
use Rattle.gg_elab_tree.specs.IsTreeOf.{Pairwise, HeldMemory, held_memories}
use Rattle.gg_elab_sites.specs.Known.{types_of}
use Rattle.gg_elab_tree.specs.inside.TreeParts.{IsHeldFor, held_at_place}
use Rattle.gg_elab_sites.specs.Flat.{FlatMemory, memories_at, flat_memories}
use Rattle.gg_elab_sites.specs.IsFlat.{memory_paths}
use Rattle.gg_elab_tree.proofs.KeptLemmas.{memories-kept}
use Rattle.gg_elab_tree.proofs.ThereLemmas.{memories-there}
use Rattle.gg_elab_sites.proofs.FlatLemmas.{digest-at}
use Rattle.gg_elab_sites.proofs.FreshLemmas.{parts-front}
use Rattle.gg_elab_sites.proofs.NameLemmas.{Differ}
use Rattle.gg_elab_tree.proofs.TreePartLemmas.{held-more, held-paths}
use Rattle.gg_elab_tree.proofs.memories.add_memories.Goals as goal

pub loop-place-preserved : goal.loop-place-preserved
loop-place-preserved c =
    let circuit = c.args.typed.now.circuit in
    let lt : c.loop-place.place-index < length c.args.places.now = omega arith in
    let inside : IsPlaceIn c.args.typed.now.circuit.modules c.place-item.result = subst (λ (x : Place). IsPlaceIn c.args.typed.now.circuit.modules x) (sym c.place-item.is) (c.requires.within c.loop-place.place-index c.place-item.result lt) in
    let digest = c.index-digests-place.result in
    let d = digest-at (types_of c.args.typed.now.circuit) c.args.typed.now.circuit.modules c.args.digests.now c.place-item.result.number c.index-digests-place.result c.requires.digests inside.own c.index-digests-place.is in
    let added = c.in_ok-add_site_memories.ensures in
    let sites = flat_map (held_memories c.args.typed.now.circuit.modules) (map site_of (take c.loop-place.place-index c.args.places.now)) in (
      added.names
          ∙ ap (λ (l : List OwnMemory). c.loop-place.tree.memory_paths ++ map (λ m. joined c.place-item.result.path m.name.now) l) c.as_slice.ensures.value
          ∙ ap (λ l. l ++ map (λ m. joined c.place-item.result.path m.name.now) c.index-digests-place.result.memories.items) c.loop-place.invariant.0
          ∙ held-paths c.args.places.now c.loop-place.place-index c.args.typed.now.circuit c.place-item.result c.index-digests-place.result lt c.place-item.is d,
      subst (λ (l : List HeldMemory). Pairwise (IsHeldFor c.args.typed.now.circuit) l c.add_site_memories.new.tree.memories)
          (ap (λ (l : List OwnMemory). flat_map (held_memories c.args.typed.now.circuit.modules) (map site_of (take c.loop-place.place-index c.args.places.now)) ++ map (held_at_place c.args.typed.now.circuit.modules c.place-item.result) l) c.as_slice.ensures.value
          ∙ held-more c.args.typed.now.circuit c.args.places.now c.loop-place.place-index c.place-item.result c.index-digests-place.result lt c.place-item.is d)
          (added.made (flat_map (held_memories c.args.typed.now.circuit.modules) (map site_of (take c.loop-place.place-index c.args.places.now))) c.requires.paths c.requires.memories c.loop-place.invariant.1),
      memories-kept c.args.tree.now c.loop-place.tree c.add_site_memories.new.tree c.add_site_memories.new.tree.memory_paths c.add_site_memories.new.tree.memories c.loop-place.invariant.2 added.rest,
    )

pub add_site_memories-requires-clause-distinct : goal.add_site_memories-requires-clause-distinct
add_site_memories-requires-clause-distinct c =
    let lt : c.loop-place.place-index < length c.args.places.now = omega arith in
    let inside : IsPlaceIn c.args.typed.now.circuit.modules c.place-item.result = subst (λ (x : Place). IsPlaceIn c.args.typed.now.circuit.modules x) (sym c.place-item.is) (c.requires.within c.loop-place.place-index c.place-item.result lt) in
    let d = digest-at (types_of c.args.typed.now.circuit) c.args.typed.now.circuit.modules c.args.digests.now c.place-item.result.number c.index-digests-place.result c.requires.digests inside.own c.index-digests-place.is in
    let more : memory_paths (flat_memories c.args.typed.now.circuit.modules (map site_of (take (c.loop-place.place-index + 1) c.args.places.now))) ≡ c.loop-place.tree.memory_paths ++ map (λ (m : OwnMemory). joined c.place-item.result.path m.name.now) c.as_slice.result.now =
    sym (ap (λ (l : List OwnMemory). c.loop-place.tree.memory_paths ++ map (λ m. joined c.place-item.result.path m.name.now) l) c.as_slice.ensures.value
    ∙ ap (λ l. l ++ map (λ m. joined c.place-item.result.path m.name.now) c.index-digests-place.result.memories.items) c.loop-place.invariant.0
    ∙ held-paths c.args.places.now c.loop-place.place-index c.args.typed.now.circuit c.place-item.result c.index-digests-place.result lt c.place-item.is d) in
    subst Differ more (parts-front (λ (x : FlatMemory). x.path) (memories_at c.args.typed.now.circuit.modules) site_of c.args.places.now (c.loop-place.place-index + 1) c.requires.distinct)

pub add_site_memories-requires-clause-holder : goal.add_site_memories-requires-clause-holder
add_site_memories-requires-clause-holder c =
    let circuit = c.args.typed.now.circuit in
    subst (λ (l : List (List ℕ)). Contains l c.place-item.result.path) (sym c.requires.paths)
    (Contains-map (λ (s : Site). s.path) (sites_of circuit) (site_of c.place-item.result)
    (subst (λ (l : List Site). Contains l (site_of c.place-item.result)) c.requires.sites (Contains-map site_of c.args.places.now c.place-item.result (c.loop-place.place-index, omega arith, sym c.place-item.is))))

pub add_site_memories-requires-clause-numbers : goal.add_site_memories-requires-clause-numbers
add_site_memories-requires-clause-numbers c =
    let circuit = c.args.typed.now.circuit in
    let lt : c.loop-place.place-index < length c.args.places.now = omega arith in
    let inside : IsPlaceIn circuit.modules c.place-item.result = subst (λ (x : Place). IsPlaceIn circuit.modules x) (sym c.place-item.is) (c.requires.within c.loop-place.place-index c.place-item.result lt) in
    let d = digest-at (types_of circuit) circuit.modules c.args.digests.now c.place-item.result.number c.index-digests-place.result c.requires.digests inside.own c.index-digests-place.is in
    let there : Contains (sites_of circuit) (site_of c.place-item.result) = subst (λ (l : List Site). Contains l (site_of c.place-item.result)) c.requires.sites (Contains-map site_of c.args.places.now c.place-item.result (c.loop-place.place-index, lt, sym c.place-item.is)) in
    subst (λ (l : List (List ℕ)). All (λ (own : OwnMemory). Contains l (joined c.place-item.result.path own.name.now)) c.as_slice.result.now) (sym c.requires.memories)
    (memories-there circuit c.place-item.result c.index-digests-place.result d there c.as_slice.result.now c.as_slice.ensures.value)

pub add_site_memories-requires-clause-there : goal.add_site_memories-requires-clause-there
add_site_memories-requires-clause-there c =
    let inside : IsPlaceIn c.args.typed.now.circuit.modules c.place-item.result = subst (λ (x : Place). IsPlaceIn c.args.typed.now.circuit.modules x) (sym c.place-item.is) (c.requires.within c.loop-place.place-index c.place-item.result (omega arith)) in
    inside.own
