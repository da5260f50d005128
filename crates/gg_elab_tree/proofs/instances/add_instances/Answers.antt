use Rattle.std.proofs.Common.{◌≡◌, ℕ, ◌<◌, List, ◌++◌, ◌∷◌, [], length, map, get_or, subst, subst₂, sym, refl, ap, ◌∙◌, arith}
use Rattle.std.specs.Prelude.{All, Contains, IfSome}
use Rattle.std.proofs.lemmas.List.{length-map}
use Rattle.std.proofs.lemmas.Grind.{get_or_default_zero}
use Rattle.gg_flat_tree.specs.Tree.{InstanceTree, joined}
use Rattle.gg_flat_tree.specs.inside.Tree.{no_tree}
use Rattle.gg_flat.proofs.ListLemmas.{Contains-map}
use Rattle.gg_ast.specs.declared.module.Port.{Port}
use Rattle.gg_ast.specs.Places.{place_of}
use Rattle.gg_ast.specs.Tree.{ModuleTree, module_names}
use Rattle.gg_elab_sites.specs.Sites.{Site, module_at, sites_of}
use Rattle.gg_shape_names.proofs.FindLemmas.{module-at}
use Rattle.gg_elab_sites.specs.declared.sites.Place.{Place}
use Rattle.gg_elab_sites.specs.declared.digest.OwnMemory.{OwnMemory}
use Rattle.gg_elab_sites.specs.declared.sites.Around.{Around}
use Rattle.gg_elab_sites.specs.inside.Views.{IsPlaceIn, site_of}
use Rattle.gg_elab_sites.specs.Known.{types_of}
use Rattle.gg_elab_tree.specs.inside.TreeParts.{IsInstanceAt, signals_to, signals_among}
use Rattle.gg_elab_tree.specs.IsTreeOf.{site_paths, signal_paths}
use Rattle.gg_elab_sites.proofs.FlatLemmas.{digest-at}
use Rattle.gg_elab_sites.proofs.FreshLemmas.{next-new}
use Rattle.gg_elab_tree.proofs.ElementLemmas.{element, some-of}
use Rattle.gg_elab_tree.proofs.ThereLemmas.{signal-there, memories-there, holder-there}
use Rattle.gg_elab_tree.proofs.KeptLemmas.{instances-kept}
use Rattle.gg_elab_tree.proofs.TreePartLemmas.{instance-is, instances-next, paths-next, paths-same}
use Rattle.gg_elab_tree.proofs.instances.add_instances.Goals as goal

pub loop-i-preserved : goal.loop-i-preserved
loop-i-preserved c =
    let circuit = c.args.typed.now.circuit in
    let places = c.args.places.now in
    let i = c.loop-i.i in
    let p = c.index-places-i.result in
    let digest = c.index-digests-number.result in
    let modules : c.modules-modules.result.now ≡ c.args.typed.now.circuit.modules = cc in
    let top = some-of (place_of c.args.typed.now.circuit.name (module_names c.args.typed.now.circuit)) c.requires.top in
    let lt : c.loop-i.i < length c.args.places.now = omega arith in
    let inside : IsPlaceIn c.args.typed.now.circuit.modules c.index-places-i.result = subst (λ (x : Place). IsPlaceIn c.args.typed.now.circuit.modules x) (sym c.index-places-i.is) (c.requires.within c.loop-i.i c.index-places-i.result lt) in
    let d = digest-at (types_of c.args.typed.now.circuit) c.args.typed.now.circuit.modules c.args.digests.now c.index-places-i.result.number c.index-digests-number.result c.requires.digests inside.own c.index-digests-number.is in
    let here : module_at c.args.typed.now.circuit.modules c.index-places-i.result.number ≡ c.index-modules-number.result = module-at c.args.typed.now.circuit.modules c.index-places-i.result.number c.index-modules-number.result inside.own (c.index-modules-number.is ∙ ap (λ (l : List ModuleTree). get_or l c.index-places-i.result.number c.index-modules-number.result) modules) in
    let ports : c.ports.result.now ≡ (module_at c.args.typed.now.circuit.modules c.index-places-i.result.number).ports = c.ports.ensures ∙ ap (λ (m : ModuleTree). m.ports) (sym here) in
    let made : IsInstanceAt c.args.paths.now c.args.table.now.paths c.args.table.now.memories c.index-digests-number.result (module_at c.args.typed.now.circuit.modules c.index-places-i.result.number).ports c.index-places-i.result c.index.result.now c.index-in-loop-i.result.now c.in_ok-made.made = subst (λ (l : List Port). IsInstanceAt c.args.paths.now c.args.table.now.paths c.args.table.now.memories c.index-digests-number.result l c.index-places-i.result c.index.result.now c.index-in-loop-i.result.now c.in_ok-made.made) ports c.in_ok-made.ensures in
    let depths : c.as_slice.result.now ≡ map (λ (q : Place). q.depth) c.args.places.now = c.as_slice.ensures.value ∙ c.in_ok-levels.ensures in
    let size : length c.as_slice.result.now ≡ length c.args.places.now = ap (λ (l : List ℕ). length l) depths ∙ length-map c.args.places.now (λ (q : Place). q.depth) in
    let starts : c.index.result.now ≡ signals_to c.args.typed.now.circuit c.args.places.now c.loop-i.i = c.index.ensures ∙ get_or_default_zero c.in_ok-starts.starts.items c.loop-i.i c.index.result.now (omega (arith, lt, c.in_ok-starts.ensures.count)) ∙ c.in_ok-starts.ensures.each c.loop-i.i (omega (arith, lt)) in
    let ends : c.index-in-loop-i.result.now ≡ signals_to c.args.typed.now.circuit c.args.places.now c.end_of-end.result = c.index-in-loop-i.ensures ∙ get_or_default_zero c.in_ok-starts.starts.items c.end_of-end.result c.index-in-loop-i.result.now (omega (arith, size, c.end_of-end.ensures.inside, c.in_ok-starts.ensures.count)) ∙ c.in_ok-starts.ensures.each c.end_of-end.result (omega (arith, size, c.end_of-end.ensures.inside)) in
    let instance = instance-is c.args.typed.now.circuit top.0 top.1 c.args.places.now c.requires.sites c.args.paths.now c.args.table.now.paths c.args.table.now.memories c.index-digests-number.result c.index-places-i.result c.loop-i.i c.end_of-end.result c.index.result.now c.index-in-loop-i.result.now c.as_slice.result.now c.in_ok-made.made lt c.index-places-i.is c.requires.paths c.requires.signals c.requires.memories d starts ends depths c.end_of-end.ensures.after c.end_of-end.ensures.inside c.end_of-end.ensures.deeper c.end_of-end.ensures.stop inside.followed made in
    let added = c.in_ok-add_instance.ensures {u = tt} in (
      paths-next c.args.places.now c.loop-i.i c.index-places-i.result c.loop-i.tree.paths c.add_instance.new.tree.paths lt c.index-places-i.is c.loop-i.invariant.0 (ap (λ (t : InstanceTree). t.paths) added ∙ ap (λ x. c.loop-i.tree.paths ++ x ∷ []) c.in_ok-path.ensures),
      instances-next c.args.typed.now.circuit c.args.places.now c.loop-i.i c.index-places-i.result c.loop-i.tree.instances c.add_instance.new.tree.instances c.in_ok-made.made lt c.index-places-i.is c.loop-i.invariant.1 instance (ap (λ (t : InstanceTree). t.instances) added),
      instances-kept no_tree c.loop-i.tree c.add_instance.new.tree (c.loop-i.tree.paths ++ c.in_ok-path.path ∷ []) (c.loop-i.tree.instances ++ c.in_ok-made.made ∷ []) c.loop-i.invariant.2 added,
    )

pub add_instance-requires : goal.add_instance-requires
add_instance-requires c = record {
  fresh = λ h.
      next-new (λ (p : Place). p.path) [] c.args.places.now c.loop-i.i c.index-places-i.result c.requires.distinct (omega arith) c.index-places-i.is
      (subst₂ Contains c.loop-i.invariant.0 c.in_ok-path.ensures h);
}

pub instance-requires-clause-holder : goal.instance-requires-clause-holder
instance-requires-clause-holder c =
    let circuit = c.args.typed.now.circuit in
    let lt : c.loop-i.i < length c.args.places.now = omega arith in
    let there : Contains (sites_of circuit) (site_of c.index-places-i.result) = subst (λ (l : List Site). Contains l (site_of c.index-places-i.result)) c.requires.sites (Contains-map site_of c.args.places.now c.index-places-i.result (c.loop-i.i, lt, sym c.index-places-i.is)) in
    let top = some-of (place_of circuit.name (module_names circuit)) c.requires.top in
    let same : c.args.paths.now ≡ site_paths circuit = c.requires.paths ∙ paths-same circuit top.0 top.1 c.args.places.now c.requires.sites in
    subst (λ (l : List (List ℕ)). IfSome c.index-places-i.result.outer (λ (around : Around). Contains l around.path)) (sym same) (holder-there circuit c.index-places-i.result there)

pub instance-requires-clause-ports : goal.instance-requires-clause-ports
instance-requires-clause-ports c =
    let circuit = c.args.typed.now.circuit in
    let lt : c.loop-i.i < length c.args.places.now = omega arith in
    let there : Contains (sites_of circuit) (site_of c.index-places-i.result) = subst (λ (l : List Site). Contains l (site_of c.index-places-i.result)) c.requires.sites (Contains-map site_of c.args.places.now c.index-places-i.result (c.loop-i.i, lt, sym c.index-places-i.is)) in
    let inside : IsPlaceIn circuit.modules c.index-places-i.result = subst (λ (x : Place). IsPlaceIn circuit.modules x) (sym c.index-places-i.is) (c.requires.within c.loop-i.i c.index-places-i.result lt) in
    let modules : c.modules-modules.result.now ≡ circuit.modules = cc in
    let here : module_at circuit.modules c.index-places-i.result.number ≡ c.index-modules-number.result = module-at circuit.modules c.index-places-i.result.number c.index-modules-number.result inside.own (c.index-modules-number.is ∙ ap (λ (l : List ModuleTree). get_or l c.index-places-i.result.number c.index-modules-number.result) modules) in
    let ports : c.ports.result.now ≡ (module_at circuit.modules c.index-places-i.result.number).ports = c.ports.ensures ∙ ap (λ (m : ModuleTree). m.ports) (sym here) in
    subst (λ (l : List Port). All (λ (p : Port). Contains c.args.table.now.paths (joined c.index-places-i.result.path p.name)) (signals_among l)) (sym ports)
    (subst (λ (l : List (List ℕ)). All (λ (p : Port). Contains l (joined c.index-places-i.result.path p.name)) (signals_among (module_at circuit.modules c.index-places-i.result.number).ports)) (sym c.requires.signals)
    (λ j any below.
    let e = element (signals_among (module_at circuit.modules c.index-places-i.result.number).ports) j below in
    subst (λ (p : Port). Contains (signal_paths circuit) (joined c.index-places-i.result.path p.name)) (sym (e.2 any)) (signal-there circuit (site_of c.index-places-i.result) e.0 there e.1)))

pub instance-requires-clause-memories : goal.instance-requires-clause-memories
instance-requires-clause-memories c =
    let circuit = c.args.typed.now.circuit in
    let lt : c.loop-i.i < length c.args.places.now = omega arith in
    let there : Contains (sites_of circuit) (site_of c.index-places-i.result) = subst (λ (l : List Site). Contains l (site_of c.index-places-i.result)) c.requires.sites (Contains-map site_of c.args.places.now c.index-places-i.result (c.loop-i.i, lt, sym c.index-places-i.is)) in
    let inside : IsPlaceIn circuit.modules c.index-places-i.result = subst (λ (x : Place). IsPlaceIn circuit.modules x) (sym c.index-places-i.is) (c.requires.within c.loop-i.i c.index-places-i.result lt) in
    let d = digest-at (types_of circuit) circuit.modules c.args.digests.now c.index-places-i.result.number c.index-digests-number.result c.requires.digests inside.own c.index-digests-number.is in
    subst (λ (l : List (List ℕ)). All (λ (own : OwnMemory). Contains l (joined c.index-places-i.result.path own.name.now)) c.index-digests-number.result.memories.items) (sym c.requires.memories)
    (memories-there circuit c.index-places-i.result c.index-digests-number.result d there c.index-digests-number.result.memories.items refl)
