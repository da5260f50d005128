use Rattle.std.proofs.Common.{List, flat_map, map, subst, sym, ap, ◌∙◌}
use Rattle.gg_ast.specs.Places.{place_of}
use Rattle.gg_ast.specs.Tree.{module_names}
use Rattle.gg_flat_tree.specs.Tree.{InstanceTree}
use Rattle.gg_types.specs.Clocks.{clock_inputs}
use Rattle.gg_elab_sites.specs.Sites.{Site}
use Rattle.gg_elab_sites.specs.Flat.{flat_memories, flat_signals}
use Rattle.gg_elab_sites.specs.IsFlat.{memory_paths}
use Rattle.gg_elab_sites.specs.Known.{types_of}
use Rattle.gg_elab_sites.specs.inside.Views.{site_of}
use Rattle.gg_elab_tree.specs.IsTreeOf.{IsTreeOf, Pairwise, AreInstances, clocks_held, held_memories, held_stops}
use Rattle.gg_elab_tree.specs.inside.TreeParts.{IsAskedFor, IsHeldFor}
use Rattle.gg_elab_sites.proofs.NameLemmas.{Differ}
use Rattle.gg_elab_tree.proofs.ElementLemmas.{some-of}
use Rattle.gg_elab_tree.proofs.KeptLemmas.{parts-made}
use Rattle.gg_elab_tree.proofs.TreePartLemmas.{paths-same}
use Rattle.gg_elab_tree.proofs.tree.tree_of.Goals as goal

pub add_memories-requires-clause-paths : goal.add_memories-requires-clause-paths
add_memories-requires-clause-paths c =
    let top = some-of (place_of c.args.typed.now.circuit.name (module_names c.args.typed.now.circuit)) c.requires.top in
    c.in_ok-paths.ensures ∙ paths-same c.args.typed.now.circuit top.0 top.1 c.args.places.now c.requires.sites

-- the tree after its instances has no memories and no stops
pub add_memories-requires-clause-none : goal.add_memories-requires-clause-none
add_memories-requires-clause-none c =
    let a = c.in_ok-add_instances.ensures.rest in
    (ap (λ (t : InstanceTree). t.memory_paths) a, ap (λ (t : InstanceTree). t.memories) a)

pub add_stops-requires-clause-none : goal.add_stops-requires-clause-none
add_stops-requires-clause-none c =
    ap (λ (t : InstanceTree). t.stops) c.in_ok-add_memories.ensures.rest ∙ ap (λ (t : InstanceTree). t.stops) c.in_ok-add_instances.ensures.rest

pub add_stops-requires-clause-paths : goal.add_stops-requires-clause-paths
add_stops-requires-clause-paths c =
    let top = some-of (place_of c.args.typed.now.circuit.name (module_names c.args.typed.now.circuit)) c.requires.top in
    c.in_ok-paths.ensures ∙ paths-same c.args.typed.now.circuit top.0 top.1 c.args.places.now c.requires.sites

pub returns : goal.returns
returns c =
    let circuit = c.args.typed.now.circuit in
    let top = some-of (place_of circuit.name (module_names circuit)) c.requires.top in
    let one = c.add_instances.new.tree in
    let two = c.add_memories.new.tree in
    let three = c.add_stops.new.tree in
    let a = c.in_ok-add_instances.ensures in
    let b = c.in_ok-add_memories.ensures in
    let s = c.in_ok-add_stops.ensures in
    subst (IsTreeOf circuit) (sym (parts-made one two three c.add_register_clocks.new.tree c.add_clocks.new.tree (clocks_held (flat_signals (types_of circuit) circuit.modules (map site_of c.args.places.now))) (clock_inputs c.args.ports.now) a.rest b.rest s.rest c.in_ok-add_register_clocks.ensures c.in_ok-add_clocks.ensures))
    (record {
      paths = a.paths ∙ paths-same circuit top.0 top.1 c.args.places.now c.requires.sites;
      instances = subst (λ (l : List Site). AreInstances circuit 0 l one.instances) c.requires.sites a.instances;
      memory_names = b.names ∙ ap (λ (l : List Site). memory_paths (flat_memories circuit.modules l)) c.requires.sites;
      memories = subst (λ (l : List Site). Pairwise (IsHeldFor circuit) (flat_map (held_memories circuit.modules) l) two.memories) c.requires.sites b.made;
      clocks = ap clock_inputs c.requires.ports;
      register_clocks = ap (λ (l : List Site). clocks_held (flat_signals (types_of circuit) circuit.modules l)) c.requires.sites;
      stops = subst (λ (l : List Site). Pairwise (IsAskedFor circuit) (flat_map (held_stops circuit.modules) l) three.stops) c.requires.sites s.made;
    })

pub site_paths-requires : goal.site_paths-requires
site_paths-requires c =
    let top = some-of (place_of c.args.typed.now.circuit.name (module_names c.args.typed.now.circuit)) c.requires.top in
    record { distinct = subst Differ (sym (paths-same c.args.typed.now.circuit top.0 top.1 c.args.places.now c.requires.sites)) c.requires.sites_differ }

pub add_instances-requires-clause-distinct : goal.add_instances-requires-clause-distinct
add_instances-requires-clause-distinct c =
    let top = some-of (place_of c.args.typed.now.circuit.name (module_names c.args.typed.now.circuit)) c.requires.top in
    subst Differ (sym (paths-same c.args.typed.now.circuit top.0 top.1 c.args.places.now c.requires.sites)) c.requires.sites_differ

pub add_memories-requires-clause-distinct : goal.add_memories-requires-clause-distinct
add_memories-requires-clause-distinct c =
    subst Differ (ap (λ (l : List Site). memory_paths (flat_memories c.args.typed.now.circuit.modules l)) (sym c.requires.sites)) c.requires.memories_differ
