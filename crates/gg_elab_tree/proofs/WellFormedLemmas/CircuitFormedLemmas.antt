-- The flat circuit of a circuit with a top is well formed.
use Rattle.std.proofs.Common.{◌≡◌, ℕ, List, Option, Some, ap, subst}
use Rattle.gg_ast.specs.Places.{place_of}
use Rattle.gg_ast.specs.Tree.{CircuitTree, module_names}
use Rattle.gg_flat.specs.Circuit.{FlatCircuit}
use Rattle.gg_flat.specs.WellFormed.{IsWellFormed}
use Rattle.gg_elab_sites.specs.Sites.{Site, module_at, all_sites, sites_from, sites_of}
use Rattle.gg_elab_tree.specs.inside.Fitting.{AreFitting}
use Rattle.gg_elab_sites.specs.Flat.{flat_signals, flat_memories, stop_paths}
use Rattle.gg_elab_sites.specs.IsFlat.{IsFlatOf, IsFlat, memory_paths, top_ports}
use Rattle.gg_elab_sites.specs.Known.{types_of}
use Rattle.gg_elab_sites.proofs.NameLemmas.{Differ}
use Rattle.gg_elab_tree.proofs.WellFormedLemmas.FormedLemmas.{formed}

-- the flat circuit of a circuit with a top is well formed
pub circuit-formed : (circuit : CircuitTree) (flat : FlatCircuit) (top : ℕ) → place_of circuit.name (module_names circuit) ≡ Some top → IsFlat circuit flat → AreFitting flat → Differ flat.paths → Differ (memory_paths (flat_memories circuit.modules (sites_of circuit))) → IsWellFormed flat
circuit-formed circuit flat top known is_flat fits signals memories =
    formed (types_of circuit) circuit.modules top flat at_top fits (subst Differ at_top.paths signals) (subst (λ (l : List Site). Differ (memory_paths (flat_memories circuit.modules l))) same memories)
  where
    same : sites_of circuit ≡ all_sites circuit.modules top
    same = ap (λ (o : Option ℕ). sites_from circuit.modules o) known

    at_top : IsFlatOf (types_of circuit) (flat_signals (types_of circuit) circuit.modules (all_sites circuit.modules top)) (flat_memories circuit.modules (all_sites circuit.modules top)) (module_at circuit.modules top).ports (stop_paths circuit.modules (all_sites circuit.modules top)) flat
    at_top = subst (λ (o : Option ℕ). IsFlatOf (types_of circuit) (flat_signals (types_of circuit) circuit.modules (sites_from circuit.modules o)) (flat_memories circuit.modules (sites_from circuit.modules o)) (top_ports circuit.modules o) (stop_paths circuit.modules (sites_from circuit.modules o)) flat) known is_flat
