-- The tree of a circuit fits its flat circuit, and the flat circuit keeps to the tree's scopes and has its clocks.
use Rattle.std.proofs.Common.{◌≡◌, ℕ, [], Some, subst}
use Rattle.gg_ast.specs.inside.Names.{AreNamesOfCircuit}
use Rattle.gg_ast.specs.Places.{place_of}
use Rattle.gg_ast.specs.Tree.{CircuitTree, module_names}
use Rattle.gg_flat.specs.Circuit.{FlatCircuit}
use Rattle.gg_flat_tree.specs.Clocked.{IsClocked}
use Rattle.gg_flat_tree.specs.Scoped.{IsScoped}
use Rattle.gg_flat_tree.specs.Tree.{InstanceTree, IsTree}
use Rattle.gg_shape_names.specs.Repetitions.{repetitions}
use Rattle.gg_elab_sites.specs.IsFlat.{IsFlat}
use Rattle.gg_elab_tree.specs.IsTreeOf.{IsTreeOf}
use Rattle.gg_elab_tree.proofs.ClockedLemmas.{clocked-of}
use Rattle.gg_elab_tree.proofs.DriverLemmas.{scoped-of}
use Rattle.gg_elab_sites.proofs.NameLemmas.{Differ}
use Rattle.gg_elab_tree.proofs.NamesLemmas.SoundLemmas.{plain-names, apart-names, known-names}
use Rattle.gg_elab_tree.proofs.TreeLemmas.{HasDistinctPaths, tree-of}

module _ (circuit : CircuitTree) (flat : FlatCircuit) (tree : InstanceTree) (top : ℕ) (known_top : place_of circuit.name (module_names circuit) ≡ Some top) (is_flat : IsFlat circuit flat) (is_tree : IsTreeOf circuit tree) (signals : Differ flat.paths) (instances : Differ tree.paths) (memories : Differ tree.memory_paths) (are_names : AreNamesOfCircuit circuit) (once : repetitions circuit ≡ []) where
  distinct : HasDistinctPaths circuit
  distinct = record {
    of_sites = subst Differ is_tree.paths instances;
    of_signals = subst Differ is_flat.paths signals;
    of_memories = subst Differ is_tree.memory_names memories;
  }

  pub tree-holds : IsTree flat tree
  tree-holds = tree-of circuit flat tree top known_top is_flat is_tree distinct (plain-names circuit are_names once)

  pub scopes-hold : IsScoped flat tree
  scopes-hold = scoped-of circuit flat tree top known_top is_flat is_tree distinct (plain-names circuit are_names once) (apart-names circuit are_names once) (known-names circuit are_names once) are_names

  pub clocks-hold : IsClocked flat tree
  clocks-hold = clocked-of circuit flat tree top known_top is_flat is_tree distinct (plain-names circuit are_names once) (apart-names circuit are_names once)
