-- The paths of the circuit that a text spells.
-- Source: FIRRTL Specification, "Notes on Syntax" (the bytes of a name). Which names are free is this program's own.
use Rattle.std.specs.Prelude.{◌≢◌, ℕ, ◌<◌, List, ◌++◌, length}
use Rattle.gg_ast.specs.Tree.{CircuitTree}
use Rattle.gg_elab_sites.specs.IsFlat.{IsFlat}
use Rattle.gg_elab_tree.specs.IsTreeOf.{IsTreeOf}
use Rattle.gg_flat.specs.Circuit.{FlatCircuit}
use Rattle.gg_flat_tree.specs.Scoped.{IsScoped}
use Rattle.gg_flat_tree.specs.Tree.{InstanceTree, IsTree, path_at}
use Rattle.gg_read.specs.Text.{Spells}
use Rattle.gg_front.specs.inside.Paths.{HavePaths}

-- What is in the circuit of a text has paths.
abbrev pub TextsHavePaths : Type 0
TextsHavePaths =
    (text : List ℕ) (circuit : CircuitTree) (flat : FlatCircuit) (tree : InstanceTree)
    -- The text spells a circuit that has this flat circuit and this tree.
    → Spells text circuit → IsFlat circuit flat → IsTreeOf circuit tree
    -- The tree is one of the flat circuit, and what a driver names is visible where it is written.
    → IsTree flat tree → IsScoped flat tree
    -- Signals, instances and memories have paths, and the ports of memories names.
    → HavePaths flat tree

-- No path of a signal of a text begins with `front`.
abbrev pub NoPathBegins : (front : List ℕ) → Type 0
NoPathBegins front =
    (text : List ℕ) (circuit : CircuitTree) (flat : FlatCircuit)
    -- The text spells a circuit that has this flat circuit.
    → Spells text circuit → IsFlat circuit flat
    -- The path of each signal differs from every text that begins with `front`.
    → (s : ℕ) (path : List ℕ) → s < length flat.signals → path_at flat.paths s ≢ front ++ path
