-- Which circuits can be saved, and that a text is one snapshot.
-- Source: this program's own.
use Rattle.std.specs.Prelude.{◌≡◌, ◌<◌, ℕ, List, All, length}
use Rattle.gg_flat.specs.Circuit.{FlatCircuit, driver_at}
use Rattle.gg_flat.specs.State.{State}
use Rattle.gg_flat.specs.WellFormed.{IsWellFormed}
use Rattle.gg_flat.specs.declared.piece.Driver.TheVariants.{Held}
use Rattle.gg_flat_tree.specs.Tree.{InstanceTree, IsTree}
use Rattle.gg_snap.specs.text.Known.{AreKnown, CanSave, IsPlain}
use Rattle.gg_snap.specs.text.Standing.{IsSnap}
use Rattle.gg_snap.specs.text.Table.{rows_of}
use Rattle.gg_snap.specs.inside.TextWhole.{IsWhole}

-- The states of a circuit with its tree can be saved.
abbrev pub TreesCanSave : Type 0
TreesCanSave =
    (circuit : FlatCircuit) (tree : InstanceTree) → IsTree circuit tree
    -- No two signals hold one register.
    → ((s t r : ℕ) → s < length circuit.signals → t < length circuit.signals → driver_at circuit s ≡ Held r → driver_at circuit t ≡ Held r → s ≡ t)
    -- No path has a blank or a line feed.
    → All IsPlain circuit.paths → All IsPlain tree.memory_paths
    → CanSave circuit tree

-- A text is the snapshot of at most one cycle and one state.
abbrev pub SnapshotIsOne : Type 0
SnapshotIsOne =
    (circuit : FlatCircuit) (tree : InstanceTree) (text : List ℕ) (c d : ℕ) (s t : State)
    -- Each register has a signal that holds it, and each memory a place in the tree.
    → IsWellFormed circuit → IsWhole circuit tree
    -- All rows of a snapshot are known, and differ.
    → AreKnown circuit (rows_of circuit tree)
    -- The text is a snapshot of this cycle and state, and one of that cycle and state.
    → IsSnap circuit tree text c s → IsSnap circuit tree text d t
    -- They are the same.
    → (c ≡ d) × (s ≡ t)
