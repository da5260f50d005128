-- A table that has all values of a circuit's state.
-- Source: this program's own.
use Rattle.std.specs.Prelude.{◌≡◌, ℕ, ◌<◌, length}
use Rattle.gg_flat.specs.declared.piece.Driver.TheVariants.{Held}
use Rattle.gg_flat.specs.Circuit.{FlatCircuit, driver_at}
use Rattle.gg_flat_tree.specs.Tree.{InstanceTree, memory_at}

-- a signal holds register r
pub record HasHolder (circuit : FlatCircuit) (r : ℕ) : Type 0 where
  pub signal : ℕ
  pub known : signal < length circuit.signals
  pub holds : driver_at circuit signal ≡ Held r

-- memory m is at a place of the tree
pub record HasPlace (tree : InstanceTree) (m : ℕ) : Type 0 where
  pub place : ℕ
  pub known : place < length tree.memories
  pub is : (memory_at tree place).memory ≡ m

-- Each register is held by a signal, and each memory is in the tree.
pub record IsWhole (circuit : FlatCircuit) (tree : InstanceTree) : Type 0 where
  pub registers : (r : ℕ) → r < length circuit.registers → HasHolder circuit r
  pub memories : (m : ℕ) → m < length circuit.memories → HasPlace tree m
