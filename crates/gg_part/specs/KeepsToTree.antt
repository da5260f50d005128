-- A flat circuit that keeps to the tree of its instances.
-- Source: FIRRTL Specification, "Instances", "Namespaces" and "Clock" types.
use Rattle.gg_flat.specs.Circuit.{FlatCircuit}
use Rattle.gg_flat_tree.specs.Clocked.{IsClocked}
use Rattle.gg_flat_tree.specs.Scoped.{IsScoped}
use Rattle.gg_flat_tree.specs.Tree.{InstanceTree, IsTree}
use Rattle.gg_part.specs.Copies.{HasCopies}

-- The tree is one of the circuit, the circuit keeps to its scopes and has its clocks, and instances of one module are copies of
-- each other.
pub record KeepsToTree (circuit : FlatCircuit) (tree : InstanceTree) : Type 0 where
  pub fitting : IsTree circuit tree
  pub scoped : IsScoped circuit tree
  pub clocked : IsClocked circuit tree
  pub copies : HasCopies circuit tree
