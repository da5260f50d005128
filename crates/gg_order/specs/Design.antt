-- A flat circuit with the tree of its instances and an order of evaluation.
-- Source: FIRRTL Specification, "Combinational Loops" (a circuit without one has an order), "Instances" (the tree).
use Rattle.std.specs.Prelude.{ℕ, List}
use Rattle.gg_flat.specs.Circuit.{FlatCircuit}
use Rattle.gg_flat.specs.WellFormed.{IsWellFormed}
use Rattle.gg_flat_tree.specs.Tree.{InstanceTree}
use Rattle.gg_flat.specs.Order.{IsOrder}

-- a design as a contract sees it
pub record Ordered : Type 0 where
  pub circuit : FlatCircuit
  pub tree : InstanceTree
  pub order : List ℕ

-- the circuit is well formed, and the order is one of the circuit
pub record IsDesign (design : Ordered) : Type 0 where
  pub formed : IsWellFormed design.circuit
  pub ordered : IsOrder design.circuit design.order
