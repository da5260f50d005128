-- What a split is made of.
-- Source: ICCAD 2019 (instances that are marked lie apart, each a model of its own).
use Rattle.std.specs.Prelude.{◌≡◌, ℕ, ◌<◌, ◌^◌, List, length}
use Rattle.gg_flat.specs.Circuit.{FlatCircuit}
use Rattle.gg_flat.specs.WellFormed.{IsWellFormed}
use Rattle.gg_flat_tree.specs.Tree.{InstanceTree, IsTree, memory_at}
use Rattle.gg_flat_tree.specs.Scoped.{IsScoped}
use Rattle.gg_flat.specs.Order.{IsOrder}
use Rattle.gg_partfile.specs.declared.request.BridgeEntry.{BridgeEntry}
use Rattle.gg_cut_plan.specs.declared.listed.Listed.{Listed}
use Rattle.gg_cut_plan.specs.Channels.{wires_of}
use Rattle.gg_cut_split.specs.inside.Apart.{AreApart}

-- A circuit can be split: it is well formed, with its tree and an order, its memories are numbered by their places in the tree,
-- the units that are listed lie apart, and there are fewer than 2^32 channels.
pub record CanSplit (circuit : FlatCircuit) (tree : InstanceTree) (order : List ℕ) (listed : Listed) (entries : List BridgeEntry) : Type 0 where
  pub formed : IsWellFormed circuit
  pub fitting : IsTree circuit tree
  pub scoped : IsScoped circuit tree
  pub numbered : (place : ℕ) → place < length tree.memories → (memory_at tree place).memory ≡ place
  pub ordered : IsOrder circuit order
  pub apart : AreApart tree listed
  pub few : length (wires_of circuit tree listed entries) < 2 ^ 32
