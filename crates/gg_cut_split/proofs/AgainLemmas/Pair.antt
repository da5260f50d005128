-- Two units that are copies of each other, and whose listed memories are each other's counterparts.
use Rattle.std.proofs.Common.{◌≡◌, ◌⊎◌, ℕ, ◌<◌, ◌≤◌, length}
use Rattle.std.specs.Prelude.{Contains}
use Rattle.gg_flat.specs.Line.{value_at}
use Rattle.gg_flat_tree.specs.Tree.{InstanceTree, Holds, instance_at, memory_at}
use Rattle.gg_part.specs.Copies.{Start, IsCopy, LiesIn}
use Rattle.gg_part.specs.KeepsToTree.{KeepsToTree}
use Rattle.gg_part.specs.Moved.{shifted}
use Rattle.gg_order.specs.Design.{Ordered, IsDesign}
use Rattle.gg_cut_split.specs.inside.Apart.{AreApart}
use Rattle.gg_cut_plan.specs.Listed.{owner_of_instance}
use Rattle.gg_cut_plan.specs.Machines.{unit_number}
use Rattle.gg_cut_plan.specs.Plan.{channels_from, givens_of, IsInner, Takes}
use Rattle.gg_cut_plan.specs.declared.listed.Listed.{Listed}
use Rattle.gg_cut_split.specs.inside.Again.{cut_wires}

-- the memory at a place of the tree is in the unit at place u
abbrev pub IsInUnit : InstanceTree → Listed → ℕ → ℕ → Type 0
IsInUnit tree listed u p = owner_of_instance tree listed.units (memory_at tree p).instance ≡ unit_number u

-- The instance of the unit at place u begins at its start. A memory in it, with a number as far behind the start of the unit at place v,
-- is one in that unit, and it is listed if the first is.
pub record IsUnitOver (tree : InstanceTree) (listed : Listed) (u v : ℕ) (one other : Start) : Type 0 where
  pub known : u < length listed.units
  pub first : (instance_at tree (value_at listed.units u)).first ≡ one.signals
  pub lies : (p : ℕ) → p < length tree.memories → IsInUnit tree listed u p → LiesIn tree (value_at listed.units u) (memory_at tree p).instance
  pub behind : (p : ℕ) → p < length tree.memories → IsInUnit tree listed u p → one.memories ≤ p
  pub within : (p : ℕ) → p < length tree.memories → IsInUnit tree listed u p → shifted one.memories other.memories p < length tree.memories
  pub holder : (p : ℕ) → p < length tree.memories → IsInUnit tree listed u p → IsInUnit tree listed v (shifted one.memories other.memories p)
  pub counterpart : (p : ℕ) → p < length tree.memories → IsInUnit tree listed u p → Contains listed.memories p → Contains listed.memories (shifted one.memories other.memories p)

-- Of a design that keeps to its tree and what is listed apart: each of the units at places u and v is a copy of the other, and a memory
-- in one is listed exactly if its counterpart in the other is.
pub record ArePair (design : Ordered) (listed : Listed) (u v : ℕ) (one other : Start) : Type 0 where
  pub meant : IsDesign design
  pub keeps : KeepsToTree design.circuit design.tree
  pub apart : AreApart design.tree listed
  pub copy : IsCopy design.circuit design.tree (value_at listed.units u) (value_at listed.units v) one other
  pub again : IsCopy design.circuit design.tree (value_at listed.units v) (value_at listed.units u) other one
  pub there : IsUnitOver design.tree listed u v one other
  pub back : IsUnitOver design.tree listed v u other one

-- the two in turn
pub turned : {design : Ordered} {listed : Listed} {u v : ℕ} {one other : Start} → ArePair design listed u v one other → ArePair design listed v u other one
turned pair =
    record {
      meant = pair.meant;
      keeps = pair.keeps;
      apart = pair.apart;
      copy = pair.again;
      again = pair.copy;
      there = pair.back;
      back = pair.there;
    }

-- What the channels of the unit at place u carry, those of the unit at place v carry too, with numbers as far behind its start.
pub record AreChannelsOver (design : Ordered) (listed : Listed) (u v : ℕ) (one other : Start) : Type 0 where
  pub held : (s : ℕ) → Contains (givens_of (cut_wires design listed) (channels_from (cut_wires design listed) (unit_number u))) s ⊎ Takes (cut_wires design listed) (unit_number u) s → Holds (instance_at design.tree (value_at listed.units u)) s
  pub given : (s : ℕ) → Contains (givens_of (cut_wires design listed) (channels_from (cut_wires design listed) (unit_number u))) s → Contains (givens_of (cut_wires design listed) (channels_from (cut_wires design listed) (unit_number v))) (shifted one.signals other.signals s)
  pub taken : (s : ℕ) → Takes (cut_wires design listed) (unit_number u) s → Takes (cut_wires design listed) (unit_number v) (shifted one.signals other.signals s)
  pub inner : (s : ℕ) → Holds (instance_at design.tree (value_at listed.units u)) s → IsInner (cut_wires design listed) s → IsInner (cut_wires design listed) (shifted one.signals other.signals s)
