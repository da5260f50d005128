-- More on Listed: what no promise of the program reaches.
-- Source: ICCAD 2019 (instances and memories of a target that are marked become models of their own); FIRRTL
-- Specification, "Instances" and "Memories" for what an instance holds.
use Rattle.std.specs.Prelude.{◌≡◌, ◌<◌, ℕ, List, Bool, ◌==◌, Some, length}
use Rattle.std.specs.List.{list_any}
use Rattle.gg_flat_tree.specs.Tree.{InstanceTree, instance_at}
use Rattle.gg_order.specs.Marks.{is_marked}

-- ---- which instances contain which

-- each instance comes after its parent
abbrev pub ParentsBefore : InstanceTree → Type 0
ParentsBefore tree = (k parent : ℕ) → k < length tree.instances → (instance_at tree k).parent ≡ Some parent → parent < k

-- exactly these instances are marked
abbrev pub AreMarks : List ℕ → List Bool → Type 0
AreMarks units marks = (k : ℕ) → is_marked marks k ≡ list_any (λ unit. k == unit) units
