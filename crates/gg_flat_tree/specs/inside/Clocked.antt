-- More on Clocked: what no promise of the program reaches.
-- Source: FIRRTL Specification, "Instances" (an instance's input is connected where the instance is), "Clock" types, "Registers",
-- "Memories".
use Rattle.std.specs.Prelude.{◌≡◌, ℕ, ◌<◌, Some, length}
use Rattle.gg_flat_tree.specs.Tree.{InstanceTree, instance_at}

-- ---- a circuit with the clocks of its tree

-- the parent of each instance is before it
abbrev pub AreParentsBefore : InstanceTree → Type 0
AreParentsBefore tree = (k above : ℕ) → k < length tree.instances → (instance_at tree k).parent ≡ Some above → above < k
