-- The machine of an instance, from its parent's machine.
-- Source: this program's own way to find the owners of all instances in one pass.
use Rattle.std.specs.Prelude.{ℕ, zero, suc, List, Option, Some, None, nat_lt, if◌then◌else◌}
use Rattle.gg_flat.specs.Line.{value_at}
use Rattle.gg_flat_tree.specs.Tree.{InstanceTree, instance_at}

-- the earlier of two units, by their machines; 0 is the hub, which comes last
abbrev pub earlier : ℕ → ℕ → ℕ
earlier zero b = b
earlier (suc a) zero = suc a
earlier (suc a) (suc b) = if nat_lt a b then suc a else suc b

-- the machine of a parent, or the hub if there is none
abbrev pub above_by : List ℕ → Option ℕ → ℕ
above_by owners None = 0
above_by owners (Some parent) = value_at owners parent

-- the machine that instance k's parent belongs to, by a table of the instances before it
abbrev pub above : InstanceTree → List ℕ → ℕ → ℕ
above tree owners k = above_by owners (instance_at tree k).parent
