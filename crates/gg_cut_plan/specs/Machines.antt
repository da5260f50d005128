-- The machines of a cut by number: the hub, the units in the order of the request, the listed memories in the order of the tree,
-- a source for each top input that no bridge drives, a tray for each top output that no bridge sees and for each stop, and the bridges.
-- Source: MEMOCODE 2009 (the nodes of a network); ICCAD 2019 (units and memories of a target as models of their own, with sources
-- for its inputs and sinks for its outputs).
use Rattle.std.specs.Prelude.{ℕ, suc, ◌+◌, Bool, ◌&&◌, length, nat_le, nat_lt}
use Rattle.gg_cut_plan.specs.declared.listed.Listed.{Listed}

-- ---- the number of a unit by its place; and the first number of each kind, after these many machines of the earlier kinds

-- the units come after the hub, which is machine 0
abbrev pub unit_number : (place : ℕ) → ℕ
unit_number place = suc place

-- the first unit, if there is one
abbrev pub first_unit : ℕ
first_unit = 1

-- the first listed memory, after the hub and the units
abbrev pub memory_after : (units : ℕ) → ℕ
memory_after units = suc units

-- the first source, after the units and the memories
abbrev pub source_after : (units memories : ℕ) → ℕ
source_after units memories = memory_after units + memories

-- ---- in a cut

-- the first listed memory of a cut
abbrev pub first_memory : Listed → ℕ
first_memory listed = memory_after (length listed.units)

-- the first source of a cut
abbrev pub first_source : Listed → ℕ
first_source listed = source_after (length listed.units) (length listed.memories)

-- whether machine m is a listed memory
abbrev pub is_memory : Listed → ℕ → Bool
is_memory listed m = nat_le (first_memory listed) m && nat_lt m (first_source listed)
