-- More on Machines: what no promise of the program reaches.
-- Source: MEMOCODE 2009 (the nodes of a network); ICCAD 2019 (units and memories of a target as models of their own, with sources
-- for its inputs and sinks for its outputs, and bridges at its ports).
use Rattle.std.specs.Prelude.{◌≡◌, ◌<◌, ℕ, ◌+◌, Bool, ◌&&◌, ◌||◌, nat_le, nat_lt}
use Rattle.gg_cut_plan.specs.declared.numbering.Role.{Role}
use Rattle.gg_cut_plan.specs.declared.numbering.Role.TheVariants.{Hub, Unit, Memory, Source, Tray, Bridge}
use Rattle.gg_cut_plan.specs.Machines.{memory_after, source_after, unit_number}

-- ---- the first number of each later kind, and the number after all machines

-- the first tray, after the sources
abbrev pub tray_after : (units memories sources : ℕ) → ℕ
tray_after units memories sources = source_after units memories + sources

-- the first bridge, after the trays
abbrev pub bridge_after : (units memories sources trays : ℕ) → ℕ
bridge_after units memories sources trays = tray_after units memories sources + trays

-- the number of all machines
abbrev pub end_after : (units memories sources trays bridges : ℕ) → ℕ
end_after units memories sources trays bridges = bridge_after units memories sources trays + bridges

-- ---- how many machines there are of each kind, and what each is

-- how many machines there are of each kind, without the hub
pub record Counts : Type 0 where
  pub units : ℕ
  pub memories : ℕ
  -- the inputs that no bridge drives
  pub sources : ℕ
  -- the outputs that no bridge sees, and the stops
  pub trays : ℕ
  pub bridges : ℕ

-- the number of all machines, by their counts
abbrev pub count_end : Counts → ℕ
count_end counts = end_after counts.units counts.memories counts.sources counts.trays counts.bridges

-- machine m is the hub, or the machine at this place of its kind
abbrev pub IsRole : Counts → ℕ → Role → Type 0
IsRole counts m Hub = m ≡ 0
IsRole counts m (Unit place) = (place < counts.units) × (m ≡ unit_number place)
IsRole counts m (Memory place) = (place < counts.memories) × (m ≡ memory_after counts.units + place)
IsRole counts m (Source place) = (place < counts.sources) × (m ≡ source_after counts.units counts.memories + place)
IsRole counts m (Tray place) = (place < counts.trays) × (m ≡ tray_after counts.units counts.memories counts.sources + place)
IsRole counts m (Bridge place) = (place < counts.bridges) × (m ≡ bridge_after counts.units counts.memories counts.sources counts.trays + place)

-- machine m is a listed memory or a bridge
abbrev pub silent_by : Counts → ℕ → Bool
silent_by counts m =
    (nat_le (memory_after counts.units) m && nat_lt m (source_after counts.units counts.memories)) || nat_le (bridge_after counts.units counts.memories counts.sources counts.trays) m
