-- The parts of a plan while it is built: its machines, its channels without their needs, and the needs of each
-- channel.
-- Source: MEMOCODE 2009 (a network of machines that are latency-insensitive); ICCAD 2019 (instances and memories of a
-- target as models of their own).
use Rattle.std.specs.Prelude.{ℕ, ◌<◌, ◌≤◌}
use Rattle.gg_bits.specs.Limits.{capacity_limit}

-- how many tokens a channel may hold
abbrev pub IsCapacity : ℕ → Type 0
IsCapacity n = (0 < n) × (n ≤ capacity_limit)
