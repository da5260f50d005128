-- The ranges of a command's numbers.
-- Source: this program's own command line: K is 1 to 4,096, W is 0 to 64, SEED is 0 to 4,294,967,295, SIZE is 1 to 64, AT is 0 to 1,000,000.
use Rattle.std.specs.Prelude.{ℕ, ◌≤◌}
use Rattle.gg_bits.specs.Limits.{capacity_limit}

-- the number is in this range, both ends included
abbrev pub IsWithin : (least most : ℕ) → ℕ → Type 0
IsWithin least most n = (least ≤ n) × (n ≤ most)

-- the greatest number of workers
abbrev pub most_workers : ℕ
most_workers = 64

-- the greatest seed of a demo
abbrev pub greatest_seed : ℕ
greatest_seed = 4294967295

-- the most stages of a demo
abbrev pub most_stages : ℕ
most_stages = 64

-- a capacity that a command takes: 1 to 4,096
abbrev pub IsCapacity : ℕ → Type 0
IsCapacity n = IsWithin 1 capacity_limit n
