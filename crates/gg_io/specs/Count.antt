-- Counts of what went wrong. A count is a `u64`, and stays the same once it is 18,446,744,073,709,551,615.
-- Source: this program's own.
use Rattle.std.specs.Prelude.{ℕ, ◌+◌, ◌-◌, ◌^◌, ◌≤◌, min}

-- the count after one more
abbrev pub risen : ℕ → ℕ
risen count = min (count + 1) (2 ^ 64 - 1)

-- the count rose at least once since it was `before`, or had reached its maximum
abbrev pub Rose : (before now : ℕ) → Type 0
Rose before now = risen before ≤ now
