-- The measure: how many steps are still to be done.
-- Source: Dijkstra, "A Discipline of Programming" (1976) (a number that each step lowers shows that steps end).
use Rattle.std.specs.Prelude.{ℕ, zero, suc, ◌+◌, ◌-◌, length}
use Rattle.gg_net.specs.markings.Marking.{Layout}
use Rattle.gg_net.specs.markings.Counts.{dues}

-- the sum of f k for k below n
abbrev pub sum_below : (ℕ → ℕ) → ℕ → ℕ
sum_below f zero = 0
sum_below f (suc n) = sum_below f n + f n

-- the number of ports that are served in a cycle, by all machines together
abbrev pub all_dues : Layout → ℕ
all_dues layout = sum_below (dues layout) (length layout.turns)
