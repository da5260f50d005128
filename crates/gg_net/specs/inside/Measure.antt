-- More on Measure: definitions that no promise of the program reaches.
-- Source: Dijkstra, "A Discipline of Programming" (1976) (a number that each step lowers shows that steps end).
use Rattle.std.specs.Prelude.{ℕ, ◌+◌, ◌-◌, ◌*◌, length}
use Rattle.gg_net.specs.markings.Marking.{Layout}
use Rattle.gg_net.specs.inside.Counts.{Counts}
use Rattle.gg_net.specs.markings.Counts.{dues}
use Rattle.gg_net.specs.markings.Measure.{sum_below}

-- the tokens of a channel that are still to be put and to be taken
abbrev pub left_in : Layout → Counts → ℕ → ℕ
left_in layout counts c = (layout.end - counts.puts c) + (layout.end - counts.takes c)

-- the cycles of a machine that are still to be finished, and the ports that are still to be served
abbrev pub left_at : Layout → Counts → ℕ → ℕ
left_at layout counts m = (layout.end - counts.cycles m) + (dues layout m * layout.end - counts.serves m)

-- the measure: how many steps are left, of all channels and all machines
abbrev pub left : Layout → Counts → ℕ
left layout counts = sum_below (left_in layout counts) (length layout.links) + sum_below (left_at layout counts) (length layout.turns)
