-- Counts: how often each step of a network was done. Which counts can come up together.
-- Source: MEMOCODE 2009 (a node gives and takes one token for each channel in a cycle, gives one as soon as what it
-- depends on is there, and finishes the cycle when it has done both; a queue holds at most its bound); ICCAD 2019 for
-- memories that are served port by port.
use Rattle.std.specs.Prelude.{ℕ, length, ◌-◌}
use Rattle.gg_net.specs.markings.Marking.{Layout, turns_at}

-- the number of ports that a machine serves in a cycle
abbrev pub dues : Layout → ℕ → ℕ
dues layout m = length (turns_at layout m)
