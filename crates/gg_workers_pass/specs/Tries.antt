-- One try of each event of one machine, at a thread of its host: its effect, or why there is none.
-- Source: MEMOCODE 2009 (when a node takes a token, gives one and finishes a cycle); ICCAD 2019 for memories that are
-- served port by port.
use Rattle.std.specs.Prelude.{ℕ, ◌<◌}
use Rattle.gg_node.specs.Machine.{Machine}

-- a machine is below this cycle
abbrev pub StandsBelow : ℕ → Machine → Type 0
StandsBelow upto x = x.cycle < upto
