-- More on Replay: definitions that no promise of the program reaches.
-- Sources: MEMOCODE 2009 (the k-th token of each channel is the value of its signal in cycle k, in any order of steps).
-- The lines and the forms of a steps file are this program's own.
use Rattle.std.specs.Prelude.{ℕ, List}
use Rattle.gg_io.specs.Order.{IsOnly}
use Rattle.golden_commands.specs.Partition.{Known}
use Rattle.golden_commands.specs.Replay.{AreDone, IsReplayOf}

-- ---- the text

-- each step may be done, and this is the text, the only one
abbrev pub IsReplayed : Known → (circuit partition trace : List ℕ) (capacity : ℕ) (steps text : List ℕ) → Type 0
IsReplayed known circuit partition trace capacity steps text = AreDone known circuit partition trace capacity steps × IsOnly (IsReplayOf known circuit partition trace capacity steps) text
