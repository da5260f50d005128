-- More on Stepped: definitions that no promise of the program reaches.
-- Sources: MEMOCODE 2009 (a network goes on by steps, one node at a time, and the k-th token of each channel is the value of its signal in
-- cycle k). The text is this program's own.
use Rattle.std.specs.Prelude.{◌≡◌, ℕ, List}
use Rattle.gg_io.specs.Told.{Told}
use Rattle.gg_io.specs.Ends.{Puts}
use Rattle.gg_io.specs.Order.{IsOnly}
use Rattle.gg_io.specs.Said.{Said}
use Rattle.golden_commands.specs.Partition.{Known}
use Rattle.golden_commands.specs.inside.Replay.{IsReplayed}
use Rattle.golden_commands.specs.Replay.{TellsSteps}
use Rattle.golden_commands.specs.Stepped.{IsSteppedText, RefusedStep, TellsRefusedStep, WroteSteps}

-- ---- bytes

-- each step may be done, and this is the only text of the steps, and the only text of the network
pub record IsToldText (known : Known) (circuit partition trace : List ℕ) (capacity : ℕ) (steps text : List ℕ) : Type 0 where
  pub of_steps : IsReplayed known circuit partition trace capacity steps text
  pub of_network : IsOnly (IsSteppedText known circuit partition trace capacity steps) text

-- this is reported for a refused step, and the network's cause is the same
pub record TellsToldStep (known : Known) (circuit partition trace : List ℕ) (capacity : ℕ) (steps : List ℕ) (said : Said) : Type 0 where
  pub of_steps : TellsSteps known circuit partition trace capacity steps said
  pub of_network : TellsRefusedStep known circuit partition trace capacity steps said

-- ---- files

-- The report with status 0 or 9 after these bytes of a circuit, a partition and a trace: the text was written, or a step was refused.
pub record ToldBehind (known : Known) (files : List ℕ → Told) (out : Puts) (circuit partition trace : List ℕ) (capacity : ℕ) (steps : List ℕ) (said : Said) : Type 0 where
  pub wrote : said.status ≡ 0 → WroteSteps known files out circuit partition trace capacity steps
  pub refused : said.status ≡ 9 → RefusedStep known files circuit partition trace capacity steps said
