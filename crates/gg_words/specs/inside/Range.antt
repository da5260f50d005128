-- More on Range: what no promise of the program reaches.
-- Source: this program's own command line: K is 1 to 4,096, W is 0 to 64, SEED is 0 to 4,294,967,295, SIZE is 1 to 64, AT is 0 to 1,000,000.
use Rattle.gg_bits.specs.Limits.{cycle_limit}
use Rattle.gg_words.specs.declared.command.Cmd.{Cmd}
use Rattle.gg_words.specs.declared.command.Cmd.TheVariants.{Run, Replay, Check, Demo, Save, Resume}
use Rattle.gg_words.specs.Range.{IsCapacity, IsWithin, greatest_seed, most_stages, most_workers}

-- each number of the command is in its range
abbrev pub AreInRange : Cmd → Type 0
AreInRange (Run circuit partition trace capacity workers mono) = IsCapacity capacity × IsWithin 0 most_workers workers
AreInRange (Replay circuit partition trace steps capacity) = IsCapacity capacity
AreInRange (Check circuit partition capacity) = IsCapacity capacity
AreInRange (Demo seed size workers) = IsWithin 0 greatest_seed seed × IsWithin 1 most_stages size × IsWithin 0 most_workers workers
AreInRange (Save circuit partition trace at capacity workers) = IsWithin 0 cycle_limit at × IsCapacity capacity × IsWithin 0 most_workers workers
AreInRange (Resume circuit partition trace snap capacity workers) = IsCapacity capacity × IsWithin 0 most_workers workers
