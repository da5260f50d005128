-- More on Outcome: definitions that no promise of the program reaches.
-- Source: this program's own.
use Rattle.std.specs.Prelude.{◌≡◌, ℕ, List, Result, false, ⊤}
use Rattle.std.specs.Io.KnownBytes.{append_known}
use Rattle.gg_io.specs.Ends.{Loads, Puts}
use Rattle.gg_io.specs.inside.Endings.{EndedOn, said_by}
use Rattle.gg_io.specs.Said.{Said}
use Rattle.gg_io.specs.declared.endings.Ending.{Ending}
use Rattle.gg_cut_plan.specs.Bridges.{Models}
use Rattle.gg_words.specs.declared.command.Cmd.{Cmd}
use Rattle.gg_words.specs.declared.command.Cmd.TheVariants.{Run, Replay, Check, Demo, Save, Resume}
use Rattle.golden_commands.specs.Commands.{order_of}
use Rattle.golden_commands.specs.Network.{RanNetwork}
use Rattle.golden_commands.specs.Outcome.{Outcome}
use Rattle.golden_commands.specs.Partition.{to_run}
use Rattle.golden_commands.specs.Stepped.{ToldByNetwork}

-- What the network of a command's cut has to do with what is reported. `run` without `--mono` wrote the text of the network, if it is done. What
-- `replay` tells of the steps is what the network tells of them. Of the other commands nothing is said.
abbrev pub IsByNetwork : Models → Cmd → Loads → Puts → Said → Type 0
IsByNetwork models (Run circuit partition trace capacity workers mono) loads out said = mono ≡ false → said.status ≡ 0 → RanNetwork (to_run models) loads out circuit partition trace capacity
IsByNetwork models (Replay circuit partition trace steps capacity) loads out said = ToldByNetwork (to_run models) loads.files out circuit partition trace steps capacity said
IsByNetwork models (Check circuit partition capacity) loads out said = ⊤
IsByNetwork models (Demo seed size workers) loads out said = ⊤
IsByNetwork models (Save circuit partition trace at capacity workers) loads out said = ⊤
IsByNetwork models (Resume circuit partition trace snap capacity workers) loads out said = ⊤

-- A command has ended so.
pub record Did {T : Type 0} (models : Models) (command : Cmd) (loads : Loads) (out : Puts) (result : Result T Ending) : Type 0 where
  pub ended : EndedOn loads out (order_of models command) result
  pub network : IsByNetwork models command loads out (said_by result)

-- A call with these words has ended so, and wrote its text after what was written before. Its line is still to be
-- reported.
pub record CallEnded {T : Type 0} (models : Models) (words : List (List ℕ)) (loads : Loads) (out : Puts) (result : Result T Ending) : Type 0 where
  pub text : List ℕ
  pub written : out.after ≡ append_known out.before text
  pub outcome : Outcome models words loads out.failed (said_by result).status text (said_by result).line
