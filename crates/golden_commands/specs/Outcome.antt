-- How a call ends: its status, the text that it wrote on `out`, and its line.
-- Source: this program's own.
use Rattle.std.specs.Prelude.{◌≡◌, ℕ, List, []}
use Rattle.std.specs.Io.KnownBytes.{append_known}
use Rattle.gg_io.specs.Said.{Said, out_of_memory}
use Rattle.gg_io.specs.Ends.{Ends, Loads, Puts, Reports, Says}
use Rattle.gg_cut_plan.specs.Bridges.{Models}
use Rattle.gg_words.specs.Meaning.{IsCommand}
use Rattle.gg_words.specs.declared.command.Cmd.{Cmd}
use Rattle.golden_commands.specs.Commands.{order_of}
use Rattle.golden_commands.specs.Words.{AskForCommand, TellsUnasked}

-- The outcome of a call with these words, where these models are handed in: an end of the command of the words, or the report for words that aren't a
-- command. `unwritten` means that a put on `out` failed.
pub data Outcome (models : Models) (words : List (List ℕ)) (loads : Loads) (unwritten : Type 0) (status : ℕ) (text line : List ℕ) : Type 0 where
  Asked : (command : Cmd) (asks : IsCommand words command) (ends : Ends loads unwritten (order_of models command) status text line) → Outcome models words loads unwritten status text line
  -- the words aren't a command, and nothing is written
  Unasked : (unasked : ¬ AskForCommand words) (said : Said) (tells : TellsUnasked words said) (says : Says status line said) (none : text ≡ []) → Outcome models words loads unwritten status text line
  -- an allocation failed while the words were read, and nothing is written
  WantsMemoryFirst : (says : Says status line out_of_memory) (none : text ≡ []) → Outcome models words loads unwritten status text line

-- A call with these words returned this status. It has an outcome. The outcome's text was added on `out`, and its line is reported on `err`.
pub record Answered (models : Models) (words : List (List ℕ)) (loads : Loads) (out err : Puts) (status : ℕ) : Type 0 where
  pub text : List ℕ
  pub line : List ℕ
  pub outcome : Outcome models words loads out.failed status text line
  pub written : out.after ≡ append_known out.before text
  pub reported : Reports err line
