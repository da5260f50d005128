-- How a command ends, and a call whose command has ended, or whose words were no command.
use Rattle.std.proofs.Common.{◌≡◌, ℕ, List, [], refl, sym, ◌∙◌, arith}
use Rattle.std.specs.Prelude.{Result, Ok, Err, Option, IfOk}
use Rattle.std.specs.Io.KnownBytes.{append_known}
use Rattle.gg_io.specs.Ends.{Loads, Puts, Reports}
use Rattle.gg_io.specs.inside.Endings.{IfRefused, Prints, StopsBy, said_by}
use Rattle.gg_io.specs.Said.{Said}
use Rattle.gg_io.specs.declared.endings.Ending.{Ending}
use Rattle.gg_io.specs.declared.endings.Ending.TheVariants.{Refused, Unwritten, NoMemory}
use Rattle.gg_io.proofs.WritingLemmas.{append_known-nil}
use Rattle.gg_words.specs.Meaning.{IsCommand}
use Rattle.gg_words.specs.declared.command.Cmd.{Cmd}
use Rattle.gg_words.specs.declared.command.Cmd.TheVariants.{Run, Replay, Check, Demo, Save, Resume}
use Rattle.gg_cut_plan.specs.Bridges.{Models}
use Rattle.gg_io.proofs.EndingLemmas.{IfRefused-map, stopped-ends, wants-ends}
use Rattle.golden_commands.specs.Commands.{Asked as Wanted, known_of, order_of}
use Rattle.golden_commands.specs.inside.Case.{trace_order}
use Rattle.golden_commands.specs.Outcome.{Asked, Unasked, WantsMemoryFirst, Answered}
use Rattle.golden_commands.specs.inside.Outcome.{CallEnded, Did, IsByNetwork}
use Rattle.golden_commands.specs.Words.{AskForCommand, TellsUnasked}
use Rattle.golden.proofs.SteppedLemmas.{IsOther, by-ending, ended-other, files-other, untold, wants-other}

-- ---- a status

-- what ends with another status than those of which a network tells
pub other-network : (models : Models) (loads : Loads) (out : Puts) (said : Said) (command : Cmd) → IsOther said.status → IsByNetwork models command loads out said
other-network models loads out said (Run circuit partition trace capacity workers mono) other = λ off done. absurd (other.unwritten done)
other-network models loads out said (Replay circuit partition trace steps capacity) other = untold other
other-network models loads out said (Check circuit partition capacity) other = tt
other-network models loads out said (Demo seed size workers) other = tt
other-network models loads out said (Save circuit partition trace at capacity workers) other = tt
other-network models loads out said (Resume circuit partition trace snap capacity workers) other = tt

-- a text that was printed with status 0 was printed whole
pub printed-whole : {T X : Type 0} (before now : Option (List ℕ)) (failed : Type 0) (text : List ℕ) (r : Result T Ending) → Prints before now failed text r → IfOk r (λ done. X) → (said_by r).status ≡ 0
    → (now ≡ append_known before text) × X
printed-whole before now failed text (Ok done) prints has e = (prints, has)
printed-whole before now failed text (Err (Refused said)) prints has e = absurd prints
printed-whole before now failed text (Err Unwritten) prints has e = absurd (omega (arith, e))
printed-whole before now failed text (Err NoMemory) prints has e = absurd (omega (arith, e))

-- ---- a command

module _ {T : Type 0} {models : Models} {loads : Loads} {out : Puts} {r : Result T Ending} where
  -- one of the first three files of a command was refused
  pub fed-refused : (command : Cmd) (asked : Wanted) (trace : List ℕ) (ending : Ending) → ((said : Said) → StopsBy loads (trace_order (known_of models command) asked trace) said → StopsBy loads (order_of models command) said)
      → out.after ≡ out.before → r ≡ Err ending → IfRefused (StopsBy loads (trace_order (known_of models command) asked trace)) ending → Did models command loads out r
  fed-refused command asked trace ending stops same is refused =
      record {
        ended = stopped-ends same is (IfRefused-map stops ending refused);
        network = other-network models loads out (said_by r) command (by-ending is (ended-other ending (λ said. files-other (known_of models command) loads asked trace said) refused));
      }

  -- memory ran out before the files of a command were read
  pub did-want : (command : Cmd) → out.after ≡ out.before → r ≡ Err NoMemory → Did models command loads out r
  did-want command same is = record { ended = wants-ends same is; network = other-network models loads out (said_by r) command (wants-other is) }

  -- the words ask for this command, which has ended
  pub did-asked : {words : List (List ℕ)} {command : Cmd} → IsCommand words command → Did models command loads out r → CallEnded models words loads out r
  did-asked {command = command} asks did = record { text = did.ended.text; written = did.ended.written; outcome = Asked command asks did.ended.ends }

module _ {T : Type 0} {models : Models} {words : List (List ℕ)} {loads : Loads} {out : Puts} where
  -- the words were no command, or memory ran out while they were read, and nothing was written
  pub unasked-ends : (ending : Ending) → out.after ≡ out.before → IfRefused (λ said. (¬ AskForCommand words) × TellsUnasked words said) ending
      → CallEnded {T = T} models words loads out (Err ending)
  unasked-ends (Refused said) same refused = record { text = []; written = same ∙ sym (append_known-nil _); outcome = Unasked refused.0 said refused.1 (refl, refl) refl }
  unasked-ends Unwritten same refused = absurd refused
  unasked-ends NoMemory same refused = record { text = []; written = same ∙ sym (append_known-nil _); outcome = WantsMemoryFirst (refl, refl) refl }

  -- a call that has ended, and whose line was reported, answers its status
  pub status-answered : {err : Puts} {r : Result T Ending} {status : ℕ} → status ≡ (said_by r).status → CallEnded models words loads out r → Reports err (said_by r).line
      → Answered models words loads out err status
  status-answered {r = r} e ended reported =
      rw e (record { text = ended.text; line = (said_by r).line; outcome = ended.outcome; written = ended.written; reported = reported })
