-- Words that are a command have no fault.
use Rattle.std.proofs.Common.{◌≡◌, ◌≢◌, Bool, cond, true, false, true≢false, List, Option, None, Some, Result, Ok, Err, codes, refl, sym, ap, ◌∙◌, subst}
use Rattle.std.specs.Prelude.{IfErr, IsErr, MatchResult}
use Rattle.std.specs.Str.{bytes_eq}
use Rattle.clap.specs.Walk.{Row, Text}
use Rattle.clap.specs.Simple.{subcommand_of}
use Rattle.clap.specs.Kinds.{IsAmong}
use Rattle.gg_words.specs.Line.{golden_app}
use Rattle.gg_words.specs.Meaning.{FoundSays, IfWordFault, IsCommand, IsWordFault, check_of, demo_of, replay_of, resume_of, run_of, save_of}
use Rattle.gg_words.specs.declared.command.Cmd.{Cmd}
use Rattle.gg_words.specs.declared.command.WordFault.{WordFault}
use Rattle.gg_words.specs.declared.command.WordFault.TheVariants.{Unexpected, Refused, WrongNumber, NoMemory}
use Rattle.gg_words.proofs.KindLaws.{taken-expected}

-- what was found says at most one thing
found-once : (found : Option (Text × List Row)) (one other : Result Cmd Text) → FoundSays found one → FoundSays found other → one ≡ other
found-once None one other says also = absurd says
found-once (Some found) one other says also =
    go (bytes_eq found.0 (codes "run")) (bytes_eq found.0 (codes "replay")) (bytes_eq found.0 (codes "check")) (bytes_eq found.0 (codes "demo"))
    (bytes_eq found.0 (codes "save")) (bytes_eq found.0 (codes "resume")) says also
  where
    go : (run replay check demo save resume : Bool)
        → cond run (one ≡ run_of found.1) (cond replay (one ≡ replay_of found.1) (cond check (one ≡ check_of found.1) (cond demo (one ≡ demo_of found.1)
        (cond save (one ≡ save_of found.1) (cond resume (one ≡ resume_of found.1) ⊥)))))
        → cond run (other ≡ run_of found.1) (cond replay (other ≡ replay_of found.1) (cond check (other ≡ check_of found.1) (cond demo (other ≡ demo_of found.1)
        (cond save (other ≡ save_of found.1) (cond resume (other ≡ resume_of found.1) ⊥)))))
        → one ≡ other
    go true replay check demo save resume is also = is ∙ sym also
    go false true check demo save resume is also = is ∙ sym also
    go false false true demo save resume is also = is ∙ sym also
    go false false false true save resume is also = is ∙ sym also
    go false false false false true resume is also = is ∙ sym also
    go false false false false false true is also = is ∙ sym also
    go false false false false false false is also = absurd is

abbrev pub is_said : Result Cmd Text → Bool
is_said (Ok cmd) = true
is_said (Err value) = false

pub command-apart : (words : List Text) (cmd : Cmd) (fault : WordFault) → IsCommand words cmd → IsWordFault words fault → ⊥
command-apart words cmd (Unexpected word) is has = true≢false (sym has.refused ∙ taken-expected words is.taken)
command-apart words cmd (Refused kind) is has = subst (IsAmong kind) is.taken has.0
command-apart words cmd (WrongNumber value) is has = true≢false (ap is_said (found-once (subcommand_of golden_app words) (Ok cmd) (Err value) is.found has.found))
command-apart words cmd NoMemory is has = has

-- ---- what the reader of words returns

module _ (words : List Text) where
  fault-apart : (fault : WordFault) → fault ≢ NoMemory → IfWordFault words fault → (cmd : Cmd) → IsCommand words cmd → ⊥
  fault-apart (Unexpected word) some has cmd asks = command-apart words cmd (Unexpected word) asks has
  fault-apart (Refused kind) some has cmd asks = command-apart words cmd (Refused kind) asks has
  fault-apart (WrongNumber value) some has cmd asks = command-apart words cmd (WrongNumber value) asks has
  fault-apart NoMemory some has cmd asks = absurd (some refl)

  no-other : (fault : WordFault) → IfWordFault words fault → (cmd : Cmd) → IsCommand words cmd → fault ≡ NoMemory
  no-other (Unexpected word) has cmd asks = absurd (command-apart words cmd (Unexpected word) asks has)
  no-other (Refused kind) has cmd asks = absurd (command-apart words cmd (Refused kind) asks has)
  no-other (WrongNumber value) has cmd asks = absurd (command-apart words cmd (WrongNumber value) asks has)
  no-other NoMemory has cmd asks = refl

  same-command : (one other : Cmd) → IsCommand words one → IsCommand words other → one ≡ other
  same-command one other asks also = let e = found-once (subcommand_of golden_app words) (Ok one) (Ok other) asks.found also.found in cc

  pub read-complete : (result : Result Cmd WordFault) → MatchResult result (IsCommand words) (IfWordFault words)
      → (cmd : Cmd) → IsCommand words cmd → MatchResult result (λ given. given ≡ cmd) (λ given. given ≡ NoMemory)
  read-complete (Ok given) read cmd asks = same-command given cmd read asks
  read-complete (Err fault) read cmd asks = no-other fault read cmd asks

  pub read-due : (result : Result Cmd WordFault) → MatchResult result (IsCommand words) (IfWordFault words) → (fault : WordFault) → IsWordFault words fault → IsErr result
  read-due (Ok given) read fault has = absurd (command-apart words given fault read has)
  read-due (Err other) read fault has = refl

  pub read-none : (result : Result Cmd WordFault) → MatchResult result (IsCommand words) (IfWordFault words)
      → IfErr result (λ given. given ≢ NoMemory → (cmd : Cmd) → IsCommand words cmd → ⊥)
  read-none (Ok given) read = tt
  read-none (Err fault) read = λ some cmd asks. fault-apart fault some read cmd asks
