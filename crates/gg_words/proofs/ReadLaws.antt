-- What `clap` answers, if the line that was asked is the program's, is what the words mean.
use Rattle.std.proofs.Common.{◌≡◌, ◌⊎◌, true, List, [], Option, refl, subst}
use Rattle.std.specs.Prelude.{MatchResult, Result, Ok, Err}
use Rattle.clap.specs.Walk.{Row, Text}
use Rattle.clap.specs.Simple.{App, HasMatchesOf, subcommand_of, subcommand_rows_of}
use Rattle.clap.specs.Kinds.{IsAmong}
use Rattle.clap.specs.Faults.{fault_of, is_simple_and_free}
use Rattle.clap.specs.declared.error.kind.ErrorKind.{ErrorKind}
use Rattle.clap.specs.declared.error.kind.ErrorKind.TheVariants as kind
use Rattle.clap.specs.declared.parser.matches.ArgMatches.{ArgMatches}
use Rattle.gg_words.specs.Line.{golden_app}
use Rattle.gg_words.specs.inside.Meaning.{Answers}
use Rattle.gg_words.specs.Meaning.{FoundSays, IfWordFault, IsCommand}
use Rattle.gg_words.specs.declared.command.Cmd.{Cmd}
use Rattle.gg_words.specs.declared.command.WordFault.{WordFault}
use Rattle.gg_words.specs.declared.command.WordFault.TheVariants.{Unexpected, Refused, WrongNumber, NoMemory}

-- words that `clap` takes have no fault, and what it finds in them is what the program's line tells
pub taken-if-app : (app : App) (words : List Text) → app ≡ golden_app → (is_simple_and_free app ≡ true → fault_of app words ≡ []) → fault_of golden_app words ≡ []
taken-if-app app words is none = subst (λ a. is_simple_and_free a ≡ true → fault_of a words ≡ []) is none refl

pub found-if-app : (app : App) (words : List Text) (m : ArgMatches) → app ≡ golden_app → HasMatchesOf app words m → subcommand_rows_of m ≡ subcommand_of golden_app words
found-if-app app words m is has = (subst (λ a. HasMatchesOf a words m) is has refl).1

pub refused-if-app : (app : App) (words : List Text) (k : ErrorKind) → app ≡ golden_app
    → (is_simple_and_free app ≡ true → (k ≡ kind.OutOfMemory) ⊎ IsAmong k (fault_of app words)) → (k ≡ kind.OutOfMemory) ⊎ IsAmong k (fault_of golden_app words)
refused-if-app app words k is among = subst (λ a. is_simple_and_free a ≡ true → (k ≡ kind.OutOfMemory) ⊎ IsAmong k (fault_of a words)) is among refl

-- what is made of words without a fault is what was found in them
pub answers-so : (words : List Text) (found : Option (Text × List Row)) (result : Result Cmd WordFault) → fault_of golden_app words ≡ [] → found ≡ subcommand_of golden_app words
    → ((said : Result Cmd Text) × FoundSays found said × Answers result said) → MatchResult result (IsCommand words) (IfWordFault words)
answers-so words found (Ok cmd) taken is (said, says, e) = record { taken = taken; found = subst (λ f. FoundSays f (Ok cmd)) is (subst (FoundSays found) e says) }
answers-so words found (Err (Unexpected word)) taken is (said, says, e) = absurd e
answers-so words found (Err (Refused k)) taken is (said, says, e) = absurd e
answers-so words found (Err (WrongNumber value)) taken is (said, says, e) = record { taken = taken; found = subst (λ f. FoundSays f (Err value)) is (subst (FoundSays found) e says) }
answers-so words found (Err NoMemory) taken is (said, says, e) = tt
