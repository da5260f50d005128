-- Command lines of `replay` worked by hand: what each means, or the kinds by which `clap` may refuse it.
use Rattle.std.proofs.Common.{◌≡◌, [], ◌∷◌, Ok, Err, refl, codes}
use Rattle.clap.specs.Faults.{fault_of}
use Rattle.clap.specs.declared.error.kind.ErrorKind.TheVariants as kind
use Rattle.clap.proofs.OnLiterals.{clap_on_literals}
use Rattle.gg_words.specs.Line.{golden_app}
use Rattle.gg_words.specs.Meaning.{Says}
use Rattle.gg_words.specs.declared.command.Cmd.TheVariants.{Replay}
use Rattle.gg_words.proofs.WorkedRows.{line}

four-files : Says (line (codes "replay" ∷ codes "c" ∷ codes "p" ∷ codes "t" ∷ codes "s" ∷ [])) (Ok (Replay (codes "c") (codes "p") (codes "t") (codes "s") 2))
unfolding clap_on_literals
four-files = record { taken = refl; found = refl }

capacity-next-word : Says (line (codes "replay" ∷ codes "c" ∷ codes "p" ∷ codes "t" ∷ codes "s" ∷ codes "--capacity" ∷ codes "3" ∷ [])) (Ok (Replay (codes "c") (codes "p") (codes "t") (codes "s") 3))
unfolding clap_on_literals
capacity-next-word = record { taken = refl; found = refl }

capacity-behind-equals : Says (line (codes "replay" ∷ codes "c" ∷ codes "p" ∷ codes "t" ∷ codes "s" ∷ codes "--capacity=3" ∷ [])) (Ok (Replay (codes "c") (codes "p") (codes "t") (codes "s") 3))
unfolding clap_on_literals
capacity-behind-equals = record { taken = refl; found = refl }

capacity-with-zeros : Says (line (codes "replay" ∷ codes "c" ∷ codes "p" ∷ codes "t" ∷ codes "s" ∷ codes "--capacity" ∷ codes "0002" ∷ [])) (Ok (Replay (codes "c") (codes "p") (codes "t") (codes "s") 2))
unfolding clap_on_literals
capacity-with-zeros = record { taken = refl; found = refl }

least-capacity : Says (line (codes "replay" ∷ codes "c" ∷ codes "p" ∷ codes "t" ∷ codes "s" ∷ codes "--capacity" ∷ codes "1" ∷ [])) (Ok (Replay (codes "c") (codes "p") (codes "t") (codes "s") 1))
unfolding clap_on_literals
least-capacity = record { taken = refl; found = refl }

greatest-capacity : Says (line (codes "replay" ∷ codes "c" ∷ codes "p" ∷ codes "t" ∷ codes "s" ∷ codes "--capacity" ∷ codes "4096" ∷ [])) (Ok (Replay (codes "c") (codes "p") (codes "t") (codes "s") 4096))
unfolding clap_on_literals
greatest-capacity = record { taken = refl; found = refl }

capacity-before-the-files : Says (line (codes "replay" ∷ codes "--capacity" ∷ codes "5" ∷ codes "c" ∷ codes "p" ∷ codes "t" ∷ codes "s" ∷ [])) (Ok (Replay (codes "c") (codes "p") (codes "t") (codes "s") 5))
unfolding clap_on_literals
capacity-before-the-files = record { taken = refl; found = refl }

capacity-among-the-files : Says (line (codes "replay" ∷ codes "c" ∷ codes "p" ∷ codes "t" ∷ codes "--capacity=5" ∷ codes "s" ∷ [])) (Ok (Replay (codes "c") (codes "p") (codes "t") (codes "s") 5))
unfolding clap_on_literals
capacity-among-the-files = record { taken = refl; found = refl }

capacity-0 : Says (line (codes "replay" ∷ codes "c" ∷ codes "p" ∷ codes "t" ∷ codes "s" ∷ codes "--capacity" ∷ codes "0" ∷ [])) (Err (codes "0"))
unfolding clap_on_literals
capacity-0 = record { taken = refl; found = refl }

capacity-4097 : Says (line (codes "replay" ∷ codes "c" ∷ codes "p" ∷ codes "t" ∷ codes "s" ∷ codes "--capacity" ∷ codes "4097" ∷ [])) (Err (codes "4097"))
unfolding clap_on_literals
capacity-4097 = record { taken = refl; found = refl }

capacity-with-a-plus : Says (line (codes "replay" ∷ codes "c" ∷ codes "p" ∷ codes "t" ∷ codes "s" ∷ codes "--capacity" ∷ codes "+7" ∷ [])) (Err (codes "+7"))
unfolding clap_on_literals
capacity-with-a-plus = record { taken = refl; found = refl }

capacity-with-a-minus : Says (line (codes "replay" ∷ codes "c" ∷ codes "p" ∷ codes "t" ∷ codes "s" ∷ codes "--capacity=-7" ∷ [])) (Err (codes "-7"))
unfolding clap_on_literals
capacity-with-a-minus = record { taken = refl; found = refl }

capacity-no-number : Says (line (codes "replay" ∷ codes "c" ∷ codes "p" ∷ codes "t" ∷ codes "s" ∷ codes "--capacity" ∷ codes "two" ∷ [])) (Err (codes "two"))
unfolding clap_on_literals
capacity-no-number = record { taken = refl; found = refl }

capacity-empty : Says (line (codes "replay" ∷ codes "c" ∷ codes "p" ∷ codes "t" ∷ codes "s" ∷ codes "--capacity=" ∷ [])) (Err ([]))
unfolding clap_on_literals
capacity-empty = record { taken = refl; found = refl }

capacity-too-long : Says (line (codes "replay" ∷ codes "c" ∷ codes "p" ∷ codes "t" ∷ codes "s" ∷ codes "--capacity" ∷ codes "340282366920938463463374607431768211458" ∷ [])) (Err (codes "340282366920938463463374607431768211458"))
unfolding clap_on_literals
capacity-too-long = record { taken = refl; found = refl }

capacity-without-value : fault_of golden_app (line (codes "replay" ∷ codes "c" ∷ codes "p" ∷ codes "t" ∷ codes "s" ∷ codes "--capacity" ∷ [])) ≡ kind.InvalidValue ∷ []
unfolding clap_on_literals
capacity-without-value = refl

capacity-twice : fault_of golden_app (line (codes "replay" ∷ codes "c" ∷ codes "p" ∷ codes "t" ∷ codes "s" ∷ codes "--capacity" ∷ codes "3" ∷ codes "--capacity" ∷ codes "3" ∷ [])) ≡ kind.ArgumentConflict ∷ []
unfolding clap_on_literals
capacity-twice = refl

-- the value of an option isn't a file
capacity-takes-the-steps : fault_of golden_app (line (codes "replay" ∷ codes "c" ∷ codes "p" ∷ codes "t" ∷ codes "--capacity" ∷ codes "s" ∷ [])) ≡ kind.MissingRequiredArgument ∷ []
unfolding clap_on_literals
capacity-takes-the-steps = refl

-- `replay` doesn't have the other options of `run`
workers : fault_of golden_app (line (codes "replay" ∷ codes "c" ∷ codes "p" ∷ codes "t" ∷ codes "s" ∷ codes "--workers" ∷ codes "2" ∷ [])) ≡ kind.UnknownArgument ∷ []
unfolding clap_on_literals
workers = refl

mono : fault_of golden_app (line (codes "replay" ∷ codes "c" ∷ codes "p" ∷ codes "t" ∷ codes "s" ∷ codes "--mono" ∷ [])) ≡ kind.UnknownArgument ∷ []
unfolding clap_on_literals
mono = refl

steps-as-an-option : fault_of golden_app (line (codes "replay" ∷ codes "c" ∷ codes "p" ∷ codes "t" ∷ codes "--steps" ∷ codes "s" ∷ [])) ≡ kind.UnknownArgument ∷ []
unfolding clap_on_literals
steps-as-an-option = refl

file-too-many : fault_of golden_app (line (codes "replay" ∷ codes "c" ∷ codes "p" ∷ codes "t" ∷ codes "s" ∷ codes "u" ∷ [])) ≡ kind.UnknownArgument ∷ []
unfolding clap_on_literals
file-too-many = refl

steps-missing : fault_of golden_app (line (codes "replay" ∷ codes "c" ∷ codes "p" ∷ codes "t" ∷ [])) ≡ kind.MissingRequiredArgument ∷ []
unfolding clap_on_literals
steps-missing = refl

trace-and-steps-missing : fault_of golden_app (line (codes "replay" ∷ codes "c" ∷ codes "p" ∷ [])) ≡ kind.MissingRequiredArgument ∷ []
unfolding clap_on_literals
trace-and-steps-missing = refl

no-file : fault_of golden_app (line (codes "replay" ∷ [])) ≡ kind.MissingRequiredArgument ∷ []
unfolding clap_on_literals
no-file = refl

run-has-no-steps : fault_of golden_app (line (codes "run" ∷ codes "c" ∷ codes "p" ∷ codes "t" ∷ codes "s" ∷ [])) ≡ kind.UnknownArgument ∷ []
unfolding clap_on_literals
run-has-no-steps = refl

check-has-no-steps : fault_of golden_app (line (codes "check" ∷ codes "c" ∷ codes "p" ∷ codes "t" ∷ codes "s" ∷ [])) ≡ kind.UnknownArgument ∷ []
unfolding clap_on_literals
check-has-no-steps = refl

dashed-files-behind-dashes : Says (line (codes "replay" ∷ codes "--" ∷ codes "-c" ∷ codes "p" ∷ codes "t" ∷ codes "--capacity" ∷ [])) (Ok (Replay (codes "-c") (codes "p") (codes "t") (codes "--capacity") 2))
unfolding clap_on_literals
dashed-files-behind-dashes = record { taken = refl; found = refl }

dashes-after-a-file : Says (line (codes "replay" ∷ codes "c" ∷ codes "p" ∷ codes "t" ∷ codes "--" ∷ codes "s" ∷ [])) (Ok (Replay (codes "c") (codes "p") (codes "t") (codes "s") 2))
unfolding clap_on_literals
dashes-after-a-file = record { taken = refl; found = refl }

dashed-file : fault_of golden_app (line (codes "replay" ∷ codes "c" ∷ codes "p" ∷ codes "t" ∷ codes "-s" ∷ [])) ≡ kind.UnknownArgument ∷ []
unfolding clap_on_literals
dashed-file = refl

command-names-are-files : Says (line (codes "replay" ∷ codes "replay" ∷ codes "run" ∷ codes "check" ∷ codes "help" ∷ [])) (Ok (Replay (codes "replay") (codes "run") (codes "check") (codes "help") 2))
unfolding clap_on_literals
command-names-are-files = record { taken = refl; found = refl }

one-file-four-times : Says (line (codes "replay" ∷ codes "f" ∷ codes "f" ∷ codes "f" ∷ codes "f" ∷ [])) (Ok (Replay (codes "f") (codes "f") (codes "f") (codes "f") 2))
unfolding clap_on_literals
one-file-four-times = record { taken = refl; found = refl }

empty-name : Says (line (codes "replay" ∷ codes "c" ∷ codes "p" ∷ codes "t" ∷ [] ∷ [])) (Ok (Replay (codes "c") (codes "p") (codes "t") ([]) 2))
unfolding clap_on_literals
empty-name = record { taken = refl; found = refl }

case-counts : fault_of golden_app (line (codes "Replay" ∷ codes "c" ∷ codes "p" ∷ codes "t" ∷ codes "s" ∷ [])) ≡ kind.UnknownArgument ∷ kind.InvalidSubcommand ∷ []
unfolding clap_on_literals
case-counts = refl

shortened : fault_of golden_app (line (codes "rep" ∷ codes "c" ∷ codes "p" ∷ codes "t" ∷ codes "s" ∷ [])) ≡ kind.UnknownArgument ∷ kind.InvalidSubcommand ∷ []
unfolding clap_on_literals
shortened = refl

help-of-replay : fault_of golden_app (line (codes "replay" ∷ codes "--help" ∷ [])) ≡ kind.UnknownArgument ∷ []
unfolding clap_on_literals
help-of-replay = refl

options-before-the-command : fault_of golden_app (line (codes "--capacity" ∷ codes "3" ∷ codes "replay" ∷ codes "c" ∷ codes "p" ∷ codes "t" ∷ codes "s" ∷ [])) ≡ kind.UnknownArgument ∷ []
unfolding clap_on_literals
options-before-the-command = refl
