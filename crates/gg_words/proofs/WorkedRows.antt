-- Command lines worked by hand: what each means, or the kinds by which `clap` may refuse it.
use Rattle.std.proofs.Common.{◌≡◌, List, [], ◌∷◌, Ok, Err, true, false, refl, subst, inl, inr, codes}
use Rattle.clap.specs.Walk.{Text}
use Rattle.clap.specs.Faults.{fault_of}
use Rattle.clap.specs.Kinds.{IsAmong}
use Rattle.clap.specs.declared.error.kind.ErrorKind.TheVariants as kind
use Rattle.clap.proofs.OnLiterals.{clap_on_literals}
use Rattle.gg_words.specs.Line.{golden_app}
use Rattle.gg_words.specs.Meaning.{Says}
use Rattle.gg_words.specs.declared.command.Cmd.TheVariants.{Run, Check}

-- the words after the program's own name
abbrev pub line : List Text → List Text
line words = codes "golden" ∷ words

three-files : Says (line (codes "run" ∷ codes "c" ∷ codes "p" ∷ codes "t" ∷ [])) (Ok (Run (codes "c") (codes "p") (codes "t") 2 0 false))
unfolding clap_on_literals
three-files = record { taken = refl; found = refl }

capacity-next-word : Says (line (codes "run" ∷ codes "c" ∷ codes "p" ∷ codes "t" ∷ codes "--capacity" ∷ codes "3" ∷ [])) (Ok (Run (codes "c") (codes "p") (codes "t") 3 0 false))
unfolding clap_on_literals
capacity-next-word = record { taken = refl; found = refl }

capacity-behind-equals : Says (line (codes "run" ∷ codes "c" ∷ codes "p" ∷ codes "t" ∷ codes "--capacity=3" ∷ [])) (Ok (Run (codes "c") (codes "p") (codes "t") 3 0 false))
unfolding clap_on_literals
capacity-behind-equals = record { taken = refl; found = refl }

capacity-with-zeros : Says (line (codes "run" ∷ codes "c" ∷ codes "p" ∷ codes "t" ∷ codes "--capacity" ∷ codes "0002" ∷ [])) (Ok (Run (codes "c") (codes "p") (codes "t") 2 0 false))
unfolding clap_on_literals
capacity-with-zeros = record { taken = refl; found = refl }

capacity-with-many-zeros : Says (line (codes "run" ∷ codes "c" ∷ codes "p" ∷ codes "t" ∷ codes "--capacity" ∷ codes "000000000000000000000000000000000007" ∷ [])) (Ok (Run (codes "c") (codes "p") (codes "t") 7 0 false))
unfolding clap_on_literals
capacity-with-many-zeros = record { taken = refl; found = refl }

least-capacity : Says (line (codes "run" ∷ codes "c" ∷ codes "p" ∷ codes "t" ∷ codes "--capacity" ∷ codes "1" ∷ [])) (Ok (Run (codes "c") (codes "p") (codes "t") 1 0 false))
unfolding clap_on_literals
least-capacity = record { taken = refl; found = refl }

greatest-capacity : Says (line (codes "run" ∷ codes "c" ∷ codes "p" ∷ codes "t" ∷ codes "--capacity" ∷ codes "4096" ∷ [])) (Ok (Run (codes "c") (codes "p") (codes "t") 4096 0 false))
unfolding clap_on_literals
greatest-capacity = record { taken = refl; found = refl }

capacity-0 : Says (line (codes "run" ∷ codes "c" ∷ codes "p" ∷ codes "t" ∷ codes "--capacity" ∷ codes "0" ∷ [])) (Err (codes "0"))
unfolding clap_on_literals
capacity-0 = record { taken = refl; found = refl }

capacity-4097 : Says (line (codes "run" ∷ codes "c" ∷ codes "p" ∷ codes "t" ∷ codes "--capacity" ∷ codes "4097" ∷ [])) (Err (codes "4097"))
unfolding clap_on_literals
capacity-4097 = record { taken = refl; found = refl }

capacity-with-a-plus : Says (line (codes "run" ∷ codes "c" ∷ codes "p" ∷ codes "t" ∷ codes "--capacity" ∷ codes "+7" ∷ [])) (Err (codes "+7"))
unfolding clap_on_literals
capacity-with-a-plus = record { taken = refl; found = refl }

capacity-with-a-minus : Says (line (codes "run" ∷ codes "c" ∷ codes "p" ∷ codes "t" ∷ codes "--capacity=-7" ∷ [])) (Err (codes "-7"))
unfolding clap_on_literals
capacity-with-a-minus = record { taken = refl; found = refl }

capacity-in-hexadecimal : Says (line (codes "run" ∷ codes "c" ∷ codes "p" ∷ codes "t" ∷ codes "--capacity" ∷ codes "0x10" ∷ [])) (Err (codes "0x10"))
unfolding clap_on_literals
capacity-in-hexadecimal = record { taken = refl; found = refl }

capacity-with-a-point : Says (line (codes "run" ∷ codes "c" ∷ codes "p" ∷ codes "t" ∷ codes "--capacity" ∷ codes "3.0" ∷ [])) (Err (codes "3.0"))
unfolding clap_on_literals
capacity-with-a-point = record { taken = refl; found = refl }

capacity-with-a-blank : Says (line (codes "run" ∷ codes "c" ∷ codes "p" ∷ codes "t" ∷ codes "--capacity" ∷ codes " 3" ∷ [])) (Err (codes " 3"))
unfolding clap_on_literals
capacity-with-a-blank = record { taken = refl; found = refl }

capacity-empty : Says (line (codes "run" ∷ codes "c" ∷ codes "p" ∷ codes "t" ∷ codes "--capacity=" ∷ [])) (Err ([]))
unfolding clap_on_literals
capacity-empty = record { taken = refl; found = refl }

capacity-empty-word : Says (line (codes "run" ∷ codes "c" ∷ codes "p" ∷ codes "t" ∷ codes "--capacity" ∷ [] ∷ [])) (Err ([]))
unfolding clap_on_literals
capacity-empty-word = record { taken = refl; found = refl }

capacity-too-long : Says (line (codes "run" ∷ codes "c" ∷ codes "p" ∷ codes "t" ∷ codes "--capacity" ∷ codes "340282366920938463463374607431768211458" ∷ [])) (Err (codes "340282366920938463463374607431768211458"))
unfolding clap_on_literals
capacity-too-long = record { taken = refl; found = refl }

capacity-negative-word : fault_of golden_app (line (codes "run" ∷ codes "c" ∷ codes "p" ∷ codes "t" ∷ codes "--capacity" ∷ codes "-7" ∷ [])) ≡ kind.UnknownArgument ∷ []
unfolding clap_on_literals
capacity-negative-word = refl

capacity-without-value : fault_of golden_app (line (codes "run" ∷ codes "c" ∷ codes "p" ∷ codes "t" ∷ codes "--capacity" ∷ [])) ≡ kind.InvalidValue ∷ []
unfolding clap_on_literals
capacity-without-value = refl

capacity-before-an-option : fault_of golden_app (line (codes "run" ∷ codes "c" ∷ codes "p" ∷ codes "t" ∷ codes "--capacity" ∷ codes "--mono" ∷ [])) ≡ kind.InvalidValue ∷ []
unfolding clap_on_literals
capacity-before-an-option = refl

capacity-twice : fault_of golden_app (line (codes "run" ∷ codes "c" ∷ codes "p" ∷ codes "t" ∷ codes "--capacity" ∷ codes "3" ∷ codes "--capacity" ∷ codes "3" ∷ [])) ≡ kind.ArgumentConflict ∷ []
unfolding clap_on_literals
capacity-twice = refl

capacity-shortened : fault_of golden_app (line (codes "run" ∷ codes "c" ∷ codes "p" ∷ codes "t" ∷ codes "--cap" ∷ codes "3" ∷ [])) ≡ kind.UnknownArgument ∷ []
unfolding clap_on_literals
capacity-shortened = refl

workers-64 : Says (line (codes "run" ∷ codes "c" ∷ codes "p" ∷ codes "t" ∷ codes "--workers" ∷ codes "64" ∷ [])) (Ok (Run (codes "c") (codes "p") (codes "t") 2 64 false))
unfolding clap_on_literals
workers-64 = record { taken = refl; found = refl }

workers-0 : Says (line (codes "run" ∷ codes "c" ∷ codes "p" ∷ codes "t" ∷ codes "--workers=00" ∷ [])) (Ok (Run (codes "c") (codes "p") (codes "t") 2 0 false))
unfolding clap_on_literals
workers-0 = record { taken = refl; found = refl }

workers-65 : Says (line (codes "run" ∷ codes "c" ∷ codes "p" ∷ codes "t" ∷ codes "--workers" ∷ codes "65" ∷ [])) (Err (codes "65"))
unfolding clap_on_literals
workers-65 = record { taken = refl; found = refl }

workers-no-number : Says (line (codes "run" ∷ codes "c" ∷ codes "p" ∷ codes "t" ∷ codes "--workers" ∷ codes "two" ∷ [])) (Err (codes "two"))
unfolding clap_on_literals
workers-no-number = record { taken = refl; found = refl }

capacity-comes-first : Says (line (codes "run" ∷ codes "c" ∷ codes "p" ∷ codes "t" ∷ codes "--workers" ∷ codes "65" ∷ codes "--capacity" ∷ codes "0" ∷ [])) (Err (codes "0"))
unfolding clap_on_literals
capacity-comes-first = record { taken = refl; found = refl }

mono : Says (line (codes "run" ∷ codes "c" ∷ codes "p" ∷ codes "t" ∷ codes "--mono" ∷ [])) (Ok (Run (codes "c") (codes "p") (codes "t") 2 0 true))
unfolding clap_on_literals
mono = record { taken = refl; found = refl }

mono-twice : fault_of golden_app (line (codes "run" ∷ codes "c" ∷ codes "p" ∷ codes "t" ∷ codes "--mono" ∷ codes "--mono" ∷ [])) ≡ kind.ArgumentConflict ∷ []
unfolding clap_on_literals
mono-twice = refl

mono-with-value : fault_of golden_app (line (codes "run" ∷ codes "c" ∷ codes "p" ∷ codes "t" ∷ codes "--mono=true" ∷ [])) ≡ kind.TooManyValues ∷ []
unfolding clap_on_literals
mono-with-value = refl

options-anywhere : Says (line (codes "run" ∷ codes "--workers" ∷ codes "3" ∷ codes "c" ∷ codes "--mono" ∷ codes "p" ∷ codes "t" ∷ codes "--capacity" ∷ codes "5" ∷ [])) (Ok (Run (codes "c") (codes "p") (codes "t") 5 3 true))
unfolding clap_on_literals
options-anywhere = record { taken = refl; found = refl }

options-before-the-command : fault_of golden_app (line (codes "--mono" ∷ codes "run" ∷ codes "c" ∷ codes "p" ∷ codes "t" ∷ [])) ≡ kind.UnknownArgument ∷ []
unfolding clap_on_literals
options-before-the-command = refl

dashed-file-behind-dashes : Says (line (codes "run" ∷ codes "--" ∷ codes "-c" ∷ codes "p" ∷ codes "--mono" ∷ [])) (Ok (Run (codes "-c") (codes "p") (codes "--mono") 2 0 false))
unfolding clap_on_literals
dashed-file-behind-dashes = record { taken = refl; found = refl }

dashes-after-a-file : Says (line (codes "run" ∷ codes "c" ∷ codes "--" ∷ codes "p" ∷ codes "t" ∷ [])) (Ok (Run (codes "c") (codes "p") (codes "t") 2 0 false))
unfolding clap_on_literals
dashes-after-a-file = record { taken = refl; found = refl }

dashed-file : fault_of golden_app (line (codes "run" ∷ codes "-c" ∷ codes "p" ∷ codes "t" ∷ [])) ≡ kind.UnknownArgument ∷ []
unfolding clap_on_literals
dashed-file = refl

one-dash-is-a-file : Says (line (codes "run" ∷ codes "-" ∷ codes "p" ∷ codes "t" ∷ [])) (Ok (Run (codes "-") (codes "p") (codes "t") 2 0 false))
unfolding clap_on_literals
one-dash-is-a-file = record { taken = refl; found = refl }

command-names-are-files : Says (line (codes "run" ∷ codes "run" ∷ codes "check" ∷ codes "help" ∷ [])) (Ok (Run (codes "run") (codes "check") (codes "help") 2 0 false))
unfolding clap_on_literals
command-names-are-files = record { taken = refl; found = refl }

empty-name : Says (line (codes "run" ∷ [] ∷ codes "p" ∷ codes "t" ∷ [])) (Ok (Run ([]) (codes "p") (codes "t") 2 0 false))
unfolding clap_on_literals
empty-name = record { taken = refl; found = refl }

file-too-many : fault_of golden_app (line (codes "run" ∷ codes "c" ∷ codes "p" ∷ codes "t" ∷ codes "u" ∷ [])) ≡ kind.UnknownArgument ∷ []
unfolding clap_on_literals
file-too-many = refl

file-missing : fault_of golden_app (line (codes "run" ∷ codes "c" ∷ codes "p" ∷ [])) ≡ kind.MissingRequiredArgument ∷ []
unfolding clap_on_literals
file-missing = refl

no-file : fault_of golden_app (line (codes "run" ∷ [])) ≡ kind.MissingRequiredArgument ∷ []
unfolding clap_on_literals
no-file = refl

dashes-before-the-command : fault_of golden_app (line (codes "--" ∷ codes "run" ∷ codes "c" ∷ codes "p" ∷ codes "t" ∷ [])) ≡ kind.UnknownArgument ∷ kind.InvalidSubcommand ∷ []
unfolding clap_on_literals
dashes-before-the-command = refl

check : Says (line (codes "check" ∷ codes "c" ∷ codes "p" ∷ [])) (Ok (Check (codes "c") (codes "p") 2))
unfolding clap_on_literals
check = record { taken = refl; found = refl }

check-capacity : Says (line (codes "check" ∷ codes "c" ∷ codes "p" ∷ codes "--capacity" ∷ codes "7" ∷ [])) (Ok (Check (codes "c") (codes "p") 7))
unfolding clap_on_literals
check-capacity = record { taken = refl; found = refl }

check-capacity-4097 : Says (line (codes "check" ∷ codes "c" ∷ codes "p" ∷ codes "--capacity" ∷ codes "4097" ∷ [])) (Err (codes "4097"))
unfolding clap_on_literals
check-capacity-4097 = record { taken = refl; found = refl }

check-workers : fault_of golden_app (line (codes "check" ∷ codes "c" ∷ codes "p" ∷ codes "--workers" ∷ codes "2" ∷ [])) ≡ kind.UnknownArgument ∷ []
unfolding clap_on_literals
check-workers = refl

check-trace : fault_of golden_app (line (codes "check" ∷ codes "c" ∷ codes "p" ∷ codes "t" ∷ [])) ≡ kind.UnknownArgument ∷ []
unfolding clap_on_literals
check-trace = refl

case-counts : fault_of golden_app (line (codes "Run" ∷ codes "c" ∷ codes "p" ∷ codes "t" ∷ [])) ≡ kind.UnknownArgument ∷ kind.InvalidSubcommand ∷ []
unfolding clap_on_literals
case-counts = refl

help-option : fault_of golden_app (line (codes "--help" ∷ [])) ≡ kind.UnknownArgument ∷ []
unfolding clap_on_literals
help-option = refl

help-letter : fault_of golden_app (line (codes "-h" ∷ [])) ≡ kind.UnknownArgument ∷ []
unfolding clap_on_literals
help-letter = refl

help-word : fault_of golden_app (line (codes "help" ∷ [])) ≡ kind.UnknownArgument ∷ kind.InvalidSubcommand ∷ []
unfolding clap_on_literals
help-word = refl

version-option : fault_of golden_app (line (codes "--version" ∷ [])) ≡ kind.UnknownArgument ∷ []
unfolding clap_on_literals
version-option = refl

help-of-run : fault_of golden_app (line (codes "run" ∷ codes "--help" ∷ [])) ≡ kind.UnknownArgument ∷ []
unfolding clap_on_literals
help-of-run = refl

no-word : fault_of golden_app (line ([])) ≡ kind.MissingSubcommand ∷ []
unfolding clap_on_literals
no-word = refl

-- a call without words, not even a name
nothing : fault_of golden_app [] ≡ kind.MissingSubcommand ∷ []
unfolding clap_on_literals
nothing = refl

-- the first word may be any
other-name : Says (codes "--mono" ∷ codes "check" ∷ codes "c" ∷ codes "p" ∷ []) (Ok (Check (codes "c") (codes "p") 2))
unfolding clap_on_literals
other-name = record { taken = refl; found = refl }

-- so an option that comes twice isn't refused as a wrong value
not-invalid : IsAmong kind.InvalidValue (fault_of golden_app (line (codes "run" ∷ codes "c" ∷ codes "p" ∷ codes "t" ∷ codes "--mono" ∷ codes "--mono" ∷ []))) → ⊥
not-invalid among = by (subst (IsAmong kind.InvalidValue) mono-twice among)
  where
    by : IsAmong kind.InvalidValue (kind.ArgumentConflict ∷ []) → ⊥
    by (inl is) = absurd (cc)
    by (inr among) = among
