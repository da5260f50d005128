-- Command lines of `demo` worked by hand: what each means, or the kinds by which `clap` may refuse it.
use Rattle.std.proofs.Common.{◌≡◌, [], ◌∷◌, Ok, Err, refl, codes}
use Rattle.clap.specs.Faults.{fault_of}
use Rattle.clap.specs.declared.error.kind.ErrorKind.TheVariants as kind
use Rattle.clap.proofs.OnLiterals.{clap_on_literals}
use Rattle.gg_words.specs.Line.{golden_app}
use Rattle.gg_words.specs.Meaning.{Says}
use Rattle.gg_words.specs.declared.command.Cmd.TheVariants.{Demo}
use Rattle.gg_words.proofs.WorkedRows.{line}

seed-and-size : Says (line (codes "demo" ∷ codes "0" ∷ codes "1" ∷ [])) (Ok (Demo 0 1 0))
unfolding clap_on_literals
seed-and-size = record { taken = refl; found = refl }

greatest-seed : Says (line (codes "demo" ∷ codes "4294967295" ∷ codes "64" ∷ [])) (Ok (Demo 4294967295 64 0))
unfolding clap_on_literals
greatest-seed = record { taken = refl; found = refl }

with-workers : Says (line (codes "demo" ∷ codes "7" ∷ codes "2" ∷ codes "--workers" ∷ codes "64" ∷ [])) (Ok (Demo 7 2 64))
unfolding clap_on_literals
with-workers = record { taken = refl; found = refl }

workers-among-the-numbers : Says (line (codes "demo" ∷ codes "--workers=3" ∷ codes "7" ∷ codes "2" ∷ [])) (Ok (Demo 7 2 3))
unfolding clap_on_literals
workers-among-the-numbers = record { taken = refl; found = refl }

with-zeros : Says (line (codes "demo" ∷ codes "00000000000000000007" ∷ codes "02" ∷ [])) (Ok (Demo 7 2 0))
unfolding clap_on_literals
with-zeros = record { taken = refl; found = refl }

numbers-behind-dashes : Says (line (codes "demo" ∷ codes "--" ∷ codes "7" ∷ codes "2" ∷ [])) (Ok (Demo 7 2 0))
unfolding clap_on_literals
numbers-behind-dashes = record { taken = refl; found = refl }

seed-too-large : Says (line (codes "demo" ∷ codes "4294967296" ∷ codes "1" ∷ [])) (Err (codes "4294967296"))
unfolding clap_on_literals
seed-too-large = record { taken = refl; found = refl }

size-0 : Says (line (codes "demo" ∷ codes "0" ∷ codes "0" ∷ [])) (Err (codes "0"))
unfolding clap_on_literals
size-0 = record { taken = refl; found = refl }

size-65 : Says (line (codes "demo" ∷ codes "0" ∷ codes "65" ∷ [])) (Err (codes "65"))
unfolding clap_on_literals
size-65 = record { taken = refl; found = refl }

workers-65 : Says (line (codes "demo" ∷ codes "0" ∷ codes "1" ∷ codes "--workers" ∷ codes "65" ∷ [])) (Err (codes "65"))
unfolding clap_on_literals
workers-65 = record { taken = refl; found = refl }

seed-no-number : Says (line (codes "demo" ∷ codes "one" ∷ codes "1" ∷ [])) (Err (codes "one"))
unfolding clap_on_literals
seed-no-number = record { taken = refl; found = refl }

seed-empty : Says (line (codes "demo" ∷ [] ∷ codes "1" ∷ [])) (Err ([]))
unfolding clap_on_literals
seed-empty = record { taken = refl; found = refl }

size-with-a-plus : Says (line (codes "demo" ∷ codes "0" ∷ codes "+1" ∷ [])) (Err (codes "+1"))
unfolding clap_on_literals
size-with-a-plus = record { taken = refl; found = refl }

-- the first value that is no number in its range: the seed, then the size, then the workers
seed-comes-first : Says (line (codes "demo" ∷ codes "x" ∷ codes "65" ∷ codes "--workers" ∷ codes "66" ∷ [])) (Err (codes "x"))
unfolding clap_on_literals
seed-comes-first = record { taken = refl; found = refl }

then-size : Says (line (codes "demo" ∷ codes "0" ∷ codes "65" ∷ codes "--workers" ∷ codes "66" ∷ [])) (Err (codes "65"))
unfolding clap_on_literals
then-size = record { taken = refl; found = refl }

seed-with-a-minus : fault_of golden_app (line (codes "demo" ∷ codes "-1" ∷ codes "1" ∷ [])) ≡ kind.UnknownArgument ∷ []
unfolding clap_on_literals
seed-with-a-minus = refl

minus-behind-dashes : Says (line (codes "demo" ∷ codes "--" ∷ codes "-1" ∷ codes "1" ∷ [])) (Err (codes "-1"))
unfolding clap_on_literals
minus-behind-dashes = record { taken = refl; found = refl }

size-missing : fault_of golden_app (line (codes "demo" ∷ codes "0" ∷ [])) ≡ kind.MissingRequiredArgument ∷ []
unfolding clap_on_literals
size-missing = refl

no-number : fault_of golden_app (line (codes "demo" ∷ [])) ≡ kind.MissingRequiredArgument ∷ []
unfolding clap_on_literals
no-number = refl

number-too-many : fault_of golden_app (line (codes "demo" ∷ codes "0" ∷ codes "1" ∷ codes "2" ∷ [])) ≡ kind.UnknownArgument ∷ []
unfolding clap_on_literals
number-too-many = refl

-- `demo` has no other option
capacity : fault_of golden_app (line (codes "demo" ∷ codes "0" ∷ codes "1" ∷ codes "--capacity" ∷ codes "2" ∷ [])) ≡ kind.UnknownArgument ∷ []
unfolding clap_on_literals
capacity = refl

mono : fault_of golden_app (line (codes "demo" ∷ codes "0" ∷ codes "1" ∷ codes "--mono" ∷ [])) ≡ kind.UnknownArgument ∷ []
unfolding clap_on_literals
mono = refl

workers-twice : fault_of golden_app (line (codes "demo" ∷ codes "0" ∷ codes "1" ∷ codes "--workers" ∷ codes "2" ∷ codes "--workers" ∷ codes "2" ∷ [])) ≡ kind.ArgumentConflict ∷ []
unfolding clap_on_literals
workers-twice = refl

case-counts : fault_of golden_app (line (codes "Demo" ∷ codes "0" ∷ codes "1" ∷ [])) ≡ kind.UnknownArgument ∷ kind.InvalidSubcommand ∷ []
unfolding clap_on_literals
case-counts = refl
