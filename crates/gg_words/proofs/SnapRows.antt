-- Command lines of `save` and `resume` worked by hand: what each means, or the kinds by which `clap` may refuse it.
use Rattle.std.proofs.Common.{◌≡◌, [], ◌∷◌, Ok, Err, true≢false, ap, refl, codes}
use Rattle.clap.specs.Faults.{fault_of}
use Rattle.clap.specs.declared.error.kind.ErrorKind.TheVariants as kind
use Rattle.clap.proofs.OnLiterals.{clap_on_literals}
use Rattle.gg_words.specs.Line.{golden_app}
use Rattle.gg_words.specs.Meaning.{Says}
use Rattle.gg_words.specs.declared.command.Cmd.TheVariants.{Save, Resume}
use Rattle.gg_words.proofs.ApartLaws.{is_said}
use Rattle.gg_words.proofs.WorkedRows.{line}

save-at-3 : Says (line (codes "save" ∷ codes "c" ∷ codes "p" ∷ codes "t" ∷ codes "3" ∷ [])) (Ok (Save (codes "c") (codes "p") (codes "t") 3 2 0))
unfolding clap_on_literals
save-at-3 = record { taken = refl; found = refl }

save-at-0 : Says (line (codes "save" ∷ codes "c" ∷ codes "p" ∷ codes "t" ∷ codes "0" ∷ [])) (Ok (Save (codes "c") (codes "p") (codes "t") 0 2 0))
unfolding clap_on_literals
save-at-0 = record { taken = refl; found = refl }

latest-cycle : Says (line (codes "save" ∷ codes "c" ∷ codes "p" ∷ codes "t" ∷ codes "1000000" ∷ [])) (Ok (Save (codes "c") (codes "p") (codes "t") 1000000 2 0))
unfolding clap_on_literals
latest-cycle = record { taken = refl; found = refl }

at-with-zeros : Says (line (codes "save" ∷ codes "c" ∷ codes "p" ∷ codes "t" ∷ codes "0000003" ∷ [])) (Ok (Save (codes "c") (codes "p") (codes "t") 3 2 0))
unfolding clap_on_literals
at-with-zeros = record { taken = refl; found = refl }

save-with-options : Says (line (codes "save" ∷ codes "--workers=2" ∷ codes "c" ∷ codes "p" ∷ codes "--capacity" ∷ codes "7" ∷ codes "t" ∷ codes "3" ∷ [])) (Ok (Save (codes "c") (codes "p") (codes "t") 3 7 2))
unfolding clap_on_literals
save-with-options = record { taken = refl; found = refl }

words-behind-dashes : Says (line (codes "save" ∷ codes "--" ∷ codes "-c" ∷ codes "p" ∷ codes "t" ∷ codes "3" ∷ [])) (Ok (Save (codes "-c") (codes "p") (codes "t") 3 2 0))
unfolding clap_on_literals
words-behind-dashes = record { taken = refl; found = refl }

cycle-too-late : Says (line (codes "save" ∷ codes "c" ∷ codes "p" ∷ codes "t" ∷ codes "1000001" ∷ [])) (Err (codes "1000001"))
unfolding clap_on_literals
cycle-too-late = record { taken = refl; found = refl }

-- a row that must not hold: a cycle that is too late isn't a command
no-late-save : Says (line (codes "save" ∷ codes "c" ∷ codes "p" ∷ codes "t" ∷ codes "1000001" ∷ [])) (Ok (Save (codes "c") (codes "p") (codes "t") 1000001 2 0)) → ⊥
unfolding clap_on_literals
no-late-save says = true≢false (ap is_said says.found)

at-with-a-plus : Says (line (codes "save" ∷ codes "c" ∷ codes "p" ∷ codes "t" ∷ codes "+3" ∷ [])) (Err (codes "+3"))
unfolding clap_on_literals
at-with-a-plus = record { taken = refl; found = refl }

at-no-number : Says (line (codes "save" ∷ codes "c" ∷ codes "p" ∷ codes "t" ∷ codes "s" ∷ [])) (Err (codes "s"))
unfolding clap_on_literals
at-no-number = record { taken = refl; found = refl }

at-empty : Says (line (codes "save" ∷ codes "c" ∷ codes "p" ∷ codes "t" ∷ [] ∷ [])) (Err ([]))
unfolding clap_on_literals
at-empty = record { taken = refl; found = refl }

-- the cycle is told before the capacity and the workers
at-before-capacity : Says (line (codes "save" ∷ codes "c" ∷ codes "p" ∷ codes "t" ∷ codes "x" ∷ codes "--capacity" ∷ codes "0" ∷ codes "--workers" ∷ codes "65" ∷ [])) (Err (codes "x"))
unfolding clap_on_literals
at-before-capacity = record { taken = refl; found = refl }

save-capacity-0 : Says (line (codes "save" ∷ codes "c" ∷ codes "p" ∷ codes "t" ∷ codes "3" ∷ codes "--workers" ∷ codes "65" ∷ codes "--capacity" ∷ codes "0" ∷ [])) (Err (codes "0"))
unfolding clap_on_literals
save-capacity-0 = record { taken = refl; found = refl }

save-workers-65 : Says (line (codes "save" ∷ codes "c" ∷ codes "p" ∷ codes "t" ∷ codes "3" ∷ codes "--workers" ∷ codes "65" ∷ [])) (Err (codes "65"))
unfolding clap_on_literals
save-workers-65 = record { taken = refl; found = refl }

at-missing : fault_of golden_app (line (codes "save" ∷ codes "c" ∷ codes "p" ∷ codes "t" ∷ [])) ≡ kind.MissingRequiredArgument ∷ []
unfolding clap_on_literals
at-missing = refl

save-alone : fault_of golden_app (line (codes "save" ∷ [])) ≡ kind.MissingRequiredArgument ∷ []
unfolding clap_on_literals
save-alone = refl

four-files : Says (line (codes "resume" ∷ codes "c" ∷ codes "p" ∷ codes "t" ∷ codes "s" ∷ [])) (Ok (Resume (codes "c") (codes "p") (codes "t") (codes "s") 2 0))
unfolding clap_on_literals
four-files = record { taken = refl; found = refl }

resume-with-options : Says (line (codes "resume" ∷ codes "c" ∷ codes "p" ∷ codes "t" ∷ codes "s" ∷ codes "--capacity=4096" ∷ codes "--workers" ∷ codes "64" ∷ [])) (Ok (Resume (codes "c") (codes "p") (codes "t") (codes "s") 4096 64))
unfolding clap_on_literals
resume-with-options = record { taken = refl; found = refl }

-- the fourth word of `resume` is a file, and may be a number
file-3 : Says (line (codes "resume" ∷ codes "c" ∷ codes "p" ∷ codes "t" ∷ codes "3" ∷ [])) (Ok (Resume (codes "c") (codes "p") (codes "t") (codes "3") 2 0))
unfolding clap_on_literals
file-3 = record { taken = refl; found = refl }

resume-capacity-4097 : Says (line (codes "resume" ∷ codes "c" ∷ codes "p" ∷ codes "t" ∷ codes "s" ∷ codes "--capacity" ∷ codes "4097" ∷ codes "--workers" ∷ codes "65" ∷ [])) (Err (codes "4097"))
unfolding clap_on_literals
resume-capacity-4097 = record { taken = refl; found = refl }

resume-workers-65 : Says (line (codes "resume" ∷ codes "c" ∷ codes "p" ∷ codes "t" ∷ codes "s" ∷ codes "--workers" ∷ codes "65" ∷ [])) (Err (codes "65"))
unfolding clap_on_literals
resume-workers-65 = record { taken = refl; found = refl }

snap-missing : fault_of golden_app (line (codes "resume" ∷ codes "c" ∷ codes "p" ∷ codes "t" ∷ [])) ≡ kind.MissingRequiredArgument ∷ []
unfolding clap_on_literals
snap-missing = refl
