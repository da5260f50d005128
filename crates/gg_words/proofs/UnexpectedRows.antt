-- Command lines worked by hand: the word because of which `clap` refuses each.
use Rattle.std.proofs.Common.{◌≡◌, ◌+◌, ◌≤◌, ℕ, zero, suc, Bool, true, false, not, List, [], ◌∷◌, Some, take, arith, codes, refl, sym, subst, ⊎_elim}
use Rattle.std.specs.Prelude.{◌&&◌, slice_get}
use Rattle.std.proofs.lemmas.Bool.{and_parts}
use Rattle.clap.specs.Walk.{Text}
use Rattle.clap.proofs.OnLiterals.{clap_on_literals}
use Rattle.gg_words.specs.Unexpected.{IsUnexpected, has_unexpected}
use Rattle.gg_words.proofs.UnexpectedLaws.{equal-or-less}
use Rattle.gg_words.proofs.WorkedRows.{line}

-- none of the beginnings up to this length is refused for a word
abbrev is_clean : List Text → ℕ → Bool
is_clean words zero = not (has_unexpected (take 0 words))
is_clean words (suc n) = not (has_unexpected (take (suc n) words)) && is_clean words n

is-no : (b : Bool) → not b ≡ true → b ≡ false
is-no true e = sym e
is-no false e = refl

clean-up-to : (words : List Text) (place : ℕ) → is_clean words place ≡ true → (n : ℕ) → n ≤ place → has_unexpected (take n words) ≡ false
clean-up-to words zero clean zero le = is-no (has_unexpected (take 0 words)) clean
clean-up-to words zero clean (suc n) le = absurd (omega arith)
clean-up-to words (suc place) clean n le =
    let parts = and_parts (not (has_unexpected (take (suc place) words))) (is_clean words place) clean in
    ⊎_elim (λ e. subst (λ k. has_unexpected (take k words) ≡ false) (sym e) (is-no (has_unexpected (take (suc place) words)) parts.0))
    (λ lt. clean-up-to words place parts.1 n (omega arith)) (equal-or-less n (suc place) le)

record Row (words : List Text) (word : Text) (place : ℕ) : Type 0 where
  refused : has_unexpected words ≡ true
  stands : slice_get words place ≡ Some word
  here : has_unexpected (take (place + 1) words) ≡ true
  clean : is_clean words place ≡ true

row : (words : List Text) (word : Text) (place : ℕ) → Row words word place → IsUnexpected words word
row words word place r = record { refused = r.refused; place = place; stands = r.stands; here = r.here; first = clean-up-to words place r.clean }

no-command : IsUnexpected (line (codes "rnu" ∷ codes "c" ∷ codes "p" ∷ [])) (codes "rnu")
unfolding has_unexpected clap_on_literals
no-command = row _ _ 1 (record { refused = refl; stands = refl; here = refl; clean = refl })

file-too-many : IsUnexpected (line (codes "run" ∷ codes "c" ∷ codes "p" ∷ codes "t" ∷ codes "u" ∷ codes "v" ∷ [])) (codes "u")
unfolding has_unexpected clap_on_literals
file-too-many = row _ _ 5 (record { refused = refl; stands = refl; here = refl; clean = refl })

-- though files are missing, too
other-option : IsUnexpected (line (codes "run" ∷ codes "c" ∷ codes "--mno" ∷ [])) (codes "--mno")
unfolding has_unexpected clap_on_literals
other-option = row _ _ 3 (record { refused = refl; stands = refl; here = refl; clean = refl })

option-of-another-command : IsUnexpected (line (codes "check" ∷ codes "c" ∷ codes "p" ∷ codes "--workers" ∷ codes "2" ∷ [])) (codes "--workers")
unfolding has_unexpected clap_on_literals
option-of-another-command = row _ _ 4 (record { refused = refl; stands = refl; here = refl; clean = refl })

option-before-the-command : IsUnexpected (line (codes "--mono" ∷ codes "run" ∷ codes "c" ∷ codes "p" ∷ codes "t" ∷ [])) (codes "--mono")
unfolding has_unexpected clap_on_literals
option-before-the-command = row _ _ 1 (record { refused = refl; stands = refl; here = refl; clean = refl })

command-behind-dashes : IsUnexpected (line (codes "--" ∷ codes "run" ∷ codes "c" ∷ codes "p" ∷ codes "t" ∷ [])) (codes "run")
unfolding has_unexpected clap_on_literals
command-behind-dashes = row _ _ 2 (record { refused = refl; stands = refl; here = refl; clean = refl })

value-of-mono : IsUnexpected (line (codes "run" ∷ codes "c" ∷ codes "p" ∷ codes "t" ∷ codes "--mono=true" ∷ [])) (codes "--mono=true")
unfolding has_unexpected clap_on_literals
value-of-mono = row _ _ 5 (record { refused = refl; stands = refl; here = refl; clean = refl })

-- these are refused for none of their words
no-word : has_unexpected (line ([])) ≡ false
unfolding has_unexpected clap_on_literals
no-word = refl

file-missing : has_unexpected (line (codes "run" ∷ codes "c" ∷ [])) ≡ false
unfolding has_unexpected clap_on_literals
file-missing = refl

value-missing : has_unexpected (line (codes "run" ∷ codes "c" ∷ codes "p" ∷ codes "t" ∷ codes "--capacity" ∷ [])) ≡ false
unfolding has_unexpected clap_on_literals
value-missing = refl

twice : has_unexpected (line (codes "run" ∷ codes "c" ∷ codes "p" ∷ codes "t" ∷ codes "--mono" ∷ codes "--mono" ∷ [])) ≡ false
unfolding has_unexpected clap_on_literals
twice = refl

save-mono : IsUnexpected (line (codes "save" ∷ codes "c" ∷ codes "p" ∷ codes "t" ∷ codes "3" ∷ codes "--mono" ∷ [])) (codes "--mono")
unfolding has_unexpected clap_on_literals
save-mono = row _ _ 6 (record { refused = refl; stands = refl; here = refl; clean = refl })

save-one-word-more : IsUnexpected (line (codes "save" ∷ codes "c" ∷ codes "p" ∷ codes "t" ∷ codes "3" ∷ codes "s" ∷ [])) (codes "s")
unfolding has_unexpected clap_on_literals
save-one-word-more = row _ _ 6 (record { refused = refl; stands = refl; here = refl; clean = refl })

resume-at : IsUnexpected (line (codes "resume" ∷ codes "c" ∷ codes "p" ∷ codes "t" ∷ codes "s" ∷ codes "--at" ∷ codes "3" ∷ [])) (codes "--at")
unfolding has_unexpected clap_on_literals
resume-at = row _ _ 6 (record { refused = refl; stands = refl; here = refl; clean = refl })
