-- The search for the word because of which `clap` refuses words: it goes over their beginnings, the shortest first.
use Rattle.std.proofs.Common.{◌≡◌, ◌⊎◌, ◌+◌, ◌<◌, ◌≤◌, ℕ, zero, suc, true, false, true≢false, List, [], ◌∷◌, Some, get_or, length, take, arith, refl, sym, ap, inl, inr, ⊎_elim, ◌∙◌}
use Rattle.std.specs.Prelude.{String, slice_get, string_bytes}
use Rattle.std.proofs.lemmas.List.{take-map}
use Rattle.clap.specs.Walk.{Text}
use Rattle.gg_words.specs.Meaning.{texts}
use Rattle.gg_words.specs.Unexpected.{IsUnexpected, has_unexpected}
use Rattle.gg_words.proofs.KindLaws.{nothing-expected}

pub equal-or-less : (m n : ℕ) → m ≤ n → (m ≡ n) ⊎ (m < n)
equal-or-less zero zero le = inl refl
equal-or-less zero (suc n) le = inr (omega arith)
equal-or-less (suc m) zero le = absurd (omega arith)
equal-or-less (suc m) (suc n) le = ⊎_elim (λ e. inl (ap suc e)) (λ lt. inr (omega arith)) (equal-or-less m n (omega arith))

take-whole : (words : List Text) → take (length words) words ≡ words
take-whole [] = refl
take-whole (w ∷ ws) = ap (λ xs. w ∷ xs) (take-whole ws)

length-texts : {Y : Type 0} (words : List (String Y)) → length (texts words) ≡ length words
length-texts [] = refl
length-texts (w ∷ ws) = ap suc (length-texts ws)

-- no words, and so none of the first 0, are unexpected
pub some-word : {Y : Type 0} (words : List (String Y)) → has_unexpected (texts words) ≡ true → 0 < length words
some-word [] has = absurd (true≢false (sym has ∙ nothing-expected))
some-word (w ∷ ws) has = omega arith

pub expected-at-first : (words : List Text) (n : ℕ) → n ≤ 0 → has_unexpected (take n words) ≡ false
expected-at-first words zero le = nothing-expected
expected-at-first words (suc n) le = absurd (omega arith)

-- a beginning that is not refused so is not all of the words
pub more-words : {Y : Type 0} (words : List (String Y)) (place : ℕ) → has_unexpected (texts words) ≡ true → place < length words → has_unexpected (texts (take (place + 1) words)) ≡ false → place + 1 < length words
more-words words place has lt none = ⊎_elim
    (λ all. absurd (true≢false (sym has ∙ ap has_unexpected (sym (take-whole (texts words)) ∙ ap (λ k. take k (texts words)) (length-texts words ∙ sym all) ∙ take-map _ (place + 1) words) ∙ none)))
    (λ more. more) (equal-or-less (place + 1) (length words) (omega arith))

-- so the search goes on with one word more
pub expected-up-to : {Y : Type 0} (words : List (String Y)) (place : ℕ) → ((n : ℕ) → n ≤ place → has_unexpected (take n (texts words)) ≡ false) → has_unexpected (texts (take (place + 1) words)) ≡ false
    → (n : ℕ) → n ≤ place + 1 → has_unexpected (take n (texts words)) ≡ false
expected-up-to words place before here n le = ⊎_elim
    (λ e. ap (λ k. has_unexpected (take k (texts words))) e ∙ ap has_unexpected (take-map _ (place + 1) words) ∙ here)
    (λ lt. before n (omega arith)) (equal-or-less n (place + 1) le)

-- the word at a place has the text of that place
text-at : {Y : Type 0} (words : List (String Y)) (place : ℕ) (d : String Y) → place < length words → slice_get (texts words) place ≡ Some (string_bytes (get_or words place d))
text-at [] place d lt = absurd (omega arith)
text-at (w ∷ ws) zero d lt = refl
text-at (w ∷ ws) (suc place) d lt = text-at ws place d (omega arith)

-- the search ends at a place
pub unexpected-at : {Y : Type 0} (words : List (String Y)) (place : ℕ) (word : String Y) (text : Text) → has_unexpected (texts words) ≡ true → place < length words
    → ((n : ℕ) → n ≤ place → has_unexpected (take n (texts words)) ≡ false) → has_unexpected (texts (take (place + 1) words)) ≡ true
    → word ≡ get_or words place word → text ≡ string_bytes word → IsUnexpected (texts words) text
unexpected-at words place word text has lt before here is same = record {
  refused = has;
  place = place;
  stands = text-at words place word lt ∙ ap Some (ap string_bytes (sym is) ∙ sym same);
  here = ap has_unexpected (take-map _ (place + 1) words) ∙ here;
  first = before;
}
