-- Lists of which one element is written.
use Rattle.std.proofs.Common.{◌≡◌, ◌≢◌, ℕ, zero, suc, ◌<◌, List, [], ◌∷◌, ◌++◌, length, slice_set, slice_index_or, sym, refl, ◌∙◌, subst, arith, inl, inr, get_or-set_same, get_or-set_other}
use Rattle.std.proofs.lemmas.Bool.{cases_eq}
use Rattle.std.proofs.Math.Seq.{get_or-append_seam}

pub get_default : {A : Type 0} (xs : List A) (i : ℕ) (d e : A) → i < length xs → slice_index_or xs i d ≡ slice_index_or xs i e
get_default [] i d e lt = absurd (omega arith)
get_default (x ∷ xs) zero d e lt = refl
get_default (x ∷ xs) (suc i) d e lt = get_default xs i d e (omega arith)

-- what was read is there, whatever the default
pub read_at : {A : Type 0} (xs : List A) (i : ℕ) (r : A) → i < length xs → r ≡ slice_index_or xs i r → (d : A) → slice_index_or xs i d ≡ r
read_at xs i r lt is d = get_default xs i d r lt ∙ sym is

-- a fact about each place, once one was written
pub set_cases : {S : Type 0} (P : ℕ → S → Type 0) (seats : List S) (n : ℕ) (q : S) → n < length seats → (k : ℕ) (d : S) → (k ≡ n → P n q) → (k ≢ n → P k (slice_index_or seats k d)) → P k (slice_index_or (slice_set seats n q) k d)
set_cases {S = S} P seats n q lt k d here there = elim (cases_eq k n) [
  | inl is ↦
      let Q : ℕ → Type 0 = λ j. P j (slice_index_or (slice_set seats n q) j d) in
      subst Q (sym is) (subst (λ (s : S). P n s) (sym (get_or-set_same seats n q d lt)) (here is))
  | inr ne ↦ subst (λ (s : S). P k s) (sym (get_or-set_other seats n k q d ne)) (there ne)
]

pub last_is : {A : Type 0} (xs : List A) (a d : A) → slice_index_or (xs ++ a ∷ []) (length xs) d ≡ a
last_is xs a d = get_or-append_seam xs a [] d
