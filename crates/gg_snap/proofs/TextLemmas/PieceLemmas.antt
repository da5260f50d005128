-- The lines of a text.
use Rattle.std.proofs.Common.{◌≡◌, ℕ, zero, suc, ◌+◌, ◌<◌, ◌≤◌, List, [], ◌∷◌, ◌++◌, length, take, drop, get_or, Bool, true, false, cond, refl, sym, ap, ◌∙◌, arith, ◌⊎◌, inl, inr, true≢false, eq-eqb}
use Rattle.std.specs.Prelude.{◌==◌}
use Rattle.std.proofs.lemmas.Bool.{cases_Bool}
use Rattle.std.proofs.lemmas.Bool.Decides.{nat_tests}
use Rattle.std.proofs.lemmas.Bool.{cases_lt}
use Rattle.std.proofs.lemmas.List.{get_or_at, get_or_default, take_at, drop_at, length-append}
use Rattle.gg_snap.specs.text.Known.{HasNo}
use Rattle.gg_snap.specs.text.Standing.{pieces, with_byte}

by-true : {A : Type 0} (t : Bool) (x y : A) → t ≡ true → cond t x y ≡ x
by-true true x y e = refl
by-true false x y e = absurd (true≢false (sym e))

by-false : {A : Type 0} (t : Bool) (x y : A) → t ≡ false → cond t x y ≡ y
by-false true x y e = absurd (true≢false e)
by-false false x y e = refl

not-feed : (b : ℕ) → (b ≡ 10 → ⊥) → (b == 10) ≡ false
not-feed b ne = by (cases_Bool (b == 10))
  where
    by : ((b == 10) ≡ true) ⊎ ((b == 10) ≡ false) → (b == 10) ≡ false
    by (inl t) = absurd (ne (grind (arith, nat_tests)))
    by (inr f) = f

-- the first line ends with the first line feed
pub cut-at_feed : (text : List ℕ) (n : ℕ) → n < length text → ((k : ℕ) → k < n → get_or text k 0 ≡ 10 → ⊥) → get_or text n 0 ≡ 10 → pieces text ≡ take (suc n) text ∷ pieces (drop (suc n) text)
cut-at_feed [] n lt before ends = absurd (omega (arith, lt))
cut-at_feed (b ∷ text) zero lt before ends = by-true (b == 10) ((b ∷ []) ∷ pieces text) (with_byte b (pieces text)) (eq-eqb b 10 ends)
cut-at_feed (b ∷ text) (suc n) lt before ends =
    by-false (b == 10) ((b ∷ []) ∷ pieces text) (with_byte b (pieces text)) (not-feed b (before 0 (omega arith)))
    ∙ ap (with_byte b) (cut-at_feed text n (omega (arith, lt)) (λ k low. before (suc k) (omega (arith, low))) ends)

-- a text without a line feed is one line
pub cut-last : (text : List ℕ) → 0 < length text → ((k : ℕ) → k < length text → get_or text k 0 ≡ 10 → ⊥) → pieces text ≡ text ∷ []
cut-last [] some none = absurd (omega (arith, some))
cut-last (b ∷ []) some none = by-false (b == 10) ((b ∷ []) ∷ []) ((b ∷ []) ∷ []) (not-feed b (none 0 (omega arith)))
cut-last (b ∷ c ∷ text) some none =
    by-false (b == 10) ((b ∷ []) ∷ pieces (c ∷ text)) (with_byte b (pieces (c ∷ text))) (not-feed b (none 0 (omega arith)))
    ∙ ap (with_byte b) (cut-last (c ∷ text) (omega arith) (λ k low. none (suc k) (omega (arith, low))))

-- ---- a text up to a blank

get_or-front : (front rest : List ℕ) (n : ℕ) → n < length front → get_or (front ++ rest) n 0 ≡ get_or front n 0
get_or-front [] rest n lt = absurd (omega (arith, lt))
get_or-front (x ∷ front) rest zero lt = refl
get_or-front (x ∷ front) rest (suc n) lt = get_or-front front rest n (omega (arith, lt))

first-blank : (text front rest : List ℕ) (n : ℕ) → text ≡ front ++ 32 ∷ rest → HasNo 32 front → ((k : ℕ) → k < n → get_or text k 0 ≡ 32 → ⊥) → (n < length text → get_or text n 0 ≡ 32) → length front ≡ n
first-blank text front rest n is free before found = by (cases_lt n (length front)) (cases_lt (length front) n)
  where
    size : length text ≡ length front + suc (length rest)
    size = ap length is ∙ length-append front (32 ∷ rest)

    low : n < length front → ⊥
    low lt =
        let at : get_or text n 0 ≡ 32 = found (omega (arith, lt, size)) in
        let same : get_or front n 32 ≡ 32 = get_or_default front n 32 0 lt ∙ sym (get_or-front front (32 ∷ rest) n lt) ∙ ap (λ (l : List ℕ). get_or l n 0) (sym is) ∙ at in
        free (n, lt, same)

    high : length front < n → ⊥
    high lt = before (length front) lt (ap (λ (l : List ℕ). get_or l (length front) 0) is ∙ get_or_at front 32 rest 0 (length front) refl)

    by : (n < length front) ⊎ (length front ≤ n) → (length front < n) ⊎ (n ≤ length front) → length front ≡ n
    by (inl a) other = absurd (low a)
    by (inr a) (inl b) = absurd (high b)
    by (inr a) (inr b) = omega (arith, a, b)

-- a text is cut before its first blank
pub cut-at_blank : (text front rest : List ℕ) (n : ℕ) → text ≡ front ++ 32 ∷ rest → HasNo 32 front → ((k : ℕ) → k < n → get_or text k 0 ≡ 32 → ⊥) → (n < length text → get_or text n 0 ≡ 32) → (take n text ≡ front) × (drop n text ≡ 32 ∷ rest)
cut-at_blank text front rest n is free before found =
    let at = first-blank text front rest n is free before found in
    (ap (take n) is ∙ take_at front (32 ∷ rest) n at, ap (drop n) is ∙ drop_at front (32 ∷ rest) n at)
