-- Numbers that pass a test: how many of them are below a number, and which is at a place.
use Rattle.std.proofs.Common.{◌≡◌, ℕ, zero, suc, ◌+◌, ◌-◌, ◌<◌, ◌≤◌, List, [], ◌∷◌, ◌++◌, length, get_or, Bool, true, false, Some, refl, sym, ap, ◌∙◌, subst, arith, ◌⊎◌, inl, inr, if◌then◌else◌, eq-eqb, ne_eqb}
use Rattle.std.specs.Prelude.{◌==◌, filter}
use Rattle.std.specs.List.{range_with_len}
use Rattle.std.proofs.lemmas.Bool.{cases_Bool, cases_lt}
use Rattle.std.proofs.lemmas.List.{get_or-append_right, get_or_append_left, get_or_default, length-append, map-id}
use Rattle.std.proofs.lemmas.List.Elements.{filter-append}
use Rattle.std.proofs.lemmas.List.FromFn.{map-range_with_len_more}
use Rattle.gg_flat.specs.Line.{value_at}
use Rattle.gg_flat.proofs.ListLemmas.{numbers-up}
use Rattle.gg_cut_plan.specs.Listed.{first_place}
use Rattle.gg_cut_split.proofs.ClosedLemmas.PlaceLemmas.{place-is}
use Rattle.gg_snap.specs.inside.Gathered.{number_below}

pub filter-same : {A : Type 0} (f g : A → Bool) → ((x : A) → f x ≡ g x) → (xs : List A) → filter f xs ≡ filter g xs
filter-same f g same [] = refl
filter-same f g same (x ∷ xs) =
    ap (λ b. if b then x ∷ filter f xs else filter f xs) (same x) ∙ ap (λ l. if g x then x ∷ l else l) (filter-same f g same xs)

-- the numbers below n that pass a test
abbrev pub chosen : (ℕ → Bool) → ℕ → List ℕ
chosen test n = filter test (range_with_len 0 n)

range-more : (n : ℕ) → range_with_len 0 (n + 1) ≡ range_with_len 0 n ++ n ∷ []
range-more n = sym (map-id (range_with_len 0 (n + 1))) ∙ map-range_with_len_more (λ x. x) 0 n n (omega arith) ∙ ap (λ l. l ++ n ∷ []) (map-id (range_with_len 0 n))

chosen-more : (test : ℕ → Bool) (n : ℕ) → chosen test (n + 1) ≡ chosen test n ++ (if test n then n ∷ [] else [])
chosen-more test n = ap (filter test) (range-more n) ∙ filter-append test (range_with_len 0 n) (n ∷ [])

-- one more number, by whether it passes
pub below-yes : (test : ℕ → Bool) (n : ℕ) → test n ≡ true → number_below test (n + 1) ≡ number_below test n + 1
below-yes test n pass = ap length (chosen-more test n ∙ ap (λ b. chosen test n ++ (if b then n ∷ [] else [])) pass) ∙ length-append (chosen test n) (n ∷ [])

pub below-no : (test : ℕ → Bool) (n : ℕ) → test n ≡ false → number_below test (n + 1) ≡ number_below test n
below-no test n no_test =
    ap length (chosen-more test n ∙ ap (λ b. chosen test n ++ (if b then n ∷ [] else [])) no_test) ∙ length-append (chosen test n) [] ∙ (let same : length (chosen test n) + 0 ≡ length (chosen test n) = omega arith in same)

pub below-more : (test : ℕ → Bool) (n : ℕ) (b : Bool) → test n ≡ b → number_below test (n + 1) ≡ (if b then number_below test n + 1 else number_below test n)
below-more test n true e = below-yes test n e
below-more test n false e = below-no test n e

next : (n : ℕ) → n + 1 ≡ suc n
next n = omega arith

-- at most all of them pass
pub below-most : (test : ℕ → Bool) (n : ℕ) → number_below test n ≤ n
below-most test zero = omega arith
below-most test (suc n) = subst (λ k. number_below test k ≤ k) (next n) (by (cases_Bool (test n)) (below-most test n))
  where
    by : (test n ≡ true) ⊎ (test n ≡ false) → number_below test n ≤ n → number_below test (n + 1) ≤ n + 1
    by (inl e) most = omega (arith, most, below-yes test n e)
    by (inr e) most = omega (arith, most, below-no test n e)

-- fewer stand before a number that passes than before a greater one
pub below-less : (test : ℕ → Bool) (s n : ℕ) → s < n → test s ≡ true → number_below test s < number_below test n
below-less test s zero lt pass = absurd (omega (arith, lt))
below-less test s (suc n) lt pass = subst (λ k. number_below test s < number_below test k) (next n) (by (cases_lt s n) (λ low. below-less test s n low pass) (cases_Bool (test n)))
  where
    here : s ≡ n → number_below test s < number_below test (n + 1)
    here e =
        let same : number_below test s ≡ number_below test n = ap (number_below test) e in
        let more = below-yes test n (ap test (sym e) ∙ pass) in
        omega (arith, same, more)

    by : (s < n) ⊎ (n ≤ s) → (s < n → number_below test s < number_below test n) → (test n ≡ true) ⊎ (test n ≡ false) → number_below test s < number_below test (n + 1)
    by (inr le) later any = here (omega (arith, lt, le))
    by (inl low) later (inl e) = omega (arith, later low, below-yes test n e)
    by (inl low) later (inr e) = omega (arith, later low, below-no test n e)

-- a number that passes is at its place
pub chosen-at : (test : ℕ → Bool) (s n : ℕ) → s < n → test s ≡ true → value_at (chosen test n) (number_below test s) ≡ s
chosen-at test s zero lt pass = absurd (omega (arith, lt))
chosen-at test s (suc n) lt pass = subst (λ k. value_at (chosen test k) (number_below test s) ≡ s) (next n) (ap (λ l. value_at l (number_below test s)) (chosen-more test n) ∙ by (cases_lt s n) (λ low. chosen-at test s n low pass))
  where
    here : s ≡ n → value_at (chosen test n ++ (if test n then n ∷ [] else [])) (number_below test s) ≡ s
    here e =
        ap (λ b. value_at (chosen test n ++ (if b then n ∷ [] else [])) (number_below test s)) (ap test (sym e) ∙ pass)
        ∙ ap (λ k. value_at (chosen test n ++ n ∷ []) (number_below test k)) e
        ∙ get_or-append_right (chosen test n) (n ∷ []) (number_below test n) (number_below test n) 0 refl (omega arith)
        ∙ ap (value_at (n ∷ [])) (let none : number_below test n - number_below test n ≡ 0 = omega arith in none) ∙ sym e

    by : (s < n) ⊎ (n ≤ s) → (s < n → value_at (chosen test n) (number_below test s) ≡ s) → value_at (chosen test n ++ (if test n then n ∷ [] else [])) (number_below test s) ≡ s
    by (inl low) later = get_or_append_left (chosen test n) (if test n then n ∷ [] else []) 0 (number_below test s) (below-less test s n low pass) ∙ later low
    by (inr le) later = here (omega (arith, lt, le))

-- the number at a place
pub record IsChosen (test : ℕ → Bool) (n place : ℕ) : Type 0 where
  pub number : ℕ
  pub within : number < n
  pub passes : test number ≡ true
  pub is : number_below test number ≡ place

pub chosen-is : (test : ℕ → Bool) (n place : ℕ) → place < number_below test n → IsChosen test n place
chosen-is test zero place lt = absurd (omega (arith, lt))
chosen-is test (suc n) place lt = by (cases_lt place (number_below test n)) (λ low. chosen-is test n place low) (cases_Bool (test n))
  where
    now : place < number_below test (n + 1)
    now = subst (λ k. place < number_below test k) (sym (next n)) lt

    further : IsChosen test n place → IsChosen test (suc n) place
    further at = record { number = at.number; within = (let low = at.within in omega (arith, low)); passes = at.passes; is = at.is }

    by : (place < number_below test n) ⊎ (number_below test n ≤ place) → (place < number_below test n → IsChosen test n place) → (test n ≡ true) ⊎ (test n ≡ false) → IsChosen test (suc n) place
    by (inl low) later any = further (later low)
    by (inr le) later (inl e) = record { number = n; within = omega arith; passes = e; is = omega (arith, le, now, below-yes test n e) }
    by (inr le) later (inr e) = absurd (omega (arith, le, now, below-no test n e))

-- and a number that passes is nowhere before
pub chosen-place : (test : ℕ → Bool) (s n : ℕ) → s < n → test s ≡ true → first_place (λ p. p == s) (chosen test n) ≡ Some (number_below test s)
chosen-place test s n lt pass =
    place-is (λ p. p == s) (chosen test n) (number_below test s) low (λ d. eq-eqb (get_or (chosen test n) (number_below test s) d) s (get_or_default (chosen test n) (number_below test s) d 0 low ∙ chosen-at test s n lt pass))
    (λ j d less.
    let up = numbers-up test n j (number_below test s) d less low in
    let at = get_or_default (chosen test n) (number_below test s) d 0 low ∙ chosen-at test s n lt pass in
    ne_eqb (get_or (chosen test n) j d) s (λ e. omega (arith, up, at, e)))
  where
    low : number_below test s < number_below test n
    low = below-less test s n lt pass
