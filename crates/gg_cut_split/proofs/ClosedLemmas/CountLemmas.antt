-- Distinct numbers below n: there are at most n, and n of them are all.
use Rattle.std.proofs.Common.{◌≡◌, ◌≢◌, ℕ, zero, suc, ◌<◌, ◌≤◌, List, [], ◌∷◌, length, get_or, Bool, true, false, not, refl, sym, ◌∙◌, ap, subst, inl, inr, ◌⊎◌, eq-eqb, true-eqb, arith}
use Rattle.std.specs.Prelude.{◌==◌, filter, cond, Contains, All, AllPairs}
use Rattle.std.proofs.lemmas.Bool.{cases_lt, cases_Bool, ne_eqb}
use Rattle.std.proofs.lemmas.List.Elements.{All-contains, Contains-get_or}
use Rattle.std.proofs.lemmas.List.Kept.{AllPairs-filter, AllPairs-cons}
use Rattle.gg_flat.proofs.ListLemmas.{filter-cases}
use Rattle.gg_cut_split.proofs.ClosedLemmas.MakerLemmas.{find-number}

abbrev other_than : ℕ → ℕ → Bool
other_than n x = not (x == n)

tail-pairs : (x : ℕ) (xs : List ℕ) → AllPairs (λ a b. a ≢ b) (x ∷ xs) → AllPairs (λ a b. a ≢ b) xs
tail-pairs x xs once i j d less lt = once (suc i) (suc j) d (omega (arith, less)) (omega (arith, lt))

head-pairs : (x : ℕ) (xs : List ℕ) → AllPairs (λ a b. a ≢ b) (x ∷ xs) → All (λ y. x ≢ y) xs
head-pairs x xs once k d lt = once 0 (suc k) d (omega arith) (omega (arith, lt))

others-same : (n : ℕ) (xs : List ℕ) → All (λ y. n ≢ y) xs → filter (other_than n) xs ≡ xs
others-same n [] none = refl
others-same n (x ∷ xs) none =
    ap (λ b. cond (not b) (x ∷ filter (other_than n) xs) (filter (other_than n) xs)) (ne_eqb x n (λ e. none 0 x (omega arith) (sym e)))
    ∙ ap (λ l. x ∷ l) (others-same n xs (λ k d lt. none (suc k) d (omega (arith, lt))))

-- without one number, distinct numbers are at most one fewer
others-many : (n : ℕ) (xs : List ℕ) → AllPairs (λ a b. a ≢ b) xs → length xs ≤ suc (length (filter (other_than n) xs))
others-many n [] once = omega arith
others-many n (x ∷ xs) once = by (cases_Bool (x == n)) (others-many n xs (tail-pairs x xs once))
  where
    by : ((x == n) ≡ true) ⊎ ((x == n) ≡ false) → length xs ≤ suc (length (filter (other_than n) xs)) → length (x ∷ xs) ≤ suc (length (filter (other_than n) (x ∷ xs)))
    by (inl same) rest =
        let all : All (λ y. n ≢ y) xs = subst (λ m. All (λ y. m ≢ y) xs) (true-eqb x n (sym same)) (head-pairs x xs once) in
        let kept = others-same n xs all in
        let first = ap (λ b. length (cond (not b) (x ∷ filter (other_than n) xs) (filter (other_than n) xs))) same in
        omega (arith, first, ap length kept)
    by (inr other) rest =
        let first = ap (λ b. length (cond (not b) (x ∷ filter (other_than n) xs) (filter (other_than n) xs))) other in
        omega (arith, first, rest)

few : (n : ℕ) (xs : List ℕ) → AllPairs (λ a b. a ≢ b) xs → All (λ x. x < n) xs → length xs ≤ n
few zero [] once all = omega arith
few zero (x ∷ xs) once all = let lt = all 0 x (omega arith) in absurd (omega (arith, lt))
few (suc n) xs once all =
    let rest = few n (filter (other_than n) xs) (AllPairs-filter (λ a b. a ≢ b) (other_than n) xs once) below in
    omega (arith, others-many n xs once, rest)
  where
    below : All (λ x. x < n) (filter (other_than n) xs)
    below k d lt = at (get_or (filter (other_than n) xs) k d) (Contains-get_or (filter (other_than n) xs) k d lt)
      where
        at : (x : ℕ) → Contains (filter (other_than n) xs) x → x < n
        at x h =
            let kept = filter-cases (other_than n) xs x h in
            let low = All-contains (λ y. y < suc n) xs x all kept.among in
            by (cases_lt x n) low kept.passes
          where
            by : (x < n) ⊎ (n ≤ x) → x < suc n → not (x == n) ≡ true → x < n
            by (inl less) low p = less
            by (inr le) low p = absurd (clash (x == n) (eq-eqb x n (let same : x ≡ n = omega (arith, le, low) in same)) p)
              where
                clash : (b : Bool) → b ≡ true → not b ≡ true → ⊥
                clash true e f = absurd (cc)
                clash false e f = absurd (cc)

-- n distinct numbers below n are all of them
pub all-of : (n : ℕ) (xs : List ℕ) (v : ℕ) → AllPairs (λ a b. a ≢ b) xs → All (λ x. x < n) xs → length xs ≡ n → v < n → Contains xs v
all-of n xs v once all count lt = by (find-number xs v)
  where
    by : Contains xs v ⊎ (Contains xs v → ⊥) → Contains xs v
    by (inl h) = h
    by (inr none) =
        let more = few n (v ∷ xs)
        (AllPairs-cons (λ a b. a ≢ b) v xs (λ k d inside same. none (subst (λ x. Contains xs x) (sym same) (Contains-get_or xs k d inside))) once)
        within in
        absurd (omega (arith, more, count))
      where
        within : All (λ x. x < n) (v ∷ xs)
        within zero d inside = lt
        within (suc k) d inside = all k d (omega (arith, inside))
