-- The numbers below n that pass a test, number by number.
use Rattle.std.proofs.Common.{◌≡◌, ℕ, zero, suc, ◌+◌, ◌<◌, ◌≤◌, List, [], ◌∷◌, ◌++◌, length, Bool, true, false, refl, sym, ◌∙◌, ap, subst, arith}
use Rattle.std.specs.Prelude.{filter, cond, if◌then◌else◌, All}
use Rattle.std.specs.List.{range_with_len}
use Rattle.std.proofs.lemmas.List.Elements.{filter-append}

range-suc : (a n : ℕ) → range_with_len a (suc n) ≡ range_with_len a n ++ (a + n) ∷ []
range-suc a zero = ap (λ x. x ∷ []) (let same : a ≡ a + 0 = omega arith in same)
range-suc a (suc n) = ap (λ l. a ∷ l) (range-suc (a + 1) n ∙ ap (λ x. range_with_len (a + 1) n ++ x ∷ []) (let same : a + 1 + n ≡ a + suc n = omega arith in same))

pub filter-more : (test : ℕ → Bool) (n : ℕ) → filter test (range_with_len 0 (n + 1)) ≡ filter test (range_with_len 0 n) ++ (if test n then n ∷ [] else [])
filter-more test n =
    ap (λ m. filter test (range_with_len 0 m)) (let same : n + 1 ≡ suc n = omega arith in same)
    ∙ ap (filter test) (range-suc 0 n ∙ ap (λ x. range_with_len 0 n ++ x ∷ []) (let same : 0 + n ≡ n = omega arith in same))
    ∙ filter-append test (range_with_len 0 n) (n ∷ [])
    ∙ ap (λ l. filter test (range_with_len 0 n) ++ l) (by (test n))
  where
    by : (b : Bool) → cond b (n ∷ []) [] ≡ (if b then n ∷ [] else [])
    by true = refl
    by false = refl

-- the numbers from a on that pass are below a + n, and there are at most n of them
pub filter-below : (test : ℕ → Bool) (a n : ℕ) (xs : List ℕ) → xs ≡ filter test (range_with_len a n) → All (λ k. k < a + n) xs
filter-below test a n xs is = subst (λ (l : List ℕ). All (λ k. k < a + n) l) (sym is) (each a n)
  where
    cons : (b : Bool) (x : ℕ) (rest : List ℕ) (m : ℕ) → x < m → All (λ k. k < m) rest → All (λ k. k < m) (cond b (x ∷ rest) rest)
    cons true x rest m lt all = first
      where
        first : All (λ k. k < m) (x ∷ rest)
        first zero d within = lt
        first (suc k) d within = all k d (omega arith)
    cons false x rest m lt all = all

    each : (a n : ℕ) → All (λ k. k < a + n) (filter test (range_with_len a n))
    each a zero = λ k d lt. absurd (omega arith)
    each a (suc n) = cons (test a) a (filter test (range_with_len (a + 1) n)) (a + suc n) (omega arith) (λ k d lt. let below = each (a + 1) n k d lt in omega (arith, below))

pub filter-few : (test : ℕ → Bool) (a n : ℕ) → length (filter test (range_with_len a n)) ≤ n
filter-few test a zero = omega arith
filter-few test a (suc n) = by (test a) (filter-few test (a + 1) n)
  where
    by : (b : Bool) → length (filter test (range_with_len (a + 1) n)) ≤ n → length (cond b (a ∷ filter test (range_with_len (a + 1) n)) (filter test (range_with_len (a + 1) n))) ≤ suc n
    by true le = omega (arith, le)
    by false le = omega (arith, le)
