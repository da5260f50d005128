-- How many items of a list a test keeps, and where they stand among those that it keeps.
use Rattle.std.proofs.Common.{◌≡◌, ℕ, zero, suc, ◌+◌, ◌-◌, ◌<◌, ◌≤◌, List, [], ◌∷◌, length, get_or, filter, Bool, true, false, refl, sym, ◌∙◌, ap, ap₂, subst, inl, inr, ◌⊎◌, arith}
use Rattle.std.specs.Prelude.{cond}
use Rattle.std.proofs.lemmas.Bool.{cases_lt}
use Rattle.gg_bits.specs.Lists.{one_if, count_below}

-- ---- numbers

one-or-none : (b : Bool) → one_if b ≤ 1
one-or-none true = omega arith
one-or-none false = omega arith

before-more : (keeps : ℕ → Bool) (m k : ℕ) → count_below keeps m ≤ count_below keeps (m + k)
before-more keeps m zero = let same : m + 0 ≡ m = omega arith in subst (λ n. count_below keeps m ≤ count_below keeps n) (sym same) (omega arith)
before-more keeps m (suc k) =
    let rest = before-more keeps m k in
    let same : m + suc k ≡ suc (m + k) = omega arith in
    subst (λ n. count_below keeps m ≤ count_below keeps n) (sym same) (omega (arith, rest))

before-up : (keeps : ℕ → Bool) (m n : ℕ) → m ≤ n → count_below keeps m ≤ count_below keeps n
before-up keeps m n le =
    let same : m + (n - m) ≡ n = omega (arith, le) in
    subst (λ n. count_below keeps m ≤ count_below keeps n) same (before-more keeps m (n - m))

-- a number that is kept is counted in what is behind it
pub before-strict : (keeps : ℕ → Bool) (m n : ℕ) → keeps m ≡ true → m < n → count_below keeps m < count_below keeps n
before-strict keeps m n kept lt =
    let up = before-up keeps (suc m) n (omega (arith, lt)) in
    let one : one_if (keeps m) ≡ 1 = ap one_if kept in
    omega (arith, up, one)

-- two numbers that are kept and have as many before them are the same
pub before-once : (keeps : ℕ → Bool) (m n : ℕ) → keeps m ≡ true → keeps n ≡ true → count_below keeps m ≡ count_below keeps n → m ≡ n
before-once keeps m n a b same = by (cases_lt m n) (cases_lt n m)
  where
    by : (m < n) ⊎ (n ≤ m) → (n < m) ⊎ (m ≤ n) → m ≡ n
    by (inl lt) other = absurd (let up = before-strict keeps m n a lt in omega (arith, up, same))
    by (inr le) (inl lt) = absurd (let up = before-strict keeps n m b lt in omega (arith, up, same))
    by (inr le) (inr ge) = omega (arith, le, ge)

-- where all are kept, as many as there are
pub before-all : (keeps : ℕ → Bool) (n : ℕ) → ((p : ℕ) → keeps p ≡ true) → count_below keeps n ≡ n
before-all keeps zero all = refl
before-all keeps (suc n) all =
    let rest = before-all keeps n all in
    let one : one_if (keeps n) ≡ 1 = ap one_if (all n) in
    omega (arith, rest, one)

-- the first number apart
pub before-front : (keeps : ℕ → Bool) (n : ℕ) → count_below keeps (suc n) ≡ one_if (keeps 0) + count_below (λ p. keeps (suc p)) n
before-front keeps zero = omega arith
before-front keeps (suc n) = let rest = before-front keeps n in omega (arith, rest)

-- no more than there are
pub before-few : (keeps : ℕ → Bool) (n : ℕ) → count_below keeps n ≤ n
before-few keeps zero = omega arith
before-few keeps (suc n) = let rest = before-few keeps n in let one = one-or-none (keeps n) in omega (arith, rest, one)

-- tests that agree below n keep as many numbers below n
pub before-same : (f g : ℕ → Bool) (n : ℕ) → ((p : ℕ) → p < n → f p ≡ g p) → count_below f n ≡ count_below g n
before-same f g zero same = refl
before-same f g (suc n) same = ap₂ (λ k b. k + one_if b) (before-same f g n (λ p lt. same p (omega (arith, lt)))) (same n (omega arith))

-- where all are kept
pub before-behind : (keeps : ℕ → Bool) (m k : ℕ) → ((p : ℕ) → m ≤ p → p < m + k → keeps p ≡ true) → count_below keeps (m + k) ≡ count_below keeps m + k
before-behind keeps m zero all = let same : m + 0 ≡ m = omega arith in ap (count_below keeps) same ∙ (let more : count_below keeps m ≡ count_below keeps m + 0 = omega arith in more)
before-behind keeps m (suc k) all =
    let rest = before-behind keeps m k (λ p ge lt. all p ge (omega (arith, lt))) in
    let same : m + suc k ≡ suc (m + k) = omega arith in
    let one : one_if (keeps (m + k)) ≡ 1 = ap one_if (all (m + k) (omega arith) (omega arith)) in
    ap (count_below keeps) same ∙ (let more : count_below keeps (m + k) + one_if (keeps (m + k)) ≡ count_below keeps m + suc k = omega (arith, rest, one) in more)

-- the number that is kept behind so many others
pub record Found (keeps : ℕ → Bool) (n k : ℕ) : Type 0 where
  pub place : ℕ
  pub known : place < n
  pub kept : keeps place ≡ true
  pub is : count_below keeps place ≡ k

pub before-found : (keeps : ℕ → Bool) (n k : ℕ) → k < count_below keeps n → Found keeps n k
before-found keeps zero k lt = absurd (omega (arith, lt))
before-found keeps (suc n) k lt = by (cases_lt k (count_below keeps n)) (keeps n) refl (before-found keeps n k)
  where
    by : (k < count_below keeps n) ⊎ (count_below keeps n ≤ k) → (b : Bool) → keeps n ≡ b → (k < count_below keeps n → Found keeps n k) → Found keeps (suc n) k
    by (inl less) b e rest = let found = rest less in record { place = found.place; known = omega (arith, found.known); kept = found.kept; is = found.is }
    by (inr ge) true e rest = let one : one_if (keeps n) ≡ 1 = ap one_if e in record { place = n; known = omega arith; kept = e; is = omega (arith, ge, lt, one) }
    by (inr ge) false e rest = absurd (let none : one_if (keeps n) ≡ 0 = ap one_if e in omega (arith, ge, lt, none))

-- ---- lists

-- how many items are kept
pub filter-count : {A : Type 0} (test : A → Bool) (xs : List A) (d : A) → count_below (λ p. test (get_or xs p d)) (length xs) ≡ length (filter test xs)
filter-count test [] d = refl
filter-count test (x ∷ xs) d = before-front (λ p. test (get_or (x ∷ xs) p d)) (length xs) ∙ ap (λ n. one_if (test x) + n) (filter-count test xs d) ∙ by (test x)
  where
    by : (b : Bool) → one_if b + length (filter test xs) ≡ length (cond b (x ∷ filter test xs) (filter test xs))
    by true = omega arith
    by false = omega arith

-- the item of a list at a place
pub record IsAt {A : Type 0} (xs : List A) (n : ℕ) (d x : A) : Type 0 where
  pub within : n < length xs
  pub is : get_or xs n d ≡ x

-- where an item that is kept stands
pub filter-place : {A : Type 0} (test : A → Bool) (xs : List A) (d : A) (p : ℕ) → p < length xs → test (get_or xs p d) ≡ true → IsAt (filter test xs) (count_below (λ q. test (get_or xs q d)) p) d (get_or xs p d)
filter-place test [] d p lt e = absurd (omega (arith, lt))
filter-place test (x ∷ xs) d zero lt e = subst (λ b. IsAt (cond b (x ∷ filter test xs) (filter test xs)) 0 d x) (sym e) (record { within = omega arith; is = refl })
filter-place test (x ∷ xs) d (suc p) lt e =
    subst (λ n. IsAt (filter test (x ∷ xs)) n d (get_or xs p d)) (sym (before-front (λ q. test (get_or (x ∷ xs) q d)) p))
    (by (test x) (count_below (λ q. test (get_or xs q d)) p) (filter-place test xs d p (omega (arith, lt)) e))
  where
    by : (b : Bool) (n : ℕ) → IsAt (filter test xs) n d (get_or xs p d) → IsAt (cond b (x ∷ filter test xs) (filter test xs)) (one_if b + n) d (get_or xs p d)
    by true n at = let same : suc n ≡ 1 + n = omega arith in subst (λ m. IsAt (x ∷ filter test xs) m d (get_or xs p d)) same (record { within = omega (arith, at.within); is = at.is })
    by false n at = let same : n ≡ 0 + n = omega arith in subst (λ m. IsAt (filter test xs) m d (get_or xs p d)) same at
