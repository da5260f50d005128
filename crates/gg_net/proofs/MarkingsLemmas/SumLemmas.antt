-- Sums over the numbers below n.
use Rattle.std.proofs.Common.{◌≡◌, ◌≢◌, ℕ, zero, suc, ◌+◌, ◌*◌, ◌<◌, ◌≤◌, List, [], ◌∷◌, length, map, refl, ap, sym, ◌∙◌, inl, inr, arith}
use Rattle.std.specs.Prelude.{◌⊎◌, if◌then◌else◌, sum, slice_index_or}
use Rattle.std.specs.List.{sum_by}
use Rattle.std.proofs.lemmas.List.Sums.{sum_by-cons, sum-map}
use Rattle.std.proofs.lemmas.Bool.{cases_eq, eq-eqb, ne_eqb}
use Rattle.gg_net.specs.inside.Counts.{one_at}
use Rattle.gg_net.specs.markings.Measure.{sum_below}

-- 1 at the number itself, else 0
pub one-here : (a b : ℕ) → a ≡ b → one_at a b ≡ 1
one-here a b same = ap (λ t. if t then 1 else 0) (eq-eqb a b same)

pub one-elsewhere : (a b : ℕ) → a ≢ b → one_at a b ≡ 0
one-elsewhere a b other = ap (λ t. if t then 1 else 0) (ne_eqb a b other)

pub one-cases : (a b : ℕ) → ((a ≡ b) × (one_at a b ≡ 1)) ⊎ ((a ≢ b) × (one_at a b ≡ 0))
one-cases a b = elim (cases_eq a b) [ inl same ↦ inl (same, one-here a b same) | inr other ↦ inr (other, one-elsewhere a b other) ]

pub sum-same : (f g : ℕ → ℕ) (n : ℕ) → ((k : ℕ) → k < n → f k ≡ g k) → sum_below f n ≡ sum_below g n
sum-same f g zero same = refl
sum-same f g (suc n) same = omega (arith, sum-same f g n (λ k lt. same k (omega (arith, lt))), same n (omega arith))

pub sum-le : (f g : ℕ → ℕ) (n : ℕ) → ((k : ℕ) → k < n → f k ≤ g k) → sum_below f n ≤ sum_below g n
sum-le f g zero le = omega arith
sum-le f g (suc n) le = omega (arith, sum-le f g n (λ k lt. le k (omega (arith, lt))), le n (omega arith))

pub sum-add : (f g : ℕ → ℕ) (n : ℕ) → sum_below (λ k. f k + g k) n ≡ sum_below f n + sum_below g n
sum-add f g zero = refl
sum-add f g (suc n) = omega (arith, sum-add f g n)

pub sum-none : (f : ℕ → ℕ) (n : ℕ) → ((k : ℕ) → k < n → f k ≡ 0) → sum_below f n ≡ 0
sum-none f zero none = refl
sum-none f (suc n) none = omega (arith, sum-none f n (λ k lt. none k (omega (arith, lt))), none n (omega arith))

pub sum-one : (f : ℕ → ℕ) (d n : ℕ) → d < n → ((k : ℕ) → k < n → f k ≡ one_at d k) → sum_below f n ≡ 1
sum-one f d zero lt one = absurd (omega (arith, lt))
sum-one f d (suc n) lt one =
    elim (cases_eq d n) [
      | inl same ↦ omega (arith, sum-none f n (λ k less. one k (omega (arith, less)) ∙ one-elsewhere d k (omega (arith, less, same))), one n (omega arith), one-here d n same)
      | inr other ↦ omega (arith, sum-one f d n (omega (arith, lt, other)) (λ k less. one k (omega (arith, less))), one n (omega arith), one-elsewhere d n other)
    ]

pub sum-each : (f : ℕ → ℕ) (k n : ℕ) → k < n → f k ≤ sum_below f n
sum-each f k zero lt = absurd (omega (arith, lt))
sum-each f k (suc n) lt =
    elim (cases_eq k n) [
      | inl same ↦ omega (arith, ap f same)
      | inr other ↦ omega (arith, sum-each f k n (omega (arith, lt, other)))
    ]

-- the sum of n equal numbers
pub sum-equal : (f : ℕ → ℕ) (a n : ℕ) → ((k : ℕ) → k < n → f k ≡ a) → sum_below f n ≡ n * a
sum-equal f a zero same = omega arith
sum-equal f a (suc n) same = omega (arith, sum-equal f a n (λ k lt. same k (omega (arith, lt))), same n (omega arith))

pub sum-times : (f : ℕ → ℕ) (a n : ℕ) → sum_below (λ k. f k * a) n ≡ sum_below f n * a
sum-times f a zero = omega arith
sum-times f a (suc n) = omega (arith, sum-times f a n)

pub sum-front : (f : ℕ → ℕ) (k n : ℕ) → k ≤ n → sum_below f k ≤ sum_below f n
sum-front f k zero le = let same : k ≡ 0 = omega (arith, le) in omega (arith, ap (sum_below f) same)
sum-front f k (suc n) le =
    elim (cases_eq k (suc n)) [
      | inl same ↦ omega (arith, ap (sum_below f) same)
      | inr other ↦ omega (arith, sum-front f k n (omega (arith, le, other)))
    ]

pub mul-over : (a b n : ℕ) → a * (b + n) ≡ a * b + a * n
mul-over a b zero = omega arith
mul-over a b (suc n) = let more : a * (b + suc n) ≡ a * (b + n) + a = omega arith in omega (arith, more, mul-over a b n)

-- the sum of a list
sum-first : (f : ℕ → ℕ) (n : ℕ) → sum_below f (suc n) ≡ f 0 + sum_below (λ k. f (suc k)) n
sum-first f zero = omega arith
sum-first f (suc n) = omega (arith, sum-first f n)

by-listed : {X : Type 0} (f : X → ℕ) (xs : List X) (none : X) → sum_by f xs ≡ sum_below (λ k. f (slice_index_or xs k none)) (length xs)
by-listed f [] none = refl
by-listed f (x ∷ xs) none = sum_by-cons f x xs ∙ ap (λ n. f x + n) (by-listed f xs none) ∙ sym (sum-first (λ k. f (slice_index_or (x ∷ xs) k none)) (length xs))

pub sum-listed : {X : Type 0} (f : X → ℕ) (xs : List X) (none : X) → sum (map f xs) ≡ sum_below (λ k. f (slice_index_or xs k none)) (length xs)
sum-listed f xs none = sum-map f xs ∙ by-listed f xs none
