-- Pairs of items of joined lists and of images, and what stands before an item.
pub use Rattle.gg_order.proofs.NumberLemmas.{AllPairs-append}
use Rattle.std.proofs.Common.{◌≡◌, ◌≢◌, ℕ, zero, suc, ◌+◌, ◌<◌, List, [], ◌∷◌, length, map, take, Bool, true, false, true≢false, refl, sym, ◌∙◌, ap, length-take, arith}
use Rattle.std.specs.Prelude.{cond, filter, Contains, AllPairs}
use Rattle.std.proofs.lemmas.List.{get_or-map, get_or-take, get_or_default, length-map}
use Rattle.std.proofs.lemmas.List.Elements.{Contains-get_or}
use Rattle.gg_flat.specs.Line.{value_at}
use Rattle.gg_flat.proofs.ListLemmas.{further}

-- numbers moved by as many are distinct if they were
pub moved-once : (n : ℕ) (xs : List ℕ) → AllPairs (λ a b. a ≢ b) xs → AllPairs (λ a b. a ≢ b) (map (λ s. n + s) xs)
moved-once n xs once i j d less lt same =
    let second : j < length xs = omega (arith, lt, length-map xs (λ s. n + s)) in
    let first : i < length xs = omega (arith, less, second) in
    let a = get_or-map (λ s. n + s) xs i 0 d first in
    let b = get_or-map (λ s. n + s) xs j 0 d second in
    once i j 0 less second (omega (arith, same, a, b))

-- a moved number, by the number before
pub moved-cases : (n : ℕ) (xs : List ℕ) (t : ℕ) → Contains (map (λ s. n + s) xs) t → (k : ℕ) × Contains xs k × (n + k ≡ t)
moved-cases n xs t h =
    let lt : h.0 < length xs = omega (arith, h.1, length-map xs (λ s. n + s)) in
    (value_at xs h.0, Contains-get_or xs h.0 0 lt, sym (get_or-map (λ s. n + s) xs h.0 0 t lt) ∙ h.2)

pub in-take : (list : List ℕ) (i j t : ℕ) → j < i → j < length list → value_at list j ≡ t → Contains (take i list) t
in-take list i j t less lt e = (j, omega (arith, less, lt, length-take i list), get_or-take i list j t less ∙ get_or_default list j t 0 lt ∙ e)

-- ---- what a filter leaves keeps its order

module _ (test : ℕ → Bool) where
  ahead : (x : ℕ) (xs : List ℕ) (i b p q : ℕ) (bl : Bool) → test x ≡ bl
      → ((i p q : ℕ) → i < length (filter test xs) → p < q → q < length xs → value_at xs p ≡ b → value_at xs q ≡ value_at (filter test xs) i → Contains (take i (filter test xs)) b)
      → ((k : ℕ) → k < length xs → value_at xs k ≢ x)
      → test b ≡ true
      → i < length (cond bl (x ∷ filter test xs) (filter test xs)) → p < q → q < suc (length xs) → value_at (x ∷ xs) p ≡ b → value_at (x ∷ xs) q ≡ value_at (cond bl (x ∷ filter test xs) (filter test xs)) i
      → Contains (take i (cond bl (x ∷ filter test xs) (filter test xs))) b
  ahead x xs i b p zero bl e rest none holds lt less within first second = absurd (omega (arith, less))
  ahead x xs zero b p (suc q) true e rest none holds lt less within first second = absurd (none q (omega (arith, within)) second)
  ahead x xs (suc i) b zero (suc q) true e rest none holds lt less within first second = (0, omega arith, first)
  ahead x xs (suc i) b (suc p) (suc q) true e rest none holds lt less within first second =
      further x (take i (filter test xs)) b (rest i p q (omega (arith, lt)) (omega (arith, less)) (omega (arith, within)) first second)
  ahead x xs i b zero (suc q) false e rest none holds lt less within first second = absurd (true≢false (sym holds ∙ ap test (sym first) ∙ e))
  ahead x xs i b (suc p) (suc q) false e rest none holds lt less within first second = rest i p q lt (omega (arith, less)) (omega (arith, within)) first second

  pub filter-before : (xs : List ℕ) (i b p q : ℕ) → AllPairs (λ a c. a ≢ c) xs → test b ≡ true → i < length (filter test xs) → p < q → q < length xs → value_at xs p ≡ b → value_at xs q ≡ value_at (filter test xs) i → Contains (take i (filter test xs)) b
  filter-before [] i b p q once holds lt less within first second = absurd (omega (arith, within))
  filter-before (x ∷ xs) i b p q once holds lt less within first second =
      ahead x xs i b p q (test x) refl
      (λ i p q. filter-before xs i b p q (λ k l d a c. once (suc k) (suc l) d (omega (arith, a)) (omega (arith, c))) holds)
      (λ k low same. once 0 (suc k) 0 (omega arith) (omega (arith, low)) (sym same))
      holds lt less within first second
