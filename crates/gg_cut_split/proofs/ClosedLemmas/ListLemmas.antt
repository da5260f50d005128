-- What a list contains that is made from other lists; and pairs of its items.
pub use Rattle.gg_order.proofs.NumberLemmas.{AllPairs-append}
use Rattle.std.proofs.Common.{◌≡◌, ℕ, zero, suc, ◌+◌, ◌<◌, List, [], ◌∷◌, ◌++◌, length, map, get_or, refl, ap, subst, inl, inr, ◌⊎◌, arith}
use Rattle.std.specs.Prelude.{flat_map, Contains, All, AllPairs}
use Rattle.std.proofs.lemmas.List.Elements.{Contains-append_left, Contains-append_right, Contains-append_cases}
use Rattle.std.proofs.lemmas.List.Kept.{AllPairs-cons}
use Rattle.gg_cut_plan.specs.Channels.{flattened, numbered}
use Rattle.gg_flat.proofs.ListLemmas.{Contains-cases}

-- ---- what a list contains

-- the item at a place of a list has a property
pub record Somewhere {A : Type 0} (P : A → Type 0) (xs : List A) : Type 0 where
  pub place : ℕ
  pub within : place < length xs
  pub holds : (d : A) → P (get_or xs place d)

pub Somewhere-later : {A : Type 0} (P : A → Type 0) (x : A) (xs : List A) → Somewhere P xs → Somewhere P (x ∷ xs)
Somewhere-later P x xs s = record { place = suc s.place; within = omega (arith, s.within); holds = s.holds }

pub map-cases : {A B : Type 0} (f : A → B) (xs : List A) (y : B) → Contains (map f xs) y → Somewhere (λ x. f x ≡ y) xs
map-cases f [] y h = absurd (omega (arith, h.1))
map-cases f (x ∷ xs) y h = by (Contains-cases (f x) y (map f xs) h) (λ r. map-cases f xs y r)
  where
    by : (f x ≡ y) ⊎ Contains (map f xs) y → (Contains (map f xs) y → Somewhere (λ x. f x ≡ y) xs) → Somewhere (λ x. f x ≡ y) (x ∷ xs)
    by (inl e) rest = record { place = 0; within = omega arith; holds = λ d. e }
    by (inr r) rest = Somewhere-later (λ x. f x ≡ y) x xs (rest r)

-- ---- lists of lists

pub flattened-in : {A B : Type 0} (f : A → List B) (xs : List A) (i : ℕ) (d : A) (y : B) → i < length xs → Contains (f (get_or xs i d)) y → Contains (flattened f xs) y
flattened-in f [] i d y lt h = absurd (omega (arith, lt))
flattened-in f (x ∷ xs) zero d y lt h = Contains-append_left (f x) (flattened f xs) y h
flattened-in f (x ∷ xs) (suc i) d y lt h = Contains-append_right (f x) (flattened f xs) y (flattened-in f xs i d y (omega (arith, lt)) h)

pub flattened-cases : {A B : Type 0} (f : A → List B) (xs : List A) (y : B) → Contains (flattened f xs) y → Somewhere (λ x. Contains (f x) y) xs
flattened-cases f [] y h = absurd (omega (arith, h.1))
flattened-cases f (x ∷ xs) y h = by (Contains-append_cases (f x) (flattened f xs) y h) (λ r. flattened-cases f xs y r)
  where
    by : Contains (f x) y ⊎ Contains (flattened f xs) y → (Contains (flattened f xs) y → Somewhere (λ x. Contains (f x) y) xs) → Somewhere (λ x. Contains (f x) y) (x ∷ xs)
    by (inl a) rest = record { place = 0; within = omega arith; holds = λ d. a }
    by (inr r) rest = Somewhere-later (λ x. Contains (f x) y) x xs (rest r)

pub flat_map-is : {A B : Type 0} (f : A → List B) (xs : List A) → flat_map f xs ≡ flattened f xs
flat_map-is f [] = refl
flat_map-is f (x ∷ xs) = ap (λ l. f x ++ l) (flat_map-is f xs)

pub numbered-in : {A B : Type 0} (f : ℕ → A → List B) (n : ℕ) (xs : List A) (i : ℕ) (d : A) (y : B) → i < length xs → Contains (f (n + i) (get_or xs i d)) y → Contains (numbered f n xs) y
numbered-in f n [] i d y lt h = absurd (omega (arith, lt))
numbered-in f n (x ∷ xs) zero d y lt h =
    Contains-append_left (f n x) (numbered f (suc n) xs) y (subst (λ k. Contains (f k x) y) (let same : n + 0 ≡ n = omega arith in same) h)
numbered-in f n (x ∷ xs) (suc i) d y lt h =
    Contains-append_right (f n x) (numbered f (suc n) xs) y
    (numbered-in f (suc n) xs i d y (omega (arith, lt)) (subst (λ k. Contains (f k (get_or xs i d)) y) (let same : n + suc i ≡ suc n + i = omega arith in same) h))

-- the item is among what f makes of an item of the list and that item's number
pub record IsNumbered {A B : Type 0} (f : ℕ → A → List B) (n : ℕ) (xs : List A) (y : B) : Type 0 where
  pub place : ℕ
  pub within : place < length xs
  pub among : (d : A) → Contains (f (n + place) (get_or xs place d)) y

pub numbered-cases : {A B : Type 0} (f : ℕ → A → List B) (n : ℕ) (xs : List A) (y : B) → Contains (numbered f n xs) y → IsNumbered f n xs y
numbered-cases f n [] y h = absurd (omega (arith, h.1))
numbered-cases f n (x ∷ xs) y h = by (Contains-append_cases (f n x) (numbered f (suc n) xs) y h) (λ r. numbered-cases f (suc n) xs y r)
  where
    by : Contains (f n x) y ⊎ Contains (numbered f (suc n) xs) y → (Contains (numbered f (suc n) xs) y → IsNumbered f (suc n) xs y) → IsNumbered f n (x ∷ xs) y
    by (inl a) rest = record { place = 0; within = omega arith; among = λ d. subst (λ k. Contains (f k x) y) (let same : n ≡ n + 0 = omega arith in same) a }
    by (inr r) rest =
        let k = rest r in
        record {
          place = suc k.place;
          within = omega (arith, k.within);
          among = λ d. subst (λ j. Contains (f j (get_or xs k.place d)) y) (let same : suc n + k.place ≡ n + suc k.place = omega arith in same) (k.among d);
        }

-- ---- pairs

pub pairs-nil : {A : Type 0} (R : A → A → Type 0) → AllPairs R []
pairs-nil R i j d less lt = absurd (omega (arith, lt))

pub AllPairs-flattened : {A B : Type 0} (R : B → B → Type 0) (f : A → List B) (xs : List A) → All (λ x. AllPairs R (f x)) xs → AllPairs (λ x y. (a b : B) → Contains (f x) a → Contains (f y) b → R a b) xs → AllPairs R (flattened f xs)
AllPairs-flattened R f [] each cross = pairs-nil R
AllPairs-flattened R f (x ∷ xs) each cross =
    AllPairs-append R (f x) (flattened f xs) (each 0 x (omega arith))
    (AllPairs-flattened R f xs (λ k d lt. each (suc k) d (omega (arith, lt))) (λ i j d less lt. cross (suc i) (suc j) d (omega (arith, less)) (omega (arith, lt))))
    (λ a b p q.
    let s = flattened-cases f xs b q in
    cross 0 (suc s.place) x (omega arith) (omega (arith, s.within)) a b p (s.holds x))

pub AllPairs-map : {A B : Type 0} (R : B → B → Type 0) (f : A → B) (xs : List A) → AllPairs (λ x y. R (f x) (f y)) xs → AllPairs R (map f xs)
AllPairs-map {A = A} R f [] pairs = pairs-nil R
AllPairs-map {A = A} R f (x ∷ xs) pairs =
    AllPairs-cons R (f x) (map f xs) (each xs (λ k d lt. pairs 0 (suc k) d (omega arith) (omega (arith, lt))))
    (AllPairs-map R f xs (λ i j d less lt. pairs (suc i) (suc j) d (omega (arith, less)) (omega (arith, lt))))
  where
    each : (ys : List A) → All (λ y. R (f x) (f y)) ys → All (R (f x)) (map f ys)
    each [] all k d lt = absurd (omega (arith, lt))
    each (y ∷ ys) all zero d lt = all 0 y (omega arith)
    each (y ∷ ys) all (suc k) d lt = each ys (λ j e inside. all (suc j) e (omega (arith, inside))) k d (omega (arith, lt))
