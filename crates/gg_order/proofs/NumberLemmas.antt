-- Lists of distinct numbers, whether a number stands in a list, and how many numbers below n there are.
use Rattle.std.proofs.Common.{◌≡◌, ◌≢◌, ℕ, suc, ◌<◌, ◌≤◌, List, [], ◌∷◌, ◌++◌, length, get_or, Bool, true, false, true≢false, eqb, eq-eqb, true-eqb, refl, sym, ◌∙◌, ap, subst, inl, inr, ◌⊎◌, arith}
use Rattle.std.specs.Prelude.{All, AllPairs, Contains, ◌==◌, ◌||◌}
use Rattle.std.specs.List.{list_any, range_with_len}
use Rattle.std.proofs.lemmas.Bool.{cases_Bool}
use Rattle.std.proofs.lemmas.Bool.Decides.{Decides-eqb}
use Rattle.std.proofs.lemmas.List.Elements.{All-contains, Contains-append_cases, Contains-get_or}
use Rattle.std.proofs.lemmas.List.FromFn.{get_or-range_with_len, length-range_with_len}
use Rattle.std.proofs.lemmas.List.Kept.{AllPairs-cons}
use Rattle.std.proofs.lemmas.Map.Keys.{IsDistinct-from_apart}
use Rattle.std.proofs.lemmas.Map.Steps.{length-le_from_distinct_below}
use Rattle.std.proofs.lemmas.Map.Views.{Contains-from_any}
use Rattle.gg_flat.proofs.ListLemmas.{here, further, Contains-cases}

-- ---- whether a number is there

pub any-is : (xs : List ℕ) (s : ℕ) → list_any (λ t. t == s) xs ≡ true → Contains xs s
any-is [] s e = absurd (true≢false (sym e))
any-is (x ∷ xs) s e = by (x == s) refl e (any-is xs s)
  where
    by : (b : Bool) → (x == s) ≡ b → list_any (λ t. t == s) (x ∷ xs) ≡ true → (list_any (λ t. t == s) xs ≡ true → Contains xs s) → Contains (x ∷ xs) s
    by true is h rest = (0, omega arith, true-eqb x s (sym is))
    by false is h rest =
        let more = rest (subst (λ (b : Bool). (b || list_any (λ t. t == s) xs) ≡ true) is h) in
        (suc more.0, omega (arith, more.1), more.2)

pub any-has : (xs : List ℕ) (s : ℕ) → Contains xs s → list_any (λ t. t == s) xs ≡ true
any-has [] s h = absurd (omega (arith, h.1))
any-has (x ∷ xs) s h = by (x == s) refl (Contains-cases x s xs h) (any-has xs s)
  where
    by : (b : Bool) → (x == s) ≡ b → (x ≡ s) ⊎ Contains xs s → (Contains xs s → list_any (λ t. t == s) xs ≡ true) → list_any (λ t. t == s) (x ∷ xs) ≡ true
    by true is c rest = ap (λ (b : Bool). b || list_any (λ t. t == s) xs) is
    by false is (inl same) rest = absurd (true≢false (sym (eq-eqb x s same) ∙ is))
    by false is (inr r) rest = ap (λ (b : Bool). b || list_any (λ t. t == s) xs) is ∙ rest r

-- ---- distinct numbers

pub behind-once : (a n : ℕ) → AllPairs (λ x y. x ≢ y) (range_with_len a n)
behind-once a n i j d less lt same =
    let second : j < n = omega (arith, lt, length-range_with_len a n) in
    let first : i < n = omega (arith, less, second) in
    let x = get_or-range_with_len a n i d first in
    let y = get_or-range_with_len a n j d second in
    omega (arith, x, y, same, less)

pub AllPairs-append : {A : Type 0} (R : A → A → Type 0) (xs ys : List A) → AllPairs R xs → AllPairs R ys → ((x y : A) → Contains xs x → Contains ys y → R x y) → AllPairs R (xs ++ ys)
AllPairs-append R [] ys a b cross = b
AllPairs-append R (x ∷ xs) ys a b cross =
    AllPairs-cons R x (xs ++ ys) first
    (AllPairs-append R xs ys (λ i j d less lt. a (suc i) (suc j) d (omega (arith, less)) (omega (arith, lt))) b (λ u v p q. cross u v (further x xs u p) q))
  where
    first : All (R x) (xs ++ ys)
    first k d lt = by (Contains-append_cases xs ys (get_or (xs ++ ys) k d) (Contains-get_or (xs ++ ys) k d lt))
      where
        by : Contains xs (get_or (xs ++ ys) k d) ⊎ Contains ys (get_or (xs ++ ys) k d) → R x (get_or (xs ++ ys) k d)
        by (inl p) = subst (λ y. R x y) p.2 (a 0 (suc p.0) (get_or (xs ++ ys) k d) (omega arith) (omega (arith, p.1)))
        by (inr q) = cross x (get_or (xs ++ ys) k d) (here x xs) q

-- there are at most n distinct numbers below n
pub length-once : (xs : List ℕ) (n : ℕ) → AllPairs (λ a b. a ≢ b) xs → All (λ x. x < n) xs → length xs ≤ n
length-once xs n once below =
    length-le_from_distinct_below xs n (IsDistinct-from_apart eqb xs (λ i j d before within. by i j d (once i j d before within) (cases_Bool (eqb (get_or xs i d) (get_or xs j d)))))
    (λ q found. All-contains (λ x. x < n) xs q below (Contains-from_any (λ x y. (Decides-eqb x y).0) q xs found))
  where
    by : (i j d : ℕ) → (get_or xs i d ≢ get_or xs j d) → (eqb (get_or xs i d) (get_or xs j d) ≡ true) ⊎ (eqb (get_or xs i d) (get_or xs j d) ≡ false) → eqb (get_or xs i d) (get_or xs j d) ≡ false
    by i j d ne (inl same) = absurd (ne ((Decides-eqb (get_or xs i d) (get_or xs j d)).0 same))
    by i j d ne (inr other) = other
