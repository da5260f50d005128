-- What a list contains, what `map` and `filter` make of it, and the numbers of a range.
use Rattle.std.proofs.Common.{◌≡◌, ◌≢◌, ℕ, zero, suc, ◌+◌, ◌<◌, ◌≤◌, List, [], ◌∷◌, length, map, get_or, Bool, true, false, true≢false, refl, sym, ◌∙◌, ap, subst, inl, inr, ◌⊎◌, arith, ap₂}
use Rattle.std.specs.Prelude.{filter, cond, Contains, AllPairs}
use Rattle.std.specs.List.{range_with_len}
use Rattle.std.proofs.lemmas.Bool.{cases_lt, cases_Bool}
use Rattle.std.proofs.lemmas.List.{length-map, get_or-map, get_or_default}
use Rattle.std.proofs.lemmas.List.FromFn.{get_or-range_with_len, length-range_with_len}
use Rattle.std.proofs.lemmas.List.Kept.{AllPairs-filter}

-- some item of a list that isn't empty
pub some-item : {A : Type 0} (xs : List A) (k : ℕ) → k < length xs → A
some-item [] k lt = absurd (omega (arith, lt))
some-item (x ∷ xs) k lt = x

-- ---- what a list contains

pub here : {A : Type 0} (x : A) (xs : List A) → Contains (x ∷ xs) x
here x xs = (0, omega arith, refl)

pub further : {A : Type 0} (x : A) (xs : List A) (y : A) → Contains xs y → Contains (x ∷ xs) y
further x xs y c = (suc c.0, omega (arith, c.1), c.2)

pub Contains-cases : {A : Type 0} (x y : A) (xs : List A) → Contains (x ∷ xs) y → (x ≡ y) ⊎ Contains xs y
Contains-cases x y xs (zero, lt, is) = inl is
Contains-cases x y xs (suc k, lt, is) = inr (k, omega (arith, lt), is)

pub Contains-map : {A B : Type 0} (f : A → B) (xs : List A) (x : A) → Contains xs x → Contains (map f xs) (f x)
Contains-map f xs x c = (c.0, omega (arith, c.1, length-map xs f), get_or-map f xs c.0 x (f x) c.1 ∙ ap f c.2)

pub map-same : {A B : Type 0} (f g : A → B) (xs : List A) → ((x : A) → f x ≡ g x) → map f xs ≡ map g xs
map-same f g [] same = refl
map-same f g (x ∷ xs) same = ap₂ (λ y l. y ∷ l) (same x) (map-same f g xs same)

-- what holds of the first i items holds of one more, if it holds of the next item
pub first-more : {X : Type 0} (P : X → Type 0) (xs : List X) (i : ℕ) (x : X) → i < length xs → x ≡ get_or xs i x → P x → ((k : ℕ) (d : X) → k < i → P (get_or xs k d)) → (k : ℕ) (d : X) → k < i + 1 → P (get_or xs k d)
first-more P xs i x lt is holds before k d low = go (cases_lt k i)
  where
    go : (k < i) ⊎ (i ≤ k) → P (get_or xs k d)
    go (inl less) = before k d less
    go (inr ge) =
        let last : i ≡ k = omega (arith, ge, low) in
        subst P (is ∙ get_or_default xs i x d lt ∙ ap (λ n. get_or xs n d) last) holds

-- ---- what a filter leaves

pub Contains-filter : {A : Type 0} (test : A → Bool) (xs : List A) (x : A) → Contains xs x → test x ≡ true → Contains (filter test xs) x
Contains-filter test [] x h e = absurd (omega (arith, h.1))
Contains-filter test (y ∷ ys) x h e = by (Contains-cases y x ys h) (λ r. Contains-filter test ys x r e) (cases_Bool (test y))
  where
    by : (y ≡ x) ⊎ Contains ys x → (Contains ys x → Contains (filter test ys) x) → (test y ≡ true) ⊎ (test y ≡ false) → Contains (filter test (y ∷ ys)) x
    by (inl same) rest (inl t) = subst (λ b. Contains (cond b (y ∷ filter test ys) (filter test ys)) x) (sym t) (0, omega arith, same)
    by (inl same) rest (inr t) = absurd (true≢false (sym e ∙ ap test (sym same) ∙ t))
    by (inr r) rest (inl t) = subst (λ b. Contains (cond b (y ∷ filter test ys) (filter test ys)) x) (sym t) (further y (filter test ys) x (rest r))
    by (inr r) rest (inr t) = subst (λ b. Contains (cond b (y ∷ filter test ys) (filter test ys)) x) (sym t) (rest r)

-- the item is in the list and passes the test
pub record IsKept {A : Type 0} (test : A → Bool) (xs : List A) (x : A) : Type 0 where
  pub among : Contains xs x
  pub passes : test x ≡ true

pub filter-cases : {A : Type 0} (test : A → Bool) (xs : List A) (x : A) → Contains (filter test xs) x → IsKept test xs x
filter-cases test [] x h = absurd (omega (arith, h.1))
filter-cases test (y ∷ ys) x h = by (cases_Bool (test y)) (λ r. filter-cases test ys x r)
  where
    later : IsKept test ys x → IsKept test (y ∷ ys) x
    later k = record { among = further y ys x k.among; passes = k.passes }

    by : (test y ≡ true) ⊎ (test y ≡ false) → (Contains (filter test ys) x → IsKept test ys x) → IsKept test (y ∷ ys) x
    by (inl t) rest = at (Contains-cases y x (filter test ys) (subst (λ b. Contains (cond b (y ∷ filter test ys) (filter test ys)) x) t h))
      where
        at : (y ≡ x) ⊎ Contains (filter test ys) x → IsKept test (y ∷ ys) x
        at (inl same) = record { among = (0, omega arith, same); passes = ap test (sym same) ∙ t }
        at (inr r) = later (rest r)
    by (inr t) rest = later (rest (subst (λ b. Contains (cond b (y ∷ filter test ys) (filter test ys)) x) t h))

-- ---- numbers

pub in-range : (n c : ℕ) → c < n → Contains (range_with_len 0 n) c
in-range n c lt =
    (c, omega (arith, lt, length-range_with_len 0 n), get_or-range_with_len 0 n c c lt ∙ (let same : 0 + c ≡ c = omega arith in same))

pub range-below : (n c : ℕ) → Contains (range_with_len 0 n) c → c < n
range-below n c h =
    let lt : h.0 < n = omega (arith, h.1, length-range_with_len 0 n) in
    let is = sym (get_or-range_with_len 0 n h.0 c lt) ∙ h.2 in
    omega (arith, lt, is)

-- the numbers below n that pass a test are ascending
pub numbers-up : (test : ℕ → Bool) (n : ℕ) → AllPairs (λ a b. a < b) (filter test (range_with_len 0 n))
numbers-up test n = AllPairs-filter (λ a b. a < b) test (range_with_len 0 n)
    (λ i j d lt inside.
    let high : j < n = omega (arith, inside, length-range_with_len 0 n) in
    omega (arith, lt, get_or-range_with_len 0 n i d (omega (arith, lt, high)), get_or-range_with_len 0 n j d high))

-- in a list of distinct items, equal items stand at the same place
pub once-apart : {X : Type 0} (xs : List X) (d : X) → AllPairs (λ a b. a ≢ b) xs → (i j : ℕ) → i < length xs → j < length xs → get_or xs i d ≡ get_or xs j d → i ≡ j
once-apart xs d once i j li lj same = by (cases_lt i j) (cases_lt j i)
  where
    by : (i < j) ⊎ (j ≤ i) → (j < i) ⊎ (i ≤ j) → i ≡ j
    by (inl lt) q = absurd (once i j d lt lj same)
    by (inr le) (inl lt) = absurd (once j i d lt li (sym same))
    by (inr le) (inr ge) = omega (arith, le, ge)
