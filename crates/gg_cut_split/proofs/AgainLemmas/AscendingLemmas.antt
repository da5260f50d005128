-- Ascending lists of numbers: two with the same numbers are equal, also if the numbers of one stand as far behind another start.
use Rattle.std.proofs.Common.{◌≡◌, ℕ, suc, ◌<◌, ◌≤◌, List, [], ◌∷◌, map, get_or, refl, sym, ap₂, subst, inl, inr, ◌⊎◌, arith}
use Rattle.std.specs.Prelude.{All, AllPairs, Contains}
use Rattle.std.proofs.lemmas.List.Elements.{Contains-get_or}
use Rattle.gg_flat.proofs.ListLemmas.{Contains-cases, Contains-map, here, further}
use Rattle.gg_part.specs.Moved.{shifted}
use Rattle.gg_cut_split.proofs.ClosedLemmas.ListLemmas.{map-cases, AllPairs-map}

abbrev pub Ascends : List ℕ → Type 0
Ascends xs = AllPairs (λ a b. a < b) xs

-- the first of an ascending list is less than the others
first-least : (x : ℕ) (xs : List ℕ) (y : ℕ) → Ascends (x ∷ xs) → Contains xs y → x < y
first-least x xs y up (k, lt, is) = subst (λ z. x < z) is (up 0 (suc k) y (omega arith) (omega (arith, lt)))

rest-ascends : (x : ℕ) (xs : List ℕ) → Ascends (x ∷ xs) → Ascends xs
rest-ascends x xs up i j d lt within = up (suc i) (suc j) d (omega (arith, lt)) (omega (arith, within))

-- each list has the first of the other, so the firsts are equal
first-same : (x y : ℕ) (xs ys : List ℕ) → Ascends (x ∷ xs) → Ascends (y ∷ ys) → (y ≡ x) ⊎ Contains ys x → (x ≡ y) ⊎ Contains xs y → x ≡ y
first-same x y xs ys up down (inl e) k = sym e
first-same x y xs ys up down (inr h) (inl e) = e
first-same x y xs ys up down (inr h) (inr k) = let a = first-least y ys x down h in let b = first-least x xs y up k in absurd (omega (arith, a, b))

-- what is in the rest of one list is in the rest of the other
rest-in : (x y : ℕ) (xs ys : List ℕ) → x ≡ y → Ascends (x ∷ xs) → ((d : ℕ) → Contains (x ∷ xs) d → Contains (y ∷ ys) d) → (d : ℕ) → Contains xs d → Contains ys d
rest-in x y xs ys same up into d h = by (Contains-cases y d ys (into d (further x xs d h)))
  where
    by : (y ≡ d) ⊎ Contains ys d → Contains ys d
    by (inl e) = let less = first-least x xs d up h in absurd (omega (arith, less, same, e))
    by (inr k) = k

ascending-same : (xs ys : List ℕ) → Ascends xs → Ascends ys → ((d : ℕ) → Contains xs d → Contains ys d) → ((d : ℕ) → Contains ys d → Contains xs d) → xs ≡ ys
ascending-same [] [] up down into back = refl
ascending-same [] (y ∷ ys) up down into back = let h = back y (here y ys) in absurd (omega (arith, h.1))
ascending-same (x ∷ xs) [] up down into back = let h = into x (here x xs) in absurd (omega (arith, h.1))
ascending-same (x ∷ xs) (y ∷ ys) up down into back =
    let same = first-same x y xs ys up down (Contains-cases y x ys (into x (here x xs))) (Contains-cases x y xs (back y (here y ys))) in
    ap₂ (λ z zs. z ∷ zs) same
    (ascending-same xs ys (rest-ascends x xs up) (rest-ascends y ys down) (rest-in x y xs ys same up into) (rest-in y x ys xs (sym same) down back))

-- numbers behind a start ascend behind another too
shifted-ascends : (from to : ℕ) (xs : List ℕ) → All (λ x. from ≤ x) xs → Ascends xs → Ascends (map (shifted from to) xs)
shifted-ascends from to xs behind up =
    AllPairs-map (λ a b. a < b) (shifted from to) xs
    (λ i j d less lt. let order = up i j d less lt in let low = behind i d (omega (arith, less, lt)) in let high = behind j d lt in omega (arith, order, low, high))

-- Two ascending lists that have each other's numbers as far behind two starts are the same list, but for these starts.
pub counterparts-same : (from to : ℕ) (xs ys : List ℕ) → Ascends xs → Ascends ys → ((x : ℕ) → Contains xs x → (from ≤ x) × Contains ys (shifted from to x)) → ((y : ℕ) → Contains ys y → (to ≤ y) × Contains xs (shifted to from y)) → ys ≡ map (shifted from to) xs
counterparts-same from to xs ys up down there back =
    ascending-same ys (map (shifted from to) xs) down
    (shifted-ascends from to xs (λ k d lt. (there (get_or xs k d) (Contains-get_or xs k d lt)).0) up)
    (λ y h.
    let at = back y h in
    subst (Contains (map (shifted from to) xs)) (let same : shifted from to (shifted to from y) ≡ y = (let low = at.0 in omega (arith, low)) in same) (Contains-map (shifted from to) xs (shifted to from y) at.1))
    (λ y h.
    let at = map-cases (shifted from to) xs y h in
    subst (Contains ys) (at.holds 0) (there (get_or xs at.place 0) (Contains-get_or xs at.place 0 at.within)).1)
