-- Ascending lists: the places of their numbers, and the lists that an increasing function makes of them.
use Rattle.std.proofs.Common.{◌≡◌, ℕ, ◌<◌, List, length, map, get_or, sym, ◌∙◌, ap, subst, inl, inr, ◌⊎◌, arith}
use Rattle.std.specs.Prelude.{Contains, AllPairs}
use Rattle.std.proofs.lemmas.Bool.{cases_order}
use Rattle.std.proofs.lemmas.List.{length-map, get_or-map}
use Rattle.std.proofs.lemmas.List.Elements.{Contains-get_or}
use Rattle.gg_flat.specs.Line.{value_at}
use Rattle.gg_flat.proofs.ListLemmas.{Contains-map}
use Rattle.gg_cut_split.proofs.ClosedLemmas.ListLemmas.{map-cases}
use Rattle.gg_cut_reference.proofs.TextLemmas.SameCutLemmas.{ascending-same}
use Rattle.gg_build.specs.plan.Built.{place_in}
use Rattle.gg_build.proofs.PlanLemmas.NumberLemmas.{placed}

-- of two numbers in an ascending list, the smaller one comes first
pub place-up : (numbers : List ℕ) (c d : ℕ) → AllPairs (λ a b. a < b) numbers → Contains numbers c → Contains numbers d → c < d → place_in numbers c < place_in numbers d
place-up numbers c d up a b lt = by (cases_order (place_in numbers c) (place_in numbers d))
  where
    by : (place_in numbers c ≡ place_in numbers d) ⊎ ((place_in numbers c < place_in numbers d) ⊎ (place_in numbers d < place_in numbers c)) → place_in numbers c < place_in numbers d
    by (inl e) =
        let same : c ≡ d = sym (placed numbers c a).is ∙ ap (value_at numbers) e ∙ (placed numbers d b).is in
        absurd (omega (arith, same, lt))
    by (inr (inl less)) = less
    by (inr (inr more)) =
        let at = placed numbers c a in
        let other = placed numbers d b in
        let down = up (place_in numbers d) (place_in numbers c) 0 more at.within in
        absurd (omega (arith, down, at.is, other.is, lt))

-- a function that is increasing on an ascending list makes an ascending list of it
pub map-up : (f : ℕ → ℕ) (xs : List ℕ) → AllPairs (λ a b. a < b) xs → ((c d : ℕ) → Contains xs c → Contains xs d → c < d → f c < f d) → AllPairs (λ a b. a < b) (map f xs)
map-up f xs up grows = λ i j any lt within.
    let inside : j < length xs = omega (arith, within, length-map xs f) in
    let low : i < length xs = omega (arith, lt, inside) in
    let less = grows (get_or xs i 0) (get_or xs j 0) (Contains-get_or xs i 0 low) (Contains-get_or xs j 0 inside) (up i j 0 lt inside) in
    omega (arith, less, get_or-map f xs i 0 any low, get_or-map f xs j 0 any inside)

-- the function makes just the numbers of the other list, in whatever order
pub record AreMadeOf (f : ℕ → ℕ) (xs ys : List ℕ) : Type 0 where
  pub into : (x : ℕ) → Contains xs x → Contains ys (f x)
  pub back : (y : ℕ) → Contains ys y → (x : ℕ) × (Contains xs x × (f x ≡ y))

-- if both lists are ascending and the function is increasing, the order is the same too
pub made-same : (f : ℕ → ℕ) (xs ys : List ℕ) → AllPairs (λ a b. a < b) xs → AllPairs (λ a b. a < b) ys → ((c d : ℕ) → Contains xs c → Contains xs d → c < d → f c < f d) → AreMadeOf f xs ys → map f xs ≡ ys
made-same f xs ys up down grows made =
    ascending-same (map f xs) ys (map-up f xs up grows) down
    (λ y has.
    let at = map-cases f xs y has in
    let x = get_or xs at.place 0 in
    subst (λ k. Contains ys k) (at.holds 0) (made.into x (Contains-get_or xs at.place 0 at.within)))
    (λ y has.
    let found = made.back y has in
    subst (λ k. Contains (map f xs) k) found.1.1 (Contains-map f xs found.0 found.1.0))
