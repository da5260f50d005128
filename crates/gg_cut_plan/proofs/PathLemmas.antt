-- Places of paths, and sets of paths.
use Rattle.std.proofs.Common.{◌≡◌, ◌≢◌, ℕ, zero, suc, ◌<◌, ◌≤◌, List, [], ◌∷◌, length, get_or, take, Bool, true, false, true≢false, refl, sym, ◌∙◌, ap, subst, Some, None, slice_get, arith}
use Rattle.std.specs.Prelude.{Option, IfSome, IfNone, MatchOption, option_map, Contains, AllPairs, bytes_eq, ◌||◌, if◌then◌else◌}
use Rattle.std.specs.List.{list_any}
use Rattle.std.proofs.lemmas.List.Folds.{list_any_at}
use Rattle.std.proofs.lemmas.Slice.Eq.{bytes_eq-Decides}
use Rattle.std.proofs.lemmas.Option.{same_Some}
use Rattle.gg_bits.proofs.PathLemmas.{found-path}
use Rattle.gg_flat.proofs.ListLemmas.{once-apart}
use Rattle.gg_cut_plan.specs.Listed.{first_place, place_of, is_among}

-- the test holds at place i
pub record IsPlace {A : Type 0} (test : A → Bool) (xs : List A) (i : ℕ) : Type 0 where
  pub within : i < length xs
  pub passes : (d : A) → test (get_or xs i d) ≡ true

module _ {A : Type 0} (test : A → Bool) where
  pub place-tells : (xs : List A) → MatchOption (first_place test xs) (list_any test xs ≡ false) (IsPlace test xs)
  place-tells [] = refl
  place-tells (x ∷ xs) = by (test x) refl (first_place test xs) (place-tells xs)
    where
      by : (b : Bool) → test x ≡ b → (r : Option ℕ) → MatchOption r (list_any test xs ≡ false) (IsPlace test xs) → MatchOption (if b then Some 0 else option_map suc r) ((test x || list_any test xs) ≡ false) (IsPlace test (x ∷ xs))
      by true e r rest = record { within = omega arith; passes = λ d. e }
      by false e None rest = ap (λ t. t || list_any test xs) e ∙ rest
      by false e (Some i) rest = record { within = omega (arith, rest.within); passes = rest.passes }

  pub first_place-Some : (xs : List A) (i : ℕ) → first_place test xs ≡ Some i → IsPlace test xs i
  first_place-Some xs i found = subst (λ r. MatchOption r (list_any test xs ≡ false) (IsPlace test xs)) found (place-tells xs)

  pub first_place-None : (xs : List A) → first_place test xs ≡ None → list_any test xs ≡ false
  first_place-None xs none = subst (λ r. MatchOption r (list_any test xs ≡ false) (IsPlace test xs)) none (place-tells xs)

-- the list has this path at place k
pub record HoldsPath (paths : List (List ℕ)) (k : ℕ) (path : List ℕ) : Type 0 where
  pub within : k < length paths
  pub is : get_or paths k [] ≡ path

pub holds-path : (paths : List (List ℕ)) (k : ℕ) (path : List ℕ) → slice_get paths k ≡ Some path → HoldsPath paths k path
holds-path [] k path found = absurd (cc)
holds-path (p ∷ ps) zero path found = record { within = omega arith; is = same_Some p path found }
holds-path (p ∷ ps) (suc k) path found = let rest = holds-path ps k path found in record { within = omega (arith, rest.within); is = rest.is }

-- what a look-up finds is the first place of the path
pub look-up : (paths : List (List ℕ)) (path : List ℕ) (result : Option ℕ) → AllPairs (λ a b. a ≢ b) paths → IfSome result (λ k. slice_get paths k ≡ Some path) → IfNone result (¬ Contains paths path) → result ≡ place_of paths path
look-up paths path result once found missing = by result found missing (place_of paths path) refl
  where
    by : (result : Option ℕ) → IfSome result (λ k. slice_get paths k ≡ Some path) → IfNone result (¬ Contains paths path) → (place : Option ℕ) → place_of paths path ≡ place → result ≡ place
    by None found missing None e = refl
    by None found missing (Some j) e =
        let at = first_place-Some (bytes_eq path) paths j e in
        absurd (missing (j, at.within, sym ((bytes_eq-Decides path (get_or paths j path)).0 (at.passes path))))
    by (Some k) found missing None e =
        let holds = holds-path paths k path found in
        let any : list_any (bytes_eq path) paths ≡ true = list_any_at (bytes_eq path) paths k [] holds.within ((bytes_eq-Decides path (get_or paths k [])).1 (sym holds.is)) in
        absurd (true≢false (sym any ∙ first_place-None (bytes_eq path) paths e))
    by (Some k) found missing (Some j) e =
        let holds = holds-path paths k path found in
        let at = first_place-Some (bytes_eq path) paths j e in
        ap Some (once-apart paths [] once k j holds.within at.within (holds.is ∙ (bytes_eq-Decides path (get_or paths j [])).0 (at.passes [])))

-- a path that a look-up finds is in the set, and one that it doesn't find isn't
pub among-found : (paths : List (List ℕ)) (path : List ℕ) (k : ℕ) → slice_get paths k ≡ Some path → is_among paths path ≡ true
among-found paths path k found =
    let holds = holds-path paths k path found in
    list_any_at (bytes_eq path) paths k [] holds.within ((bytes_eq-Decides path (get_or paths k [])).1 (sym holds.is))

pub among-missing : (paths : List (List ℕ)) (path : List ℕ) → ¬ Contains paths path → is_among paths path ≡ false
among-missing paths path missing = by (is_among paths path) refl
  where
    by : (b : Bool) → is_among paths path ≡ b → b ≡ false
    by true e = absurd (missing (found-path paths path e))
    by false e = refl

-- the set has exactly the paths that stand before place i
pub record Includes (paths : List (List ℕ)) (i : ℕ) (set : List (List ℕ)) : Type 0 where
  pub same : (path : List ℕ) → is_among set path ≡ is_among (take i paths) path
  pub few : length set ≤ i

pub among-contains : (paths : List (List ℕ)) (path : List ℕ) → Contains paths path → is_among paths path ≡ true
among-contains paths path (k, lt, is) = list_any_at (bytes_eq path) paths k path lt ((bytes_eq-Decides path (get_or paths k path)).1 (sym is))
