-- What the set's look-ups say of a list of paths.
use Rattle.std.proofs.Common.{◌≡◌, ◌≢◌, ℕ, List, get_or, true, false, Some, slice_get, sym, ◌∙◌, ap}
use Rattle.std.specs.Prelude.{Contains, AllPairs}
use Rattle.std.specs.List.{position, list_any, IsDistinct}
use Rattle.std.specs.Cmp.Lexicographic.{nat_list_eq_equiv}
use Rattle.std.specs.Str.{bytes_eq}
use Rattle.std.proofs.lemmas.Slice.Eq.{bytes_eq-Decides}
use Rattle.std.proofs.lemmas.Option.{slice_get-get_or}
use Rattle.std.proofs.lemmas.List.Quantifiers.{position-Some}
use Rattle.std.proofs.lemmas.Map.Views.{Contains-from_any, list_any-from_Contains}
use Rattle.std.proofs.lemmas.Map.Made.{AllPairs-from_IsDistinct}

-- the place that a look-up gives has the path
pub slice_get-position : (paths : List (List ℕ)) (path : List ℕ) (number : ℕ) → position (bytes_eq path) paths ≡ Some number → slice_get paths number ≡ Some path
slice_get-position paths path number found =
    let at = position-Some (bytes_eq path) paths number path found in
    slice_get-get_or paths number path at.0
    ∙ ap Some (sym ((bytes_eq-Decides path (get_or paths number path)).0 at.1))

-- a path of the list is found by the set's test
pub missing-path : (paths : List (List ℕ)) (path : List ℕ) → list_any (bytes_eq path) paths ≡ false → Contains paths path → ⊥
missing-path paths path missing member =
    let found = list_any-from_Contains nat_list_eq_equiv path paths member in
    let clash : true ≡ false = sym found ∙ missing in
    cc

-- what the set's test finds is a path of the list
pub found-path : (paths : List (List ℕ)) (path : List ℕ) → list_any (bytes_eq path) paths ≡ true → Contains paths path
found-path paths path found = Contains-from_any (λ x y. (bytes_eq-Decides x y).0) path paths found

-- paths that are distinct by `bytes_eq` differ
pub distinct-paths : (paths : List (List ℕ)) → IsDistinct bytes_eq paths → AllPairs (λ a b. a ≢ b) paths
distinct-paths paths h = AllPairs-from_IsDistinct bytes_eq-Decides paths h
