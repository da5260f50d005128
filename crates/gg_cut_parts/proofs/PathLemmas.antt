-- Paths that are missing.
use Rattle.std.proofs.Common.{◌≡◌, ℕ, zero, suc, List, [], ◌∷◌, slice_get, refl, None}
use Rattle.gg_flat_tree.specs.Tree.{path_at}

-- where there is no path at a place, the path read there is empty
pub missing-path : (paths : List (List ℕ)) (k : ℕ) → slice_get paths k ≡ None → [] ≡ path_at paths k
missing-path [] k e = refl
missing-path (path ∷ paths) zero e = absurd (cc)
missing-path (path ∷ paths) (suc k) e = missing-path paths k e
