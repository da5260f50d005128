-- What the map's look-ups say of a list of named things.
use Rattle.std.proofs.Common.{◌≡◌, ℕ, List, map, Option, None, Some, true, false, is_some, true≢false, slice_get, refl, sym, ◌∙◌}
use Rattle.std.specs.Prelude.{Contains, IfSome, IfNone}
use Rattle.std.specs.List.{position}
use Rattle.std.specs.Map.{lookup}
use Rattle.std.specs.Str.{bytes_eq}
use Rattle.std.proofs.lemmas.Map.Made.{is_some-lookup}
use Rattle.gg_bits.proofs.PathLemmas.{slice_get-position, missing-path, found-path}

-- the place that a look-up gives has the name
pub slice_get-found : (names : List (List ℕ)) (name : List ℕ) (place : Option ℕ) → place ≡ position (bytes_eq name) names → IfSome place (λ k. slice_get names k ≡ Some name)
slice_get-found names name None is = tt
slice_get-found names name (Some k) is = slice_get-position names name k (sym is)

module _ {X : Type 0} (items : List (List ℕ × X)) (name : List ℕ) where
  -- a name that a look-up finds is one of the names
  pub found-name : is_some (lookup (bytes_eq name) items) ≡ true → Contains (map (λ item. item.0) items) name
  found-name found = found-path (map (λ item. item.0) items) name (sym (is_some-lookup (bytes_eq name) items) ∙ found)

  -- a name that no look-up finds is none of the names
  pub missing-name : is_some (lookup (bytes_eq name) items) ≡ false → Contains (map (λ item. item.0) items) name → ⊥
  missing-name missing = missing-path (map (λ item. item.0) items) name (sym (is_some-lookup (bytes_eq name) items) ∙ missing)

  pub missing-place : (place : Option ℕ) → is_some place ≡ is_some (lookup (bytes_eq name) items) → IfNone place (Contains (map (λ item. item.0) items) name → ⊥)
  missing-place None is = missing-name (sym is)
  missing-place (Some k) is = tt

-- a look-up without a value gives none
pub none-found : {X : Type 0} (found : Option X) → is_some found ≡ false → found ≡ None
none-found None is = refl
none-found (Some x) is = absurd (true≢false is)
