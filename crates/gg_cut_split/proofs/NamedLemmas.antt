-- The capacities of channels by their signals.
use Rattle.std.proofs.Common.{◌≡◌, ◌≢◌, ℕ, ◌<◌, List, [], length, set, get_or, slice_get, Bool, true, false, refl, sym, ◌∙◌, ap, Some, arith}
use Rattle.std.specs.Prelude.{AllPairs, bytes_eq, if◌then◌else◌}
use Rattle.std.proofs.lemmas.List.{get_or-set_other}
use Rattle.std.proofs.lemmas.Grind.{get_or-set_at}
use Rattle.std.proofs.lemmas.Slice.Eq.{bytes_eq-Decides}
use Rattle.gg_flat_tree.specs.Tree.{path_at}
use Rattle.gg_flat.proofs.ListLemmas.{once-apart}
use Rattle.gg_cut_plan.proofs.PathLemmas.{HoldsPath, holds-path}

-- setting a number at a path's signal sets it for this path and no other
pub named-set : (paths : List (List ℕ)) (path : List ℕ) (signal capacity : ℕ) (table : List ℕ) → AllPairs (λ a b. a ≢ b) paths → slice_get paths signal ≡ Some path → length table ≡ length paths → (s : ℕ) → s < length paths
    → get_or (set table signal capacity) s 0 ≡ (if bytes_eq path (path_at paths s) then capacity else get_or table s 0)
named-set paths path signal capacity table once found count s lt = by (bytes_eq path (path_at paths s)) refl
  where
    holds : HoldsPath paths signal path
    holds = holds-path paths signal path found

    by : (b : Bool) → bytes_eq path (path_at paths s) ≡ b → get_or (set table signal capacity) s 0 ≡ (if b then capacity else get_or table s 0)
    by true e =
        let same : s ≡ signal = once-apart paths [] once s signal lt holds.within (sym ((bytes_eq-Decides path (path_at paths s)).0 e) ∙ sym holds.is) in
        get_or-set_at table signal s capacity 0 same (omega (arith, holds.within, count))
    by false e =
        let other : s ≢ signal = λ same. absurd (clash (sym e ∙ (bytes_eq-Decides path (path_at paths s)).1 (sym (ap (path_at paths) same ∙ holds.is)))) in
        get_or-set_other table signal s capacity 0 other
      where
        clash : false ≡ true → ⊥
        clash e = absurd (cc)
