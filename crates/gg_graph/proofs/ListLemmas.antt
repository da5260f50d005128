-- Elements of a list before some place.
use Rattle.std.proofs.Common.{◌≡◌, ℕ, ◌+◌, ◌<◌, ◌≤◌, List, length, get_or, take, sym, subst, ◌⊎◌}
use Rattle.std.specs.Prelude.{Contains}
use Rattle.std.proofs.lemmas.List.{take_more, take_all}
use Rattle.gg_graph.proofs.StageLemmas.{contains_cases}

-- an element before place k + 1 is before place k, or is the one at place k
pub below-more : (xs : List ℕ) (k t : ℕ) → k < length xs → Contains (take (k + 1) xs) t → Contains (take k xs) t ⊎ (t ≡ get_or xs k 0)
below-more xs k t lt h =
    contains_cases (take k xs) (get_or xs k 0) t (subst (λ (l : List ℕ). Contains l t) (take_more xs k 0 lt) h)

-- all elements are before the end
pub below-all : (xs : List ℕ) (k t : ℕ) → length xs ≤ k → Contains xs t → Contains (take k xs) t
below-all xs k t le h = subst (λ (l : List ℕ). Contains l t) (sym (take_all k xs le)) h
