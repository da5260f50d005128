-- The places of numbers in a list.
use Rattle.std.proofs.Common.{◌≡◌, ℕ, ◌<◌, List, length, map, get_or, sym, ◌∙◌, ap, subst, arith}
use Rattle.std.specs.Prelude.{All, Contains}
use Rattle.std.proofs.lemmas.List.{get_or-map, length-map, same_lists, get_or_default}
use Rattle.gg_flat.specs.Line.{value_at}
use Rattle.gg_part.specs.inside.Numbers.{ArePlaces}

-- ---- places

-- numbers of a list are below what all of the list's are below
pub known-below : (list numbers : List ℕ) (n : ℕ) → All (λ s. s < n) list → All (λ s. Contains list s) numbers → All (λ s. s < n) numbers
known-below list numbers n below known k d lt =
    let c = known k d lt in
    subst (λ s. s < n) c.2 (below c.0 (get_or numbers k d) c.1)

record IsPlaceOf (list : List ℕ) (s place : ℕ) : Type 0 where
  pub within : place < length list
  pub is : value_at list place ≡ s

place-found : (list places : List ℕ) (s : ℕ) → ArePlaces list (length list) places → Contains list s → IsPlaceOf list s (value_at places s)
place-found list places s are c =
    let same : value_at list c.0 ≡ s = get_or_default list c.0 0 s c.1 ∙ c.2 in
    record {
      within = subst (λ t. value_at places t < length list) same (are.within c.0 c.1);
      is = subst (λ t. value_at list (value_at places t) ≡ t) same (are.found c.0 c.1);
    }

module _ (list places numbers found : List ℕ) (are : ArePlaces list (length list) places) (known : All (λ s. Contains list s) numbers) (is : found ≡ map (value_at places) numbers) where
  at-number : (k : ℕ) → k < length numbers → IsPlaceOf list (value_at numbers k) (value_at found k)
  at-number k lt =
      subst (IsPlaceOf list (value_at numbers k)) (sym (ap (λ l. value_at l k) is ∙ get_or-map (value_at places) numbers k 0 0 lt))
      (place-found list places (value_at numbers k) are (known k 0 lt))

  count : length found ≡ length numbers
  count = ap length is ∙ length-map numbers (value_at places)

  pub found-within : All (λ place. place < length list) found
  found-within k d lt =
      let at = at-number k (omega (arith, lt, count)) in
      subst (λ p. p < length list) (get_or_default found k 0 d lt) at.within

  pub found-are : map (value_at list) found ≡ numbers
  found-are =
      same_lists (map (value_at list) found) numbers (length-map found (value_at list) ∙ count)
      (λ k d below.
      let low : k < length found = omega (arith, below, length-map found (value_at list)) in
      let lt : k < length numbers = omega (arith, low, count) in
      get_or-map (value_at list) found k 0 d low ∙ (at-number k lt).is ∙ get_or_default numbers k 0 d lt)
