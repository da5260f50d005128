-- The table of the places of numbers, while it is filled; and how many distinct numbers there can be.
use Rattle.std.proofs.Common.{◌≡◌, ◌≢◌, ℕ, ◌+◌, ◌<◌, ◌≤◌, ◌⊎◌, List, length, set, sym, ◌∙◌, ap, inl, inr, arith}
use Rattle.std.specs.Prelude.{All}
use Rattle.std.proofs.lemmas.Bool.{cases_eq, cases_lt}
use Rattle.std.proofs.lemmas.List.{get_or-set_same, get_or-set_other, length-set}
use Rattle.gg_flat.specs.Line.{value_at}
use Rattle.gg_part.specs.inside.Numbers.{ArePlaces}

pub ArePlaces-none : (items places : List ℕ) → ArePlaces items 0 places
ArePlaces-none items places = record { known = λ k lt. absurd (omega arith); within = λ k lt. absurd (omega arith); found = λ k lt. absurd (omega arith) }

-- the table has the place of number s: it is below `count`, and s stands there
record IsPlaced (items : List ℕ) (count : ℕ) (places : List ℕ) (s : ℕ) : Type 0 where
  pub within : value_at places s < count
  pub found : value_at items (value_at places s) ≡ s

placed-here : (items places : List ℕ) (k s : ℕ) → value_at items k < length places → s ≡ value_at items k → IsPlaced items (k + 1) (set places (value_at items k) k) s
placed-here items places k s room same =
    let at : value_at (set places (value_at items k) k) s ≡ k = ap (value_at (set places (value_at items k) k)) same ∙ get_or-set_same places (value_at items k) k 0 room in
    record { within = omega (arith, at); found = ap (value_at items) at ∙ sym same }

placed-before : (items places : List ℕ) (k s : ℕ) → s ≢ value_at items k → IsPlaced items k places s → IsPlaced items (k + 1) (set places (value_at items k) k) s
placed-before items places k s ne before =
    let at : value_at (set places (value_at items k) k) s ≡ value_at places s = get_or-set_other places (value_at items k) s k 0 ne in
    record { within = omega (arith, at, before.within); found = ap (value_at items) at ∙ before.found }

placed : (items places : List ℕ) (k j : ℕ) → value_at items k < length places → ArePlaces items k places → j < k + 1 → IsPlaced items (k + 1) (set places (value_at items k) k) (value_at items j)
placed items places k j room are lt = by (cases_eq (value_at items j) (value_at items k)) (cases_lt j k)
  where
    by : (value_at items j ≡ value_at items k) ⊎ (value_at items j ≡ value_at items k → ⊥) → (j < k) ⊎ (k ≤ j) → IsPlaced items (k + 1) (set places (value_at items k) k) (value_at items j)
    by (inl same) q = placed-here items places k (value_at items j) room same
    by (inr ne) (inl before) = placed-before items places k (value_at items j) ne (record { within = are.within j before; found = are.found j before })
    by (inr ne) (inr le) = absurd (ne (ap (value_at items) (let same : j ≡ k = omega arith in same)))

-- the next number's place is written
pub ArePlaces-more : (items places : List ℕ) (k : ℕ) → All (λ s. s < length places) items → k < length items → ArePlaces items k places → ArePlaces items (k + 1) (set places (value_at items k) k)
ArePlaces-more items places k below lt are =
    let room = below k 0 lt in
    record {
      known = λ j before. omega (arith, below j 0 (omega arith), length-set places (value_at items k) k);
      within = λ j before. (placed items places k j room are before).within;
      found = λ j before. (placed items places k j room are before).found;
    }
