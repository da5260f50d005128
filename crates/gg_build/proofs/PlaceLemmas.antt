-- The places of channels, written list by list.
use Rattle.std.proofs.Common.{◌≡◌, ℕ, ◌+◌, ◌<◌, ◌≤◌, List, [], length, get_or, map, refl, sym, ap, subst, ◌∙◌, inl, inr, arith}
use Rattle.std.specs.Prelude.{◌⊎◌, Contains, slice_set}
use Rattle.std.proofs.lemmas.Bool.{cases_lt, cases_eq}
use Rattle.std.proofs.lemmas.List.{get_or-map, get_or-set_same, get_or-set_other, length-set, get_or_default}
use Rattle.gg_flat.specs.Line.{value_at}
use Rattle.gg_cut_split.proofs.ClosedLemmas.MakerLemmas.{find-number}
use Rattle.gg_build.specs.inside.Wires.{IsPlaceAt, IsNoted, channels_at, IsPlace, AreListed, ArePlaces}

-- ---- one list

-- The places of the channels at the first k places are written.
pub record AreNoted (channels : List ℕ) (k : ℕ) (old new : List ℕ) : Type 0 where
  pub count : length new ≡ length old
  pub placed : (i : ℕ) → i < k → IsPlaceAt channels (value_at channels i) (value_at new (value_at channels i))
  pub others : (c : ℕ) → ((i : ℕ) → i < k → value_at channels i ≡ c → ⊥) → value_at new c ≡ value_at old c

pub noted-none : (channels old : List ℕ) → AreNoted channels 0 old old
noted-none channels old = record { count = refl; placed = λ i lt. absurd (omega arith); others = λ c none. refl }

pub noted-more : (channels : List ℕ) (k : ℕ) (old new : List ℕ) → k < length channels → value_at channels k < length old → AreNoted channels k old new → AreNoted channels (k + 1) old (slice_set new (value_at channels k) k)
noted-more channels k old new lt low was =
    record {
      count = length-set new c k ∙ was.count;
      placed = λ i below. placed i below (cases_eq (value_at channels i) c);
      others = λ d none.
          get_or-set_other new c d k 0 (λ e. none k (omega arith) (sym e))
          ∙ was.others d (λ i below e. none i (omega arith) e);
    }
  where
    c : ℕ
    c = value_at channels k

    here : value_at (slice_set new c k) c ≡ k
    here = get_or-set_same new c k 0 (omega (arith, low, was.count))

    placed : (i : ℕ) → i < k + 1 → (value_at channels i ≡ c) ⊎ ((value_at channels i ≡ c) → ⊥) → IsPlaceAt channels (value_at channels i) (value_at (slice_set new c k) (value_at channels i))
    placed i below (inl same) =
        let at : IsPlaceAt channels c (value_at (slice_set new c k) c) = record { known = omega (arith, here, lt); is = ap (value_at channels) here } in
        subst (λ d. IsPlaceAt channels d (value_at (slice_set new c k) d)) (sym same) at
    placed i below (inr other) =
        let before : i < k = by (cases_lt i k) in
        subst (IsPlaceAt channels (value_at channels i)) (sym (get_or-set_other new c (value_at channels i) k 0 other)) (was.placed i before)
      where
        by : (i < k) ⊎ (k ≤ i) → i < k
        by (inl less) = less
        by (inr more) = absurd (other (ap (value_at channels) (let same : i ≡ k = omega arith in same)))

pub noted-all : (channels old new : List ℕ) → AreNoted channels (length channels) old new → IsNoted channels old new
noted-all channels old new was =
    record {
      count = was.count;
      placed = λ c has.
          let is : value_at channels has.0 ≡ c = get_or_default channels has.0 0 c has.1 ∙ has.2 in
          subst (λ d. IsPlaceAt channels d (value_at new d)) is (was.placed has.0 has.1);
      others = λ c none. was.others c (λ i lt e. none (i, lt, get_or_default channels i c 0 lt ∙ e));
    }

-- ---- one list after another

-- Each channel in the lists of the first m machines has its place.
pub record ArePlacedTo (lists : List (List ℕ)) (count m : ℕ) (places : List ℕ) : Type 0 where
  pub total : length places ≡ count
  pub each : (k c : ℕ) → k < m → k < length lists → Contains (channels_at lists k) c → IsPlace lists c (value_at places c)

pub placed-none : (lists : List (List ℕ)) (count : ℕ) (places : List ℕ) → length places ≡ count → ArePlacedTo lists count 0 places
placed-none lists count places is = record { total = is; each = λ k c lt. absurd (omega arith) }

pub placed-more : (lists : List (List ℕ)) (count m : ℕ) (old new : List ℕ) → m < length lists → ArePlacedTo lists count m old → IsNoted (channels_at lists m) old new → ArePlacedTo lists count (m + 1) new
placed-more lists count m old new lt was noted =
    record { total = noted.count ∙ was.total; each = λ k c below there has. by k c below there has (find-number (channels_at lists m) c) }
  where
    by : (k c : ℕ) → k < m + 1 → k < length lists → Contains (channels_at lists k) c → Contains (channels_at lists m) c ⊎ (Contains (channels_at lists m) c → ⊥) → IsPlace lists c (value_at new c)
    by k c below there has (inl in_m) = record { at_machine = m; there = lt; place = noted.placed c in_m }
    by k c below there has (inr none) = subst (IsPlace lists c) (sym (noted.others c none)) (was.each k c (before (cases_lt k m)) there has)
      where
        before : (k < m) ⊎ (m ≤ k) → k < m
        before (inl less) = less
        before (inr more) = absurd (none (subst (λ i. Contains (channels_at lists i) c) (let same : k ≡ m = omega arith in same) has))

pub placed-all : (lists : List (List ℕ)) (count : ℕ) (places : List ℕ) → AreListed lists count → ArePlacedTo lists count (length lists) places → ArePlaces lists count places
placed-all lists count places are was =
    record { total = was.total; each = λ c lt. let at = are.listed c lt in was.each at.0 c at.1 at.1 at.2 }

-- the list of an item, by the item's number
pub listed-at : {A : Type 0} (f : A → List ℕ) (items : List A) (m : ℕ) (item : A) (list : List ℕ) → m < length items → item ≡ get_or items m item → list ≡ f item → channels_at (map f items) m ≡ list
listed-at f items m item list lt is same = get_or-map f items m item [] lt ∙ ap f (sym is) ∙ sym same
