-- Which instances hold a signal: the innermost that does, and those that it lies in.
use Rattle.std.proofs.Common.{◌≡◌, ◌≢◌, ℕ, zero, suc, ◌<◌, ◌≤◌, length, true, refl, sym, ◌∙◌, ap, subst, Some, None, inl, inr, ◌⊎◌, true-eqb, arith}
use Rattle.std.specs.Prelude.{Option, ◌==◌}
use Rattle.std.proofs.lemmas.Bool.{cases_lt, cases_eq, or_cases, or_right}
use Rattle.gg_flat.specs.Circuit.{FlatCircuit}
use Rattle.gg_flat_tree.specs.Tree.{InstanceTree, IsTree, IsInnermost, Holds, instance_at, parent_place}
use Rattle.gg_cut_plan.specs.Listed.{lies}
use Rattle.gg_cut_plan.specs.inside.Listed.{ParentsBefore}
use Rattle.gg_cut_plan.proofs.ChainLemmas.{lies-parent, lies-alone, lies-self}
use Rattle.gg_cut_plan.proofs.KnownLemmas.{parents-before}

module _ (circuit : FlatCircuit) (tree : InstanceTree) (fits : IsTree circuit tree) where
  parents : ParentsBefore tree
  parents = parents-before circuit tree fits

  -- ---- what an instance lies in

  -- instance k has a parent, which stands before it and lies in instance i
  pub record Climbs (k i : ℕ) : Type 0 where
    pub parent : ℕ
    pub is : (instance_at tree k).parent ≡ Some parent
    pub before : parent < k
    pub lies : lies tree parent i ≡ true

  pub climbs : (k i : ℕ) → k < length tree.instances → lies tree k i ≡ true → (k ≡ i) ⊎ Climbs k i
  climbs k i lt e = by (instance_at tree k).parent refl
    where
      by : (parent : Option ℕ) → (instance_at tree k).parent ≡ parent → (k ≡ i) ⊎ Climbs k i
      by None p = inl (true-eqb k i (sym (sym (lies-alone tree parents k i lt p) ∙ e)))
      by (Some q) p = or (or_cases (k == i) (lies tree q i) (sym (lies-parent tree parents k q i lt p) ∙ e))
        where
          or : ((k == i) ≡ true) ⊎ (lies tree q i ≡ true) → (k ≡ i) ⊎ Climbs k i
          or (inl same) = inl (true-eqb k i (sym same))
          or (inr up) = inr (record { parent = q; is = p; before = parents k q lt p; lies = up })

  pub lies-up : (k q i : ℕ) → k < length tree.instances → (instance_at tree k).parent ≡ Some q → lies tree q i ≡ true → lies tree k i ≡ true
  lies-up k q i lt p e = lies-parent tree parents k q i lt p ∙ or_right (k == i) (lies tree q i) e

  -- instance i stands no later than instance k, and holds all signals that k holds
  pub record Above (k i : ℕ) : Type 0 where
    pub low : i ≤ k
    pub holds : (s : ℕ) → Holds (instance_at tree k) s → Holds (instance_at tree i) s

  held-above : (k q : ℕ) → k < length tree.instances → (instance_at tree k).parent ≡ Some q → (s : ℕ) → Holds (instance_at tree k) s → Holds (instance_at tree q) s
  held-above k q lt p s holds =
      let lower = parents k q lt p in
      let below = fits.below k (omega (arith, lower)) lt in
      let same : below.above ≡ q = ap parent_place (sym below.parent ∙ p) in
      subst (λ a. Holds (instance_at tree a) s) same (omega (arith, below.first, holds.0), omega (arith, below.last, holds.1))

  above-by : (fuel k i : ℕ) → k ≤ fuel → k < length tree.instances → lies tree k i ≡ true → Above k i
  above-by zero k i le lt e = by (climbs k i lt e)
    where
      by : (k ≡ i) ⊎ Climbs k i → Above k i
      by (inl same) = record { low = omega (arith, same); holds = λ s holds. subst (λ j. Holds (instance_at tree j) s) same holds }
      by (inr c) = absurd (omega (arith, c.before, le))
  above-by (suc fuel) k i le lt e = by (climbs k i lt e) (λ q l m n. above-by fuel q i l m n)
    where
      by : (k ≡ i) ⊎ Climbs k i → ((q : ℕ) → q ≤ fuel → q < length tree.instances → lies tree q i ≡ true → Above q i) → Above k i
      by (inl same) rest = record { low = omega (arith, same); holds = λ s holds. subst (λ j. Holds (instance_at tree j) s) same holds }
      by (inr c) rest =
          let up = rest c.parent (omega (arith, c.before, le)) (omega (arith, c.before, lt)) c.lies in
          record { low = omega (arith, up.low, c.before); holds = λ s holds. up.holds s (held-above k c.parent lt c.is s holds) }

  pub above : (k i : ℕ) → k < length tree.instances → lies tree k i ≡ true → Above k i
  above k i lt e = above-by k k i (omega arith) lt e

  lies-top-by : (fuel k : ℕ) → k ≤ fuel → k < length tree.instances → lies tree k 0 ≡ true
  lies-top-by fuel zero le lt = lies-self tree parents 0 lt
  lies-top-by zero (suc k) le lt = absurd (omega (arith, le))
  lies-top-by (suc fuel) (suc k) le lt =
      let below = fits.below (suc k) (omega arith) lt in
      lies-up (suc k) below.above 0 lt below.parent (lies-top-by fuel below.above (omega (arith, below.before, le)) (omega (arith, below.before, lt)))

  -- every instance lies in the top
  pub lies-top : (k : ℕ) → k < length tree.instances → lies tree k 0 ≡ true
  lies-top k lt = lies-top-by k k (omega arith) lt

  -- ---- the innermost instance

  -- instance k lies in an instance whose parent is p
  pub record Between (k p : ℕ) : Type 0 where
    pub child : ℕ
    pub known : child < length tree.instances
    pub parent : (instance_at tree child).parent ≡ Some p
    pub lies : lies tree k child ≡ true

  between-by : (fuel k p : ℕ) → k ≤ fuel → k < length tree.instances → lies tree k p ≡ true → k ≢ p → Between k p
  between-by zero k p le lt e other = by (climbs k p lt e)
    where
      by : (k ≡ p) ⊎ Climbs k p → Between k p
      by (inl same) = absurd (other same)
      by (inr c) = absurd (omega (arith, c.before, le))
  between-by (suc fuel) k p le lt e other = by (climbs k p lt e) (λ q l m n o. between-by fuel q p l m n o)
    where
      by : (k ≡ p) ⊎ Climbs k p → ((q : ℕ) → q ≤ fuel → q < length tree.instances → lies tree q p ≡ true → q ≢ p → Between q p) → Between k p
      by (inl same) rest = absurd (other same)
      by (inr c) rest = at (cases_eq c.parent p)
        where
          at : (c.parent ≡ p) ⊎ (c.parent ≡ p → ⊥) → Between k p
          at (inl same) = record { child = k; known = lt; parent = c.is ∙ ap Some same; lies = lies-self tree parents k lt }
          at (inr ne) =
              let deeper = rest c.parent (omega (arith, c.before, le)) (omega (arith, c.before, lt)) c.lies ne in
              record { child = deeper.child; known = deeper.known; parent = deeper.parent; lies = lies-up k c.parent deeper.child lt c.is deeper.lies }

  between : (k p : ℕ) → k < length tree.instances → lies tree k p ≡ true → k ≢ p → Between k p
  between k p lt e other = between-by k k p (omega arith) lt e other

  lies-holder-by : (fuel k s i : ℕ) → i ≤ fuel → IsInnermost tree k s → i < length tree.instances → Holds (instance_at tree i) s → lies tree k i ≡ true
  lies-holder-by fuel k s zero le inner lt holds = lies-top k inner.known
  lies-holder-by zero k s (suc i) le inner lt holds = absurd (omega (arith, le))
  lies-holder-by (suc fuel) k s (suc i) le inner lt holds =
      let below = fits.below (suc i) (omega arith) lt in
      let within : below.above < length tree.instances = omega (arith, below.before, lt) in
      by below.above within below.parent (lies-holder-by fuel k s below.above (omega (arith, below.before, le)) inner within (held-above (suc i) below.above lt below.parent s holds))
    where
      by : (p : ℕ) → p < length tree.instances → (instance_at tree (suc i)).parent ≡ Some p → lies tree k p ≡ true → lies tree k (suc i) ≡ true
      by p within parent up = at (cases_eq k p)
        where
          at : (k ≡ p) ⊎ (k ≡ p → ⊥) → lies tree k (suc i) ≡ true
          at (inl same) = absurd (inner.deeper (suc i) lt (parent ∙ ap Some (sym same)) holds)
          at (inr other) =
              let c = between k p inner.known up other in
              let held = (above k c.child inner.known c.lies).holds s inner.holds in
              one c held (cases_lt c.child (suc i)) (cases_lt (suc i) c.child)
            where
              disjoint : (a b : ℕ) → Holds (instance_at tree a) s → Holds (instance_at tree b) s → ((instance_at tree a).end ≤ (instance_at tree b).first) ⊎ ((instance_at tree b).end ≤ (instance_at tree a).first) → ⊥
              disjoint a b x y (inl le) = omega (arith, x.0, x.1, y.0, y.1, le)
              disjoint a b x y (inr le) = omega (arith, x.0, x.1, y.0, y.1, le)

              one : (c : Between k p) → Holds (instance_at tree c.child) s → (c.child < suc i) ⊎ (suc i ≤ c.child) → (suc i < c.child) ⊎ (c.child ≤ suc i) → lies tree k (suc i) ≡ true
              one c held (inl less) more = absurd (disjoint c.child (suc i) held holds (fits.apart c.child (suc i) p less lt c.parent parent))
              one c held (inr le) (inl less) = absurd (disjoint (suc i) c.child holds held (fits.apart (suc i) c.child p less c.known parent c.parent))
              one c held (inr le) (inr ge) = subst (λ j. lies tree k j ≡ true) (let same : c.child ≡ suc i = omega (arith, le, ge) in same) c.lies

  -- the innermost instance that holds a signal lies in each that does
  pub lies-holder : (k s i : ℕ) → IsInnermost tree k s → i < length tree.instances → Holds (instance_at tree i) s → lies tree k i ≡ true
  lies-holder k s i inner lt holds = lies-holder-by i k s i (omega arith) inner lt holds

  -- a signal is innermost in one instance only
  pub innermost-one : (k j s : ℕ) → IsInnermost tree k s → IsInnermost tree j s → k ≡ j
  innermost-one k j s a b =
      let up = above k j a.known (lies-holder k s j a b.known b.holds) in
      let down = above j k b.known (lies-holder j s k b a.known a.holds) in
      omega (arith, up.low, down.low)

  -- ---- each signal is innermost in an instance

  pub record Innermost (s : ℕ) : Type 0 where
    pub place : ℕ
    pub is : IsInnermost tree place s

  decide-holds : (k s : ℕ) → Holds (instance_at tree k) s ⊎ (Holds (instance_at tree k) s → ⊥)
  decide-holds k s = by (cases_lt s (instance_at tree k).first) (cases_lt s (instance_at tree k).end)
    where
      by : (s < (instance_at tree k).first) ⊎ ((instance_at tree k).first ≤ s) → (s < (instance_at tree k).end) ⊎ ((instance_at tree k).end ≤ s) → Holds (instance_at tree k) s ⊎ (Holds (instance_at tree k) s → ⊥)
      by (inl lt) q = inr (λ h. omega (arith, lt, h.0))
      by (inr le) (inl lt) = inl (le, lt)
      by (inr le) (inr ge) = inr (λ h. omega (arith, ge, h.1))

  last-holder : (n s : ℕ) → n ≤ length tree.instances → ((i : ℕ) → n ≤ i → i < length tree.instances → Holds (instance_at tree i) s → ⊥) → Holds (instance_at tree 0) s → Innermost s
  last-holder zero s le none top = absurd (none 0 (omega arith) fits.top.there top)
  last-holder (suc n) s le none top = by (decide-holds n s) (λ rest. last-holder n s (omega (arith, le)) rest top)
    where
      by : Holds (instance_at tree n) s ⊎ (Holds (instance_at tree n) s → ⊥) → (((i : ℕ) → n ≤ i → i < length tree.instances → Holds (instance_at tree i) s → ⊥) → Innermost s) → Innermost s
      by (inl holds) rest =
          record {
            place = n;
            is = record { known = omega (arith, le); holds = holds; deeper = λ i lt parent held. none i (let lower = parents i n lt parent in omega (arith, lower)) lt held };
          }
      by (inr empty) rest = rest (λ i low lt held. at i low lt held (cases_eq i n))
        where
          at : (i : ℕ) → n ≤ i → i < length tree.instances → Holds (instance_at tree i) s → (i ≡ n) ⊎ (i ≡ n → ⊥) → ⊥
          at i low lt held (inl same) = empty (subst (λ j. Holds (instance_at tree j) s) same held)
          at i low lt held (inr other) = after (cases_lt n i)
            where
              after : (n < i) ⊎ (i ≤ n) → ⊥
              after (inl more) = none i (omega (arith, more)) lt held
              after (inr less) = other (omega (arith, low, less))

  pub innermost : (s : ℕ) → s < length circuit.signals → Innermost s
  innermost s lt =
      last-holder (length tree.instances) s (omega arith) (λ i low inside held. absurd (omega (arith, low, inside)))
      (omega (arith, fits.top.first), omega (arith, fits.top.all, lt))

  pub innermost-known : (k s : ℕ) → IsInnermost tree k s → s < length circuit.signals
  innermost-known k s inner = let inside = (fits.each k inner.known).inside in let holds = inner.holds in omega (arith, inside, holds.1)
