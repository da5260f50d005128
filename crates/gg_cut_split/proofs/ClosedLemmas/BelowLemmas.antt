-- Which paths of a tree hold others: an instance's path holds those of all that lies in it, a memory's path those of its fields.
use Rattle.std.proofs.Common.{◌≡◌, ◌≢◌, ℕ, zero, suc, ◌<◌, ◌≤◌, List, [], length, true, sym, ◌∙◌, ap, subst, Some, inl, inr, ◌⊎◌, arith}
use Rattle.gg_flat.specs.Circuit.{FlatCircuit}
use Rattle.gg_flat_tree.specs.Tree.{InstanceTree, IsTree, IsInnermost, IsJustBelow, path_at, instance_at, memory_at, parent_place}
use Rattle.gg_flat_tree.specs.Scoped.{IsScoped, IsFieldOf, IsMemoryField}
use Rattle.gg_flat.proofs.ListLemmas.{once-apart}
use Rattle.gg_cut_plan.specs.Listed.{lies}
use Rattle.gg_cut_plan.specs.inside.Listed.{ParentsBefore}
use Rattle.gg_cut_plan.proofs.ChainLemmas.{lies-self}
use Rattle.gg_cut_plan.proofs.KnownLemmas.{parents-before}
use Rattle.gg_cut_split.specs.inside.Longest.{HoldsPath, Covers}
use Rattle.gg_cut_split.proofs.ClosedLemmas.TreeLemmas.{climbs, Climbs, lies-up, above}
use Rattle.gg_cut_split.proofs.ClosedLemmas.NameLemmas.{named}
use Rattle.gg_cut_split.proofs.ClosedLemmas.HoldLemmas.{holds-some, holds-trans, within-held, below-held, below-covers, Fronts, Equal, Outer, Inner, fronts-of}

module _ (circuit : FlatCircuit) (tree : InstanceTree) (fits : IsTree circuit tree) where
  parents : ParentsBefore tree
  parents = parents-before circuit tree fits

  pub instance-one : (i j : ℕ) → i < length tree.instances → j < length tree.instances → path_at tree.paths i ≡ path_at tree.paths j → i ≡ j
  instance-one i j li lj e = once-apart tree.paths [] fits.distinct i j (omega (arith, li, fits.named)) (omega (arith, lj, fits.named)) e

  -- an instance below the top has a path
  pub lower-some : (i : ℕ) → 0 < i → i < length tree.instances → path_at tree.paths i ≢ []
  lower-some i low lt e = let same = instance-one i 0 lt fits.top.there (e ∙ sym fits.top.path) in omega (arith, low, same)

  just-below : (k q : ℕ) → k < length tree.instances → (instance_at tree k).parent ≡ Some q → IsJustBelow (path_at tree.paths q) (path_at tree.paths k)
  just-below k q lt p =
      let lower = parents k q lt p in
      let below = fits.below k (omega (arith, lower)) lt in
      let same : below.above ≡ q = ap parent_place (sym below.parent ∙ p) in
      subst (λ a. IsJustBelow (path_at tree.paths a) (path_at tree.paths k)) same below.path

  -- ---- instances

  covers-lies-by : (fuel i k : ℕ) → k ≤ fuel → i < length tree.instances → k < length tree.instances → Covers (path_at tree.paths i) (path_at tree.paths k) → lies tree k i ≡ true
  covers-lies-by fuel i k le li lk (inl same) = subst (λ j. lies tree k j ≡ true) (sym (instance-one i k li lk same)) (lies-self tree parents k lk)
  covers-lies-by fuel i zero le li lk (inr h) = absurd (holds-some (path_at tree.paths i) (path_at tree.paths 0) h fits.top.path)
  covers-lies-by zero i (suc k) le li lk (inr h) = absurd (omega (arith, le))
  covers-lies-by (suc fuel) i (suc k) le li lk (inr h) =
      let below = fits.below (suc k) (omega arith) lk in
      lies-up circuit tree fits (suc k) below.above i lk below.parent
      (covers-lies-by fuel i below.above (omega (arith, below.before, le)) li (omega (arith, below.before, lk))
      (below-covers (path_at tree.paths i) (path_at tree.paths below.above) (path_at tree.paths (suc k)) below.path h))

  -- an instance lies in each instance whose path covers its own
  pub covers-lies : (i k : ℕ) → i < length tree.instances → k < length tree.instances → Covers (path_at tree.paths i) (path_at tree.paths k) → lies tree k i ≡ true
  covers-lies i k li lk h = covers-lies-by k i k (omega arith) li lk h

  lies-covers-by : (fuel i k : ℕ) → k ≤ fuel → 0 < i → k < length tree.instances → lies tree k i ≡ true → Covers (path_at tree.paths i) (path_at tree.paths k)
  lies-covers-by zero i k le low lt e = by (climbs circuit tree fits k i lt e)
    where
      by : (k ≡ i) ⊎ Climbs circuit tree fits k i → Covers (path_at tree.paths i) (path_at tree.paths k)
      by (inl same) = inl (ap (path_at tree.paths) (sym same))
      by (inr c) = absurd (omega (arith, c.before, le))
  lies-covers-by (suc fuel) i k le low lt e = by (climbs circuit tree fits k i lt e) (λ q l m n. lies-covers-by fuel i q l low m n)
    where
      by : (k ≡ i) ⊎ Climbs circuit tree fits k i → ((q : ℕ) → q ≤ fuel → q < length tree.instances → lies tree q i ≡ true → Covers (path_at tree.paths i) (path_at tree.paths q)) → Covers (path_at tree.paths i) (path_at tree.paths k)
      by (inl same) rest = inl (ap (path_at tree.paths) (sym same))
      by (inr c) rest = up (rest c.parent (omega (arith, c.before, le)) (omega (arith, c.before, lt)) c.lies)
        where
          below : IsJustBelow (path_at tree.paths c.parent) (path_at tree.paths k)
          below = just-below k c.parent lt c.is

          known : i < length tree.instances
          known = omega (arith, (above circuit tree fits c.parent i (omega (arith, c.before, lt)) c.lies).low, c.before, lt)

          up : Covers (path_at tree.paths i) (path_at tree.paths c.parent) → Covers (path_at tree.paths i) (path_at tree.paths k)
          up (inl same) =
              inr (subst (λ p. HoldsPath p (path_at tree.paths k)) (sym same)
              (below-held (path_at tree.paths c.parent) (path_at tree.paths k) (λ none. lower-some i low known (same ∙ none)) below))
          up (inr h) =
              inr (holds-trans (path_at tree.paths i) (path_at tree.paths c.parent) (path_at tree.paths k) h
              (below-held (path_at tree.paths c.parent) (path_at tree.paths k) (holds-some (path_at tree.paths i) (path_at tree.paths c.parent) h) below))

  pub lies-covers : (i k : ℕ) → 0 < i → k < length tree.instances → lies tree k i ≡ true → Covers (path_at tree.paths i) (path_at tree.paths k)
  lies-covers i k low lt e = lies-covers-by k i k (omega arith) low lt e

  module _ (scoped : IsScoped circuit tree) where
    -- ---- memories

    memory-by : (fuel j k : ℕ) → k ≤ fuel → j < length tree.memories → k < length tree.instances → HoldsPath (path_at tree.memory_paths j) (path_at tree.paths k) → ⊥
    memory-by fuel j zero le lj lk h = holds-some (path_at tree.memory_paths j) (path_at tree.paths 0) h fits.top.path
    memory-by zero j (suc k) le lj lk h = absurd (omega (arith, le))
    memory-by (suc fuel) j (suc k) le lj lk h =
        let below = fits.below (suc k) (omega arith) lk in
        let known : below.above < length tree.instances = omega (arith, below.before, lk) in
        by below.above known (λ up. memory-by fuel j below.above (omega (arith, below.before, le)) lj known up)
        (below-covers (path_at tree.memory_paths j) (path_at tree.paths below.above) (path_at tree.paths (suc k)) below.path h)
      where
        by : (q : ℕ) → q < length tree.instances → (HoldsPath (path_at tree.memory_paths j) (path_at tree.paths q) → ⊥) → Covers (path_at tree.memory_paths j) (path_at tree.paths q) → ⊥
        by q lt rest (inl same) = scoped.apart q j lt lj (sym same)
        by q lt rest (inr up) = rest up

    -- a memory's path holds no instance's path
    pub memory-no-instance : (j k : ℕ) → j < length tree.memories → k < length tree.instances → HoldsPath (path_at tree.memory_paths j) (path_at tree.paths k) → ⊥
    memory-no-instance j k lj lk h = memory-by k j k (omega arith) lj lk h

    -- a memory's path doesn't hold a path that stands just below an instance's
    memory-below : (j k : ℕ) (path : List ℕ) → j < length tree.memories → k < length tree.instances → IsJustBelow (path_at tree.paths k) path → HoldsPath (path_at tree.memory_paths j) path → ⊥
    memory-below j k path lj lk below h = by (below-covers (path_at tree.memory_paths j) (path_at tree.paths k) path below h)
      where
        by : Covers (path_at tree.memory_paths j) (path_at tree.paths k) → ⊥
        by (inl same) = scoped.apart k j lk lj (sym same)
        by (inr up) = memory-no-instance j k lj lk up

    -- a memory's path holds no memory's path
    pub memory-no-memory : (i j : ℕ) → i < length tree.memories → j < length tree.memories → HoldsPath (path_at tree.memory_paths i) (path_at tree.memory_paths j) → ⊥
    memory-no-memory i j li lj h = memory-below i (memory_at tree j).instance (path_at tree.memory_paths j) li (fits.held j lj).instance (fits.held j lj).path h

    -- ---- signals

    pub field-held : (j s : ℕ) → j < length tree.memories → IsFieldOf circuit tree j s → HoldsPath (path_at tree.memory_paths j) (path_at circuit.paths s)
    field-held j s lt field = within-held (path_at tree.memory_paths j) (path_at circuit.paths s) (named circuit tree fits scoped j lt) (scoped.fields j s lt field).path

    -- a signal whose path a memory's path holds is a field of that memory
    pub held-field : (k j s : ℕ) → IsInnermost tree k s → j < length tree.memories → HoldsPath (path_at tree.memory_paths j) (path_at circuit.paths s) → IsFieldOf circuit tree j s
    held-field k j s inner lj h = by (scoped.named k s inner)
      where
        by : IsJustBelow (path_at tree.paths k) (path_at circuit.paths s) ⊎ IsMemoryField circuit tree k s → IsFieldOf circuit tree j s
        by (inl below) = absurd (memory-below j k (path_at circuit.paths s) lj inner.known below h)
        by (inr m) = at (fronts-of (path_at tree.memory_paths j) (path_at tree.memory_paths m.place) (path_at circuit.paths s) h (field-held m.place s m.known m.field))
          where
            at : Fronts (path_at tree.memory_paths j) (path_at tree.memory_paths m.place) → IsFieldOf circuit tree j s
            at (Equal same) =
                let one : m.place ≡ j = once-apart tree.memory_paths [] fits.memory_distinct m.place j (omega (arith, m.known, fits.memory_named)) (omega (arith, lj, fits.memory_named)) (sym same) in
                subst (λ i. IsFieldOf circuit tree i s) one m.field
            at (Outer o) = absurd (memory-no-memory j m.place lj m.known o)
            at (Inner o) = absurd (memory-no-memory m.place j m.known lj o)

    -- an instance's path that holds a memory's covers the path of the memory's instance
    pub memory-covers : (i j : ℕ) → j < length tree.memories → HoldsPath (path_at tree.paths i) (path_at tree.memory_paths j) → Covers (path_at tree.paths i) (path_at tree.paths (memory_at tree j).instance)
    memory-covers i j lj h = below-covers (path_at tree.paths i) (path_at tree.paths (memory_at tree j).instance) (path_at tree.memory_paths j) (fits.held j lj).path h

    -- an instance's path that holds a signal's covers the path of the signal's innermost instance
    pub held-covers : (i k s : ℕ) → IsInnermost tree k s → i < length tree.instances → HoldsPath (path_at tree.paths i) (path_at circuit.paths s) → Covers (path_at tree.paths i) (path_at tree.paths k)
    held-covers i k s inner li h = by (scoped.named k s inner)
      where
        by : IsJustBelow (path_at tree.paths k) (path_at circuit.paths s) ⊎ IsMemoryField circuit tree k s → Covers (path_at tree.paths i) (path_at tree.paths k)
        by (inl below) = below-covers (path_at tree.paths i) (path_at tree.paths k) (path_at circuit.paths s) below h
        by (inr m) = at (fronts-of (path_at tree.paths i) (path_at tree.memory_paths m.place) (path_at circuit.paths s) h (field-held m.place s m.known m.field))
          where
            at : Fronts (path_at tree.paths i) (path_at tree.memory_paths m.place) → Covers (path_at tree.paths i) (path_at tree.paths k)
            at (Equal same) = absurd (scoped.apart i m.place li m.known same)
            at (Outer o) = subst (λ q. Covers (path_at tree.paths i) (path_at tree.paths q)) m.holder (memory-covers i m.place m.known o)
            at (Inner o) = absurd (memory-no-instance m.place i m.known li o)

    -- the path of an instance below the top that covers the path of a signal's innermost instance holds the signal's path
    pub covers-held : (i k s : ℕ) → IsInnermost tree k s → 0 < i → i < length tree.instances → Covers (path_at tree.paths i) (path_at tree.paths k) → HoldsPath (path_at tree.paths i) (path_at circuit.paths s)
    covers-held i k s inner low li (inl same) =
        subst (λ p. HoldsPath p (path_at circuit.paths s)) (sym same)
        (within-held (path_at tree.paths k) (path_at circuit.paths s) (λ none. lower-some i low li (same ∙ none)) (fits.signals k s inner))
    covers-held i k s inner low li (inr h) =
        holds-trans (path_at tree.paths i) (path_at tree.paths k) (path_at circuit.paths s) h
        (within-held (path_at tree.paths k) (path_at circuit.paths s) (holds-some (path_at tree.paths i) (path_at tree.paths k) h) (fits.signals k s inner))

    -- the path of an instance below the top that covers the path of a memory's instance holds the memory's path
    pub covers-memory : (i j : ℕ) → 0 < i → i < length tree.instances → j < length tree.memories → Covers (path_at tree.paths i) (path_at tree.paths (memory_at tree j).instance) → HoldsPath (path_at tree.paths i) (path_at tree.memory_paths j)
    covers-memory i j low li lj (inl same) =
        subst (λ p. HoldsPath p (path_at tree.memory_paths j)) (sym same)
        (below-held (path_at tree.paths (memory_at tree j).instance) (path_at tree.memory_paths j) (λ none. lower-some i low li (same ∙ none)) (fits.held j lj).path)
    covers-memory i j low li lj (inr h) =
        holds-trans (path_at tree.paths i) (path_at tree.paths (memory_at tree j).instance) (path_at tree.memory_paths j) h
        (below-held (path_at tree.paths (memory_at tree j).instance) (path_at tree.memory_paths j) (holds-some (path_at tree.paths i) (path_at tree.paths (memory_at tree j).instance) h) (fits.held j lj).path)
