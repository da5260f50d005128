-- The machine of an instance, of a signal and of a memory is that of the longest listed path that covers or holds it.
use Rattle.std.proofs.Common.{◌≡◌, ◌≢◌, ℕ, zero, suc, ◌+◌, ◌-◌, ◌<◌, ◌≤◌, List, [], length, get_or, true, true≢false, refl, sym, ◌∙◌, ap, subst, Some, None, inl, inr, ◌⊎◌, eq-eqb, true-eqb, arith}
use Rattle.std.specs.Prelude.{Option, ◌==◌}
use Rattle.std.proofs.lemmas.Bool.{cases_lt, cases_eq}
use Rattle.std.proofs.lemmas.List.Folds.{list_any_at}
use Rattle.gg_flat.specs.Line.{value_at}
use Rattle.gg_flat.specs.Circuit.{FlatCircuit}
use Rattle.gg_flat_tree.specs.Tree.{InstanceTree, IsTree, IsInnermost, path_at, memory_at}
use Rattle.gg_flat_tree.specs.Scoped.{IsScoped, IsFieldOf, memory_fields}
use Rattle.gg_flat.proofs.ListLemmas.{once-apart}
use Rattle.gg_cut_plan.specs.declared.listed.Listed.{Listed}
use Rattle.gg_cut_plan.specs.Listed.{lies, first_place, unit_or_hub, owner_of_instance, owner_of, has_signal, has_field, memory_or, memory_owner}
use Rattle.gg_cut_plan.proofs.PathLemmas.{IsPlace, first_place-Some, first_place-None}
use Rattle.gg_cut_split.specs.inside.Apart.{AreApart}
use Rattle.gg_cut_split.specs.inside.Longest.{HoldsPath, Covers, IsLongest, IsOfLongest}
use Rattle.gg_cut_split.proofs.ClosedLemmas.NameLemmas.{field-one}
use Rattle.gg_cut_split.proofs.ClosedLemmas.MakerLemmas.{IsNoField, owner-signal, any-contains}
use Rattle.gg_cut_split.proofs.ClosedLemmas.HoldLemmas.{Fronts, Equal, Outer, Inner, fronts-of, holds-shorter}
use Rattle.gg_cut_split.proofs.ClosedLemmas.BelowLemmas.{covers-lies, lies-covers, memory-no-instance, memory-no-memory, field-held, held-field, held-covers, covers-held, memory-covers, covers-memory}

-- ---- the longest path

-- at most one machine has it
pub longest-one : (Has : List ℕ → Type 0) (paths : List (List ℕ)) (m n : ℕ) → IsOfLongest Has paths m → IsOfLongest Has paths n → m ≡ n
longest-one Has paths zero zero a b = refl
longest-one Has paths zero (suc k) a b = absurd (a k b.known b.has)
longest-one Has paths (suc j) zero a b = absurd (b j a.known a.has)
longest-one Has paths (suc j) (suc k) a b = by (cases_eq j k)
  where
    by : (j ≡ k) ⊎ (j ≡ k → ⊥) → suc j ≡ suc k
    by (inl same) = ap suc same
    by (inr other) =
        let x = a.longest k b.known (λ e. other (sym e)) b.has in
        let y = b.longest j a.known other a.has in
        absurd (omega (arith, x, y))

-- properties that the same paths have make the same machine's path the longest
pub longest-same : (Has Other : List ℕ → Type 0) (paths : List (List ℕ)) (m : ℕ) → ((i : ℕ) → i < length paths → Has (path_at paths i) → Other (path_at paths i)) → ((i : ℕ) → i < length paths → Other (path_at paths i) → Has (path_at paths i)) → IsOfLongest Has paths m → IsOfLongest Other paths m
longest-same Has Other paths zero to back h = λ i lt other. h i lt (back i lt other)
longest-same Has Other paths (suc k) to back h = record { known = h.known; has = to k h.known h.has; longest = λ i lt ne other. h.longest i lt ne (back i lt other) }

-- two paths that cover the same path are equal, or one holds the other
covers-fronts : (p q path : List ℕ) → Covers p path → Covers q path → Fronts p q
covers-fronts p q path (inl a) (inl b) = Equal (a ∙ sym b)
covers-fronts p q path (inl a) (inr k) = Inner (subst (HoldsPath q) (sym a) k)
covers-fronts p q path (inr h) (inl b) = Outer (subst (HoldsPath p) (sym b) h)
covers-fronts p q path (inr h) (inr k) = fronts-of p q path h k

-- ---- what is listed

-- a place among n + m things: one of the first n, or one of the others
pub data Among (n m i : ℕ) : Type 0 where
  First : i < n → Among n m i
  Behind : (j : ℕ) → j < m → i ≡ n + j → Among n m i

pub among : (n m i : ℕ) → i < n + m → Among n m i
among n m i lt = by (cases_lt i n)
  where
    by : (i < n) ⊎ (n ≤ i) → Among n m i
    by (inl less) = First less
    by (inr le) = Behind (i - n) (omega (arith, lt, le)) (omega (arith, le))

-- the paths are those of the units and then those of the listed memories
pub record ArePaths (tree : InstanceTree) (listed : Listed) (paths : List (List ℕ)) : Type 0 where
  pub count : length paths ≡ length listed.units + length listed.memories
  pub unit : (i : ℕ) → i < length listed.units → path_at paths i ≡ path_at tree.paths (value_at listed.units i)
  pub memory : (i : ℕ) → i < length listed.memories → path_at paths (length listed.units + i) ≡ path_at tree.memory_paths (value_at listed.memories i)

module _ (circuit : FlatCircuit) (tree : InstanceTree) (listed : Listed) (fits : IsTree circuit tree) (scoped : IsScoped circuit tree) (apart : AreApart tree listed) (paths : List (List ℕ)) (are : ArePaths tree listed paths) where
  memory-in : (j : ℕ) → j < length listed.memories → value_at listed.memories j < length tree.memories
  memory-in j lt = apart.memories j 0 lt

  -- no unit lies in another
  lies-one : (i j : ℕ) → i < length listed.units → j < length listed.units → lies tree (value_at listed.units i) (value_at listed.units j) ≡ true → i ≡ j
  lies-one i j li lj e = by (cases_lt i j) (cases_lt j i)
    where
      by : (i < j) ⊎ (j ≤ i) → (j < i) ⊎ (i ≤ j) → i ≡ j
      by (inl lt) q = absurd (true≢false (sym e ∙ (apart.apart i j 0 lt lj).0))
      by (inr le) (inl lt) = absurd (true≢false (sym e ∙ (apart.apart j i 0 lt li).1))
      by (inr le) (inr ge) = omega (arith, le, ge)

  -- two units are the same if their paths are equal or one holds the other
  fronts-one : (i j : ℕ) → i < length listed.units → j < length listed.units → Fronts (path_at tree.paths (value_at listed.units i)) (path_at tree.paths (value_at listed.units j)) → i ≡ j
  fronts-one i j li lj (Equal same) = lies-one i j li lj (covers-lies circuit tree fits (value_at listed.units j) (value_at listed.units i) (apart.known j 0 lj) (apart.known i 0 li) (inl (sym same)))
  fronts-one i j li lj (Outer h) = sym (lies-one j i lj li (covers-lies circuit tree fits (value_at listed.units i) (value_at listed.units j) (apart.known i 0 li) (apart.known j 0 lj) (inr h)))
  fronts-one i j li lj (Inner h) = lies-one i j li lj (covers-lies circuit tree fits (value_at listed.units j) (value_at listed.units i) (apart.known j 0 lj) (apart.known i 0 li) (inr h))

  place-of : (i : ℕ) → i < length paths → Among (length listed.units) (length listed.memories) i
  place-of i lt = among (length listed.units) (length listed.memories) i (omega (arith, lt, are.count))

  -- ---- instances

  -- a memory's path covers no instance's
  memory-covers-none : (j k : ℕ) → j < length listed.memories → k < length tree.instances → Covers (path_at paths (length listed.units + j)) (path_at tree.paths k) → ⊥
  memory-covers-none j k lj lk h = by (subst (λ p. Covers p (path_at tree.paths k)) (are.memory j lj) h)
    where
      by : Covers (path_at tree.memory_paths (value_at listed.memories j)) (path_at tree.paths k) → ⊥
      by (inl same) = scoped.apart k (value_at listed.memories j) lk (memory-in j lj) (sym same)
      by (inr up) = memory-no-instance circuit tree fits scoped (value_at listed.memories j) k (memory-in j lj) lk up

  unit-covers : (i k : ℕ) → i < length listed.units → Covers (path_at paths i) (path_at tree.paths k) → Covers (path_at tree.paths (value_at listed.units i)) (path_at tree.paths k)
  unit-covers i k li h = subst (λ p. Covers p (path_at tree.paths k)) (are.unit i li) h

  -- a listed path that covers an instance's path is the path of a unit in which the instance lies
  covering : (k i : ℕ) → k < length tree.instances → i < length paths → Covers (path_at paths i) (path_at tree.paths k) → (i < length listed.units) × (lies tree k (value_at listed.units i) ≡ true)
  covering k i lk lt h = by (place-of i lt)
    where
      by : Among (length listed.units) (length listed.memories) i → (i < length listed.units) × (lies tree k (value_at listed.units i) ≡ true)
      by (First less) = (less, covers-lies circuit tree fits (value_at listed.units i) k (apart.known i 0 less) lk (unit-covers i k less h))
      by (Behind j lj e) = absurd (memory-covers-none j k lj lk (subst (λ n. Covers (path_at paths n) (path_at tree.paths k)) e h))

  pub instance-longest : (k : ℕ) → k < length tree.instances → IsOfLongest (λ path. Covers path (path_at tree.paths k)) paths (owner_of_instance tree listed.units k)
  instance-longest k lk = by (first_place (λ unit. lies tree k unit) listed.units) refl
    where
      by : (found : Option ℕ) → first_place (λ unit. lies tree k unit) listed.units ≡ found → IsOfLongest (λ path. Covers path (path_at tree.paths k)) paths (owner_of_instance tree listed.units k)
      by None e = subst (IsOfLongest (λ path. Covers path (path_at tree.paths k)) paths) (ap unit_or_hub (sym e)) none
        where
          none : IsOfLongest (λ path. Covers path (path_at tree.paths k)) paths 0
          none i lt h =
              let at = covering k i lk lt h in
              true≢false (sym (list_any_at (λ unit. lies tree k unit) listed.units i 0 at.0 at.1) ∙ first_place-None (λ unit. lies tree k unit) listed.units e)
      by (Some u) e = subst (IsOfLongest (λ path. Covers path (path_at tree.paths k)) paths) (ap unit_or_hub (sym e)) some
        where
          at : IsPlace (λ unit. lies tree k unit) listed.units u
          at = first_place-Some (λ unit. lies tree k unit) listed.units u e

          covers : Covers (path_at tree.paths (value_at listed.units u)) (path_at tree.paths k)
          covers = lies-covers circuit tree fits (value_at listed.units u) k (apart.lower u 0 at.within) lk (at.passes 0)

          some : IsOfLongest (λ path. Covers path (path_at tree.paths k)) paths (suc u)
          some =
              record {
                known = omega (arith, at.within, are.count);
                has = subst (λ p. Covers p (path_at tree.paths k)) (sym (are.unit u at.within)) covers;
                longest = λ i lt ne h.
                    let there = covering k i lk lt h in
                    absurd (ne (fronts-one i u there.0 at.within (covers-fronts (path_at tree.paths (value_at listed.units i)) (path_at tree.paths (value_at listed.units u)) (path_at tree.paths k) (unit-covers i k there.0 h) covers)));
              }

  -- ---- signals

  module _ (k s : ℕ) (inner : IsInnermost tree k s) where
    abbrev signal : List ℕ
    signal = path_at circuit.paths s

    unit-holds : (i : ℕ) → i < length listed.units → HoldsPath (path_at paths i) (path_at circuit.paths s) → HoldsPath (path_at tree.paths (value_at listed.units i)) (path_at circuit.paths s)
    unit-holds i li h = subst (λ p. HoldsPath p (path_at circuit.paths s)) (are.unit i li) h

    -- a listed memory whose path holds the signal's has the signal as a field
    memory-holds : (j : ℕ) → j < length listed.memories → HoldsPath (path_at paths (length listed.units + j)) (path_at circuit.paths s) → IsFieldOf circuit tree (value_at listed.memories j) s
    memory-holds j lj h = held-field circuit tree fits scoped k (value_at listed.memories j) s inner (memory-in j lj) (subst (λ p. HoldsPath p (path_at circuit.paths s)) (are.memory j lj) h)

    -- where no listed memory has the signal as a field, the machine of the longest path that holds the signal's is its instance's
    plain-longest : IsNoField circuit tree listed s → IsOfLongest (λ path. HoldsPath path (path_at circuit.paths s)) paths (owner_of_instance tree listed.units k)
    plain-longest none =
        longest-same (λ path. Covers path (path_at tree.paths k)) (λ path. HoldsPath path (path_at circuit.paths s)) paths (owner_of_instance tree listed.units k) to back (instance-longest k inner.known)
      where
        to : (i : ℕ) → i < length paths → Covers (path_at paths i) (path_at tree.paths k) → HoldsPath (path_at paths i) (path_at circuit.paths s)
        to i lt h =
            let at = covering k i inner.known lt h in
            subst (λ p. HoldsPath p (path_at circuit.paths s)) (sym (are.unit i at.0))
            (covers-held circuit tree fits scoped (value_at listed.units i) k s inner (apart.lower i 0 at.0) (apart.known i 0 at.0) (unit-covers i k at.0 h))

        back : (i : ℕ) → i < length paths → HoldsPath (path_at paths i) (path_at circuit.paths s) → Covers (path_at paths i) (path_at tree.paths k)
        back i lt h = by (place-of i lt)
          where
            by : Among (length listed.units) (length listed.memories) i → Covers (path_at paths i) (path_at tree.paths k)
            by (First less) =
                subst (λ p. Covers p (path_at tree.paths k)) (sym (are.unit i less))
                (held-covers circuit tree fits scoped (value_at listed.units i) k s inner (apart.known i 0 less) (unit-holds i less h))
            by (Behind j lj e) = absurd (none j 0 lj (memory-holds j lj (subst (λ n. HoldsPath (path_at paths n) (path_at circuit.paths s)) e h)))

    -- the longest path that holds the path of a field of a listed memory is the memory's
    field-longest : (j : ℕ) → j < length listed.memories → IsFieldOf circuit tree (value_at listed.memories j) s → IsLongest (λ path. HoldsPath path (path_at circuit.paths s)) paths (length listed.units + j)
    field-longest j lj field =
        record {
          known = omega (arith, lj, are.count);
          has = subst (λ p. HoldsPath p (path_at circuit.paths s)) (sym (are.memory j lj)) holds;
          longest = longest;
        }
      where
        mem : ℕ
        mem = value_at listed.memories j

        holds : HoldsPath (path_at tree.memory_paths (value_at listed.memories j)) (path_at circuit.paths s)
        holds = field-held circuit tree fits scoped (value_at listed.memories j) s (memory-in j lj) field

        shorter : (i : ℕ) → i < length listed.units → Fronts (path_at tree.paths (value_at listed.units i)) (path_at tree.memory_paths (value_at listed.memories j)) → length (path_at paths i) < length (path_at paths (length listed.units + j))
        shorter i li (Equal same) = absurd (scoped.apart (value_at listed.units i) (value_at listed.memories j) (apart.known i 0 li) (memory-in j lj) same)
        shorter i li (Outer h) =
            let less = holds-shorter (path_at tree.paths (value_at listed.units i)) (path_at tree.memory_paths (value_at listed.memories j)) h in
            omega (arith, less, ap length (are.unit i li), ap length (are.memory j lj))
        shorter i li (Inner h) = absurd (memory-no-instance circuit tree fits scoped (value_at listed.memories j) (value_at listed.units i) (memory-in j lj) (apart.known i 0 li) h)

        same-memory : (i : ℕ) → i < length listed.memories → IsFieldOf circuit tree (value_at listed.memories i) s → i ≡ j
        same-memory i li other =
            let one = field-one circuit tree fits scoped (value_at listed.memories i) (value_at listed.memories j) s (memory-in i li) (memory-in j lj) other field in
            by one (cases_lt i j) (cases_lt j i)
          where
            by : value_at listed.memories i ≡ value_at listed.memories j → (i < j) ⊎ (j ≤ i) → (j < i) ⊎ (i ≤ j) → i ≡ j
            by one (inl lt) q = let less = apart.ascending i j 0 lt lj in absurd (omega (arith, less, one))
            by one (inr le) (inl lt) = let less = apart.ascending j i 0 lt li in absurd (omega (arith, less, one))
            by one (inr le) (inr ge) = omega (arith, le, ge)

        longest : (i : ℕ) → i < length paths → i ≢ length listed.units + j → HoldsPath (path_at paths i) (path_at circuit.paths s) → length (path_at paths i) < length (path_at paths (length listed.units + j))
        longest i lt ne h = by (place-of i lt)
          where
            by : Among (length listed.units) (length listed.memories) i → length (path_at paths i) < length (path_at paths (length listed.units + j))
            by (First less) = shorter i less (fronts-of (path_at tree.paths (value_at listed.units i)) (path_at tree.memory_paths (value_at listed.memories j)) (path_at circuit.paths s) (unit-holds i less h) holds)
            by (Behind o lo e) =
                let one = same-memory o lo (memory-holds o lo (subst (λ n. HoldsPath (path_at paths n) (path_at circuit.paths s)) e h)) in
                absurd (ne (omega (arith, e, one)))

    pub signal-longest : IsOfLongest (λ path. HoldsPath path (path_at circuit.paths s)) paths (owner_of circuit tree listed s)
    signal-longest = by (first_place (has_field circuit tree s) listed.memories) refl
      where
        by : (found : Option ℕ) → first_place (has_field circuit tree s) listed.memories ≡ found → IsOfLongest (λ path. HoldsPath path (path_at circuit.paths s)) paths (owner_of circuit tree listed s)
        by None e = subst (IsOfLongest (λ path. HoldsPath path (path_at circuit.paths s)) paths) (sym (owner-signal circuit tree listed fits scoped apart k s inner none)) (plain-longest none)
          where
            none : IsNoField circuit tree listed s
            none i d lt field =
                let has : has_field circuit tree s (get_or listed.memories i d) ≡ true =
                list_any_at (λ t. t == s) (memory_fields circuit (memory_at tree (get_or listed.memories i d)).memory) field.0 s field.1 (eq-eqb (get_or (memory_fields circuit (memory_at tree (get_or listed.memories i d)).memory) field.0 s) s field.2) in
                true≢false (sym (list_any_at (has_field circuit tree s) listed.memories i d lt has) ∙ first_place-None (has_field circuit tree s) listed.memories e)
        by (Some j) e = subst (IsOfLongest (λ path. HoldsPath path (path_at circuit.paths s)) paths) (sym number) (field-longest j at.within field)
          where
            other : ℕ
            other = unit_or_hub (first_place (has_signal tree s) listed.units)

            number : owner_of circuit tree listed s ≡ suc (length listed.units + j)
            number = ap (memory_or (length listed.units) (unit_or_hub (first_place (has_signal tree s) listed.units))) e ∙ (let same : suc (length listed.units) + j ≡ suc (length listed.units + j) = omega arith in same)

            at : IsPlace (has_field circuit tree s) listed.memories j
            at = first_place-Some (has_field circuit tree s) listed.memories j e

            field : IsFieldOf circuit tree (value_at listed.memories j) s
            field = any-contains (memory_fields circuit (memory_at tree (value_at listed.memories j)).memory) s (at.passes 0)

  -- ---- memories

  module _ (j : ℕ) (lj : j < length tree.memories) where
    -- a listed memory whose path covers this memory's path is this memory
    memory-same : (i : ℕ) → i < length listed.memories → Covers (path_at paths (length listed.units + i)) (path_at tree.memory_paths j) → value_at listed.memories i ≡ j
    memory-same i li h = by (subst (λ p. Covers p (path_at tree.memory_paths j)) (are.memory i li) h)
      where
        by : Covers (path_at tree.memory_paths (value_at listed.memories i)) (path_at tree.memory_paths j) → value_at listed.memories i ≡ j
        by (inl same) = once-apart tree.memory_paths [] fits.memory_distinct (value_at listed.memories i) j (let known = memory-in i li in omega (arith, known, fits.memory_named)) (omega (arith, lj, fits.memory_named)) same
        by (inr up) = absurd (memory-no-memory circuit tree fits scoped (value_at listed.memories i) j (memory-in i li) lj up)

    -- a unit's path that covers the memory's path holds it
    unit-memory : (i : ℕ) → i < length listed.units → Covers (path_at paths i) (path_at tree.memory_paths j) → HoldsPath (path_at tree.paths (value_at listed.units i)) (path_at tree.memory_paths j)
    unit-memory i li h = by (subst (λ p. Covers p (path_at tree.memory_paths j)) (are.unit i li) h)
      where
        by : Covers (path_at tree.paths (value_at listed.units i)) (path_at tree.memory_paths j) → HoldsPath (path_at tree.paths (value_at listed.units i)) (path_at tree.memory_paths j)
        by (inl same) = absurd (scoped.apart (value_at listed.units i) j (apart.known i 0 li) lj same)
        by (inr up) = up

    -- where the memory is listed, its own path is the longest
    own-longest : (u : ℕ) → u < length listed.memories → value_at listed.memories u ≡ j → IsLongest (λ path. Covers path (path_at tree.memory_paths j)) paths (length listed.units + u)
    own-longest u lu is =
        record {
          known = omega (arith, lu, are.count);
          has = inl path;
          longest = λ i lt ne h. longest i ne h (place-of i lt);
        }
      where
        path : path_at paths (length listed.units + u) ≡ path_at tree.memory_paths j
        path = are.memory u lu ∙ ap (path_at tree.memory_paths) is

        same-place : (i : ℕ) → i < length listed.memories → value_at listed.memories i ≡ j → i ≡ u
        same-place i li one = by (cases_lt i u) (cases_lt u i)
          where
            by : (i < u) ⊎ (u ≤ i) → (u < i) ⊎ (i ≤ u) → i ≡ u
            by (inl lt) q = let less = apart.ascending i u 0 lt lu in absurd (omega (arith, less, one, is))
            by (inr le) (inl lt) = let less = apart.ascending u i 0 lt li in absurd (omega (arith, less, one, is))
            by (inr le) (inr ge) = omega (arith, le, ge)

        longest : (i : ℕ) → i ≢ length listed.units + u → Covers (path_at paths i) (path_at tree.memory_paths j) → Among (length listed.units) (length listed.memories) i → length (path_at paths i) < length (path_at paths (length listed.units + u))
        longest i ne h (First less) =
            let shorter = holds-shorter (path_at tree.paths (value_at listed.units i)) (path_at tree.memory_paths j) (unit-memory i less h) in
            omega (arith, shorter, ap length (are.unit i less), ap length path)
        longest i ne h (Behind o lo e) =
            let one = same-place o lo (memory-same o lo (subst (λ n. Covers (path_at paths n) (path_at tree.memory_paths j)) e h)) in
            absurd (ne (omega (arith, e, one)))

    -- where it isn't, the machine of the longest path is its instance's
    held-longest : ((i : ℕ) → i < length listed.memories → value_at listed.memories i ≢ j) → IsOfLongest (λ path. Covers path (path_at tree.memory_paths j)) paths (owner_of_instance tree listed.units (memory_at tree j).instance)
    held-longest none =
        longest-same (λ path. Covers path (path_at tree.paths (memory_at tree j).instance)) (λ path. Covers path (path_at tree.memory_paths j)) paths (owner_of_instance tree listed.units (memory_at tree j).instance) to back
        (instance-longest (memory_at tree j).instance (fits.held j lj).instance)
      where
        to : (i : ℕ) → i < length paths → Covers (path_at paths i) (path_at tree.paths (memory_at tree j).instance) → Covers (path_at paths i) (path_at tree.memory_paths j)
        to i lt h =
            let at = covering (memory_at tree j).instance i (fits.held j lj).instance lt h in
            inr (subst (λ p. HoldsPath p (path_at tree.memory_paths j)) (sym (are.unit i at.0))
            (covers-memory circuit tree fits scoped (value_at listed.units i) j (apart.lower i 0 at.0) (apart.known i 0 at.0) lj (unit-covers i (memory_at tree j).instance at.0 h)))

        back : (i : ℕ) → i < length paths → Covers (path_at paths i) (path_at tree.memory_paths j) → Covers (path_at paths i) (path_at tree.paths (memory_at tree j).instance)
        back i lt h = by (place-of i lt)
          where
            by : Among (length listed.units) (length listed.memories) i → Covers (path_at paths i) (path_at tree.paths (memory_at tree j).instance)
            by (First less) =
                subst (λ p. Covers p (path_at tree.paths (memory_at tree j).instance)) (sym (are.unit i less))
                (memory-covers circuit tree fits scoped (value_at listed.units i) j lj (unit-memory i less h))
            by (Behind o lo e) = absurd (none o lo (memory-same o lo (subst (λ n. Covers (path_at paths n) (path_at tree.memory_paths j)) e h)))

    pub memory-longest : IsOfLongest (λ path. Covers path (path_at tree.memory_paths j)) paths (memory_owner tree listed j)
    memory-longest = by (first_place (λ i. i == j) listed.memories) refl
      where
        by : (found : Option ℕ) → first_place (λ i. i == j) listed.memories ≡ found → IsOfLongest (λ path. Covers path (path_at tree.memory_paths j)) paths (memory_owner tree listed j)
        by None e = subst (IsOfLongest (λ path. Covers path (path_at tree.memory_paths j)) paths) (sym (ap (memory_or (length listed.units) (owner_of_instance tree listed.units (memory_at tree j).instance)) e)) (held-longest none)
          where
            none : (i : ℕ) → i < length listed.memories → value_at listed.memories i ≢ j
            none i li same = true≢false (sym (list_any_at (λ t. t == j) listed.memories i 0 li (eq-eqb (value_at listed.memories i) j same)) ∙ first_place-None (λ t. t == j) listed.memories e)
        by (Some u) e = subst (IsOfLongest (λ path. Covers path (path_at tree.memory_paths j)) paths) (sym number) (own-longest u at.within (true-eqb (value_at listed.memories u) j (sym (at.passes 0))))
          where
            number : memory_owner tree listed j ≡ suc (length listed.units + u)
            number = ap (memory_or (length listed.units) (owner_of_instance tree listed.units (memory_at tree j).instance)) e ∙ (let same : suc (length listed.units) + u ≡ suc (length listed.units + u) = omega arith in same)

            at : IsPlace (λ i. i == j) listed.memories u
            at = first_place-Some (λ i. i == j) listed.memories u e
