-- The first rows of a run, on the first values of its columns; and how far a run can be saved.
use Rattle.std.proofs.Common.{◌≡◌, ℕ, suc, ◌+◌, ◌-◌, ◌<◌, ◌≤◌, List, [], ◌∷◌, ◌⊎◌, inl, inr, Bool, true, false, true≢false, Option, None, Some, length, map, get_or, take, drop, refl, sym, ap, ap₂, ◌∙◌, subst, length-take-le, take-append-drop, arith}
use Rattle.std.specs.Prelude.{◌==◌, ◌&&◌, if◌then◌else◌, nat_lt}
use Rattle.std.proofs.lemmas.Bool.{cases_Bool, cases_lt}
use Rattle.std.proofs.lemmas.Bool.Decides.{eqb_tells, leb_tells}
use Rattle.std.proofs.lemmas.List.{get_or-map, get_or-take, length-map, take-map}
use Rattle.gg_flat.specs.Circuit.{FlatCircuit}
use Rattle.gg_flat.specs.Clock.{Ratio}
use Rattle.gg_flat.specs.Line.{value_at}
use Rattle.gg_flat.specs.Run.{IsColumns, IsRunFrom, Start, clocked_start, column, row_at, state_at}
use Rattle.gg_flat.specs.Settled.{IsInputs, Settled}
use Rattle.gg_order.proofs.RunsLemmas.RunLemmas.{IsRunFrom-first, state_at-append}
use Rattle.gg_trace.specs.Last.{row_count}
use Rattle.gg_trace.specs.Table.{row_of}
use Rattle.gg_trace.proofs.LastLaws.{halts-first, halts-none, rows-grow, rows-within}
use Rattle.gg_rows.specs.inside.Printed.{IsFirst}

-- ---- rows

-- the first values of columns have the same rows
first-row : (columns : List (List ℕ)) (m t : ℕ) → t < m → row_of (map (take m) columns) t ≡ row_of columns t
first-row [] m t lt = refl
first-row (one ∷ columns) m t lt = ap₂ (λ (v : ℕ) vs. v ∷ vs) (get_or-take m one t 0 lt) (first-row columns m t lt)

-- and so have the columns of the first rows
pub first-columns-row : (rows : List (List ℕ)) (m t : ℕ) (signals : List ℕ) → t < m → row_of (map (column (take m rows)) signals) t ≡ row_of (map (column rows) signals) t
first-columns-row rows m t [] lt = refl
first-columns-row rows m t (s ∷ signals) lt =
    let same : column (take m rows) s ≡ take m (column rows s) = sym (take-map (λ (row : List ℕ). value_at row s) m rows) in
    ap₂ (λ (v : ℕ) vs. v ∷ vs) (ap (λ (c : List ℕ). value_at c t) same ∙ get_or-take m (column rows s) t 0 lt) (first-columns-row rows m t signals lt)

-- columns of inputs stay such
pub first-columns : (circuit : FlatCircuit) (n m : ℕ) (columns : List (List ℕ)) → m ≤ n → IsColumns circuit n columns → IsColumns circuit m (map (take m) columns)
first-columns circuit n m columns le is =
    record {
      count = length-map columns (take m) ∙ is.count;
      height = λ k d lt.
          let there : k < length columns = omega (arith, lt, length-map columns (take m)) in
          subst (λ (c : List ℕ). length c ≡ m) (sym (get_or-map (take m) columns k [] d there))
          (length-take-le m (get_or columns k []) (omega (arith, le, is.height k [] there)));
      inputs = λ t lt. subst (IsInputs circuit) (sym (first-row columns m t lt)) (is.inputs t (omega (arith, lt, le)));
    }

-- the first rows of a run are the run on the first values of its columns
pub first-run : (circuit : FlatCircuit) (ratios : List Ratio) (columns : List (List ℕ)) (n m : ℕ) (rows : List (List ℕ)) → m ≤ n
    → IsRunFrom circuit (clocked_start circuit ratios) columns n rows → IsRunFrom circuit (clocked_start circuit ratios) (map (take m) columns) m (take m rows)
first-run circuit ratios columns n m rows le run =
    let start = clocked_start circuit ratios in
    let whole : n ≡ m + (n - m) = omega (arith, le) in
    let first = IsRunFrom-first circuit start columns m (n - m) rows (subst (λ k. IsRunFrom circuit start columns k rows) whole run) in
    record {
      count = first.count;
      settled = λ t lt. subst (λ (inputs : List ℕ). Settled circuit (state_at circuit start (take m rows) t) inputs (row_at (take m rows) t)) (sym (first-row columns m t lt)) (first.settled t lt);
    }

-- they lead to the same states
pub first-states : (circuit : FlatCircuit) (start : Start) (rows : List (List ℕ)) (m t : ℕ) → t ≤ m → m ≤ length rows → state_at circuit start (take m rows) t ≡ state_at circuit start rows t
first-states circuit start rows m t le within =
    sym (state_at-append circuit start (take m rows) (drop m rows) t (omega (arith, le, length-take-le m rows within))) ∙ ap (λ (all : List (List ℕ)). state_at circuit start all t) (take-append-drop m rows)

-- ---- the first cycle

-- the first cycle of which something holds is that of which the same holds by another test
pub first-alike : (one other : ℕ → Bool) (n : ℕ) (first : Option ℕ) → ((t : ℕ) → t < n → one t ≡ other t) → IsFirst one n first → IsFirst other n first
first-alike one other n None same none = λ t lt. sym (same t lt) ∙ none t lt
first-alike one other n (Some b) same (lt, is, none) = (lt, sym (same b lt) ∙ is, λ t low. sym (same t (omega (arith, lt, low))) ∙ none t low)

-- ---- how far a run can be saved

ends-so : (halts : Bool) (t n : ℕ) → (halts && nat_lt (t + 1) n) ≡ true → (halts ≡ true) × (t + 1 < n)
ends-so true t n is = (refl, let lt : t + 1 < n = grind (arith, leb_tells, is) in lt)
ends-so false t n is = absurd (true≢false (sym is))

ends-not : (halts : Bool) (t n : ℕ) → (halts && nat_lt (t + 1) n) ≡ false → t + 1 < n → halts ≡ false
ends-not false t n is lt = refl
ends-not true t n is lt = absurd (grind (arith, leb_tells, is, lt))

module _ (halt : ℕ → Bool) (n : ℕ) where
  -- the last cycle before which a run of n cycles can be saved
  abbrev pub limit_of : ℕ
  limit_of = if row_count halt n == n then n else row_count halt n - 1

  -- whether a stop ends the run in a cycle before the last
  abbrev ends : ℕ → Bool
  ends t = halt t && nat_lt (t + 1) n

  reaches : (k : ℕ) → k < n → ((t : ℕ) → t < k → halt t ≡ false) → k < row_count halt n
  reaches k lt none = go (cases_Bool (halt k))
    where
      go : (halt k ≡ true) ⊎ (halt k ≡ false) → k < row_count halt n
      go (inl hit) = omega (arith, halts-first halt n k lt hit none)
      go (inr not_here) = omega (arith, rows-grow halt (suc k) n (omega (arith, lt)), halts-none halt (suc k) (λ t low. upto t (cases_lt t k) low))
        where
          upto : (t : ℕ) → (t < k) ⊎ (k ≤ t) → t < suc k → halt t ≡ false
          upto t (inl less) low = none t less
          upto t (inr ge) low = let same : k ≡ t = omega (arith, ge, low) in subst (λ j. halt j ≡ false) same not_here

  whole-limit : row_count halt n ≡ n → limit_of ≡ n
  whole-limit all = by (eqb_tells (row_count halt n) n)
    where
      by : (((row_count halt n == n) ≡ true) × (row_count halt n ≡ n)) ⊎ (((row_count halt n == n) ≡ false) × (¬ (row_count halt n ≡ n))) → limit_of ≡ n
      by (inl (told, same)) = ap (λ c. if c then n else row_count halt n - 1) told
      by (inr (told, other)) = absurd (other all)

  early-limit : ¬ (row_count halt n ≡ n) → limit_of ≡ row_count halt n - 1
  early-limit other = by (eqb_tells (row_count halt n) n)
    where
      by : (((row_count halt n == n) ≡ true) × (row_count halt n ≡ n)) ⊎ (((row_count halt n == n) ≡ false) × (¬ (row_count halt n ≡ n))) → limit_of ≡ row_count halt n - 1
      by (inl (told, same)) = absurd (other same)
      by (inr (told, differ)) = ap (λ c. if c then n else row_count halt n - 1) told

  limit-cases : ((row_count halt n ≡ n) × (limit_of ≡ n)) ⊎ (limit_of ≡ row_count halt n - 1)
  limit-cases = by (eqb_tells (row_count halt n) n)
    where
      by : (((row_count halt n == n) ≡ true) × (row_count halt n ≡ n)) ⊎ (((row_count halt n == n) ≡ false) × (¬ (row_count halt n ≡ n))) → ((row_count halt n ≡ n) × (limit_of ≡ n)) ⊎ (limit_of ≡ row_count halt n - 1)
      by (inl (told, same)) = inl (same, whole-limit same)
      by (inr (told, differ)) = inr (early-limit differ)

  reach-limit : (at : ℕ) → at ≤ n → ((t : ℕ) → t < at → t + 1 < n → halt t ≡ false) → at ≤ limit_of
  reach-limit at le none = by (cases_lt at n) limit-cases
    where
      by : (at < n) ⊎ (n ≤ at) → ((row_count halt n ≡ n) × (limit_of ≡ n)) ⊎ (limit_of ≡ row_count halt n - 1) → at ≤ limit_of
      by which (inl (all, is)) = omega (arith, le, is)
      by (inl lt) (inr is) = omega (arith, is, reaches at lt (λ t low. none t low (omega (arith, low, lt))))
      by (inr ge) (inr is) = last (cases_lt 0 n)
        where
          last : (0 < n) ⊎ (n ≤ 0) → at ≤ limit_of
          last (inl some) =
              let reached = reaches (n - 1) (omega (arith, some)) (λ t low. none t (omega (arith, low, ge)) (omega (arith, low))) in
              let all : row_count halt n ≡ n = omega (arith, reached, rows-within halt n) in
              omega (arith, le, whole-limit all)
          last (inr few) = omega (arith, le, few)

  -- if a stop ends the run, that is the cycle in which the first does
  pub stop-limit : (m b : ℕ) → m ≤ n → IsFirst ends m (Some b) → limit_of ≡ b
  stop-limit m b le (lt, is, none) =
      let so = ends-so (halt b) b n is in
      let r = halts-first halt n b (omega (arith, lt, le)) so.0 (λ t low. ends-not (halt t) t n (none t low) (omega (arith, low, so.1))) in
      let early = early-limit (λ same. omega (arith, same, r, so.1)) in
      omega (arith, early, r)

  -- if none does before a cycle, it can be saved before that cycle
  pub none-limit : (at : ℕ) → at ≤ n → IsFirst ends at None → at ≤ limit_of
  none-limit at le none = reach-limit at le (λ t low more. ends-not (halt t) t n (none t low) more)

  -- if none does at all, it can be saved at its end, and not later
  pub whole-none : IsFirst ends n None → limit_of ≡ n
  whole-none none = by limit-cases
    where
      by : ((row_count halt n ≡ n) × (limit_of ≡ n)) ⊎ (limit_of ≡ row_count halt n - 1) → limit_of ≡ n
      by (inl (all, is)) = is
      by (inr is) = omega (arith, is, rows-within halt n, none-limit n (omega arith) none)
