-- How many rows of a run are written.
use Rattle.std.proofs.Common.{◌≡◌, ℕ, zero, suc, ◌+◌, ◌-◌, ◌<◌, ◌≤◌, Bool, true, false, true≢false, refl, sym, ap, ◌∙◌, inl, inr, ◌⊎◌, arith}
use Rattle.std.specs.Prelude.{◌||◌, if◌then◌else◌}
use Rattle.std.proofs.lemmas.Bool.{cases_Bool, or_from, or_left, or_parts}
use Rattle.std.proofs.Math.Nat.{eq-or-lt_of_le}
use Rattle.gg_trace.specs.Last.{has_halted, row_count}

module _ (is_halt : ℕ → Bool) where
  -- if none of the first n cycles halts the run
  none-halted : (n : ℕ) → ((t : ℕ) → t < n → is_halt t ≡ false) → has_halted is_halt n ≡ false
  none-halted zero none = refl
  none-halted (suc n) none = or_from (has_halted is_halt n) (is_halt n) (none-halted n (λ t lt. none t (omega (arith, lt)))) (none n (omega arith))

  -- a run that was halted stays so
  pub halted-stays : (k n : ℕ) → k ≤ n → has_halted is_halt k ≡ true → has_halted is_halt n ≡ true
  halted-stays k zero le is = let e : k ≡ zero = omega (arith, le) in ap (has_halted is_halt) (sym e) ∙ is
  halted-stays k (suc n) le is =
      elim (eq-or-lt_of_le {n = k} {m = suc n} le) [
        | inl e ↦ ap (has_halted is_halt) (sym e) ∙ is
        | inr lt ↦ or_left (has_halted is_halt n) (is_halt n) (halted-stays k n (omega (arith, lt)) is)
      ]

  -- a run that isn't halted has all rows, and the row of the next cycle too
  pub rows-all : (n : ℕ) → has_halted is_halt n ≡ false → row_count is_halt n ≡ n
  rows-all zero none = refl
  rows-all (suc n) none = ap (λ b. if b then row_count is_halt n else suc n) (or_parts (has_halted is_halt n) (is_halt n) none).0

  pub rows-next : (n : ℕ) → has_halted is_halt n ≡ false → row_count is_halt (suc n) ≡ suc n
  rows-next n none = ap (λ b. if b then row_count is_halt n else suc n) none

  -- once it is halted, there are no more rows
  pub rows-stay : (k n : ℕ) → k ≤ n → has_halted is_halt k ≡ true → row_count is_halt n ≡ row_count is_halt k
  rows-stay k zero le is = let e : k ≡ zero = omega (arith, le) in ap (row_count is_halt) (sym e)
  rows-stay k (suc n) le is =
      elim (eq-or-lt_of_le {n = k} {m = suc n} le) [
        | inl e ↦ ap (row_count is_halt) (sym e)
        | inr lt ↦
            let low : k ≤ n = omega (arith, lt) in
            ap (λ b. if b then row_count is_halt n else suc n) (halted-stays k n low is) ∙ rows-stay k n low is
      ]

  -- there are no more rows than cycles
  pub rows-within : (n : ℕ) → row_count is_halt n ≤ n
  rows-within zero = omega arith
  rows-within (suc n) = go (cases_Bool (has_halted is_halt n)) (rows-within n)
    where
      go : (has_halted is_halt n ≡ true) ⊎ (has_halted is_halt n ≡ false) → row_count is_halt n ≤ n → row_count is_halt (suc n) ≤ suc n
      go (inl halted) before =
          let same : row_count is_halt (suc n) ≡ row_count is_halt n = ap (λ b. if b then row_count is_halt n else suc n) halted in
          omega (arith, same, before)
      go (inr none) before = omega (arith, rows-next n none)

  -- a cycle before which the run isn't halted has a row
  pub rows-reach : (k n : ℕ) → k < n → has_halted is_halt k ≡ false → k < row_count is_halt n
  rows-reach k zero lt none = absurd (omega (arith, lt))
  rows-reach k (suc n) lt none = go (cases_Bool (has_halted is_halt n)) (eq-or-lt_of_le {n = k} {m = n} (omega (arith, lt))) (λ less. rows-reach k n less none)
    where
      go : (has_halted is_halt n ≡ true) ⊎ (has_halted is_halt n ≡ false) → (k ≡ n) ⊎ (k < n) → (k < n → k < row_count is_halt n) → k < row_count is_halt (suc n)
      go (inl halted) (inl e) before = absurd (true≢false (sym halted ∙ ap (has_halted is_halt) (sym e) ∙ none))
      go (inl halted) (inr less) before =
          let same : row_count is_halt (suc n) ≡ row_count is_halt n = ap (λ b. if b then row_count is_halt n else suc n) halted in
          omega (arith, same, before less)
      go (inr quiet) which before = omega (arith, lt, rows-next n quiet)

  pub rows-open : (k n : ℕ) → k ≤ n → has_halted is_halt k ≡ false → k ≤ row_count is_halt n
  rows-open k n le none =
      elim (eq-or-lt_of_le {n = k} {m = n} le) [
        | inl e ↦ omega (arith, e, rows-all n (ap (has_halted is_halt) (sym e) ∙ none))
        | inr lt ↦ omega (arith, rows-reach k n lt none)
      ]

  -- more cycles have no fewer rows
  pub rows-grow : (k n : ℕ) → k ≤ n → row_count is_halt k ≤ row_count is_halt n
  rows-grow k n le =
      elim (cases_Bool (has_halted is_halt k)) [
        | inl halted ↦ omega (arith, rows-stay k n le halted)
        | inr none ↦ omega (arith, rows-all k none, rows-open k n le none)
      ]

  -- the first cycle that halts the run has the last row
  pub halts-first : (n t : ℕ) → t < n → is_halt t ≡ true → ((k : ℕ) → k < t → is_halt k ≡ false) → row_count is_halt n ≡ suc t
  halts-first n t lt is none =
      let open_ = none-halted t none in
      let halted : has_halted is_halt (suc t) ≡ true = ap (λ b. b || is_halt t) open_ ∙ is in
      rows-stay (suc t) n (omega (arith, lt)) halted ∙ rows-next t open_

  pub halts-none : (n : ℕ) → ((t : ℕ) → t < n → is_halt t ≡ false) → row_count is_halt n ≡ n
  halts-none n none = rows-all n (none-halted n none)

  -- Counted from a cycle on before which the run isn't halted, it is halted where the whole run is, and the rows are those that are left.
  halted-later : (begin : ℕ) → has_halted is_halt begin ≡ false → (n : ℕ) → has_halted (λ k. is_halt (begin + k)) n ≡ has_halted is_halt (begin + n)
  halted-later begin none zero = let e : begin + 0 ≡ begin = omega arith in sym (ap (has_halted is_halt) e ∙ none)
  halted-later begin none (suc n) =
      let e : begin + suc n ≡ suc (begin + n) = omega arith in
      ap (λ b. b || is_halt (begin + n)) (halted-later begin none n) ∙ sym (ap (has_halted is_halt) e)

  rows-later : (begin : ℕ) → has_halted is_halt begin ≡ false → (n : ℕ) → begin + row_count (λ k. is_halt (begin + k)) n ≡ row_count is_halt (begin + n)
  rows-later begin none zero = let e : begin + 0 ≡ begin = omega arith in e ∙ sym (ap (row_count is_halt) e ∙ rows-all begin none)
  rows-later begin none (suc n) = go (cases_Bool (has_halted is_halt (begin + n))) (halted-later begin none n) (rows-later begin none n)
    where
      later : ℕ → Bool
      later k = is_halt (begin + k)

      e : begin + suc n ≡ suc (begin + n)
      e = omega arith

      go : (has_halted is_halt (begin + n) ≡ true) ⊎ (has_halted is_halt (begin + n) ≡ false) → has_halted later n ≡ has_halted is_halt (begin + n)
          → begin + row_count later n ≡ row_count is_halt (begin + n) → begin + row_count later (suc n) ≡ row_count is_halt (begin + suc n)
      go (inl halted) same before =
          ap (λ b. begin + (if b then row_count later n else suc n)) (same ∙ halted) ∙ before
          ∙ sym (ap (row_count is_halt) e ∙ ap (λ b. if b then row_count is_halt (begin + n) else suc (begin + n)) halted)
      go (inr quiet) same before =
          ap (λ b. begin + (if b then row_count later n else suc n)) (same ∙ quiet) ∙ e
          ∙ sym (ap (row_count is_halt) e ∙ rows-next (begin + n) quiet)

  pub rows-from-zero : (n : ℕ) → row_count (λ k. is_halt (0 + k)) n ≡ row_count is_halt n
  rows-from-zero n =
      let e : 0 + n ≡ n = omega arith in
      omega (arith, rows-later 0 refl n, ap (row_count is_halt) e)

  -- If no cycle before this one halts the run, but for the last of all n cycles, then each cycle before it has a row, and the rows from it
  -- on are those that are left.
  pub rows-before : (begin n : ℕ) → begin ≤ n → ((t : ℕ) → t < begin → t + 1 < n → is_halt t ≡ false) → begin ≤ row_count is_halt n
  rows-before begin zero le none = omega (arith, le)
  rows-before begin (suc n) le none =
      elim (eq-or-lt_of_le {n = begin} {m = suc n} le) [
        | inl e ↦ omega (arith, e, rows-next n (none-halted n (λ t lt. none t (omega (arith, e, lt)) (omega (arith, lt)))))
        | inr lt ↦ rows-open begin (suc n) le (none-halted begin (λ t low. none t low (omega (arith, low, lt))))
      ]

  pub rows-since : (begin n : ℕ) → begin ≤ n → ((t : ℕ) → t < begin → t + 1 < n → is_halt t ≡ false)
      → row_count (λ k. is_halt (begin + k)) (n - begin) ≡ row_count is_halt n - begin
  rows-since begin n le none =
      elim (eq-or-lt_of_le {n = begin} {m = n} le) [
        | inl e ↦
            let left : n - begin ≡ 0 = omega (arith, e) in
            ap (row_count (λ k. is_halt (begin + k))) left ∙ omega (arith, e, rows-within n)
        | inr lt ↦
            let back : begin + (n - begin) ≡ n = omega (arith, le) in
            omega (arith, rows-later begin (none-halted begin (λ t low. none t low (omega (arith, low, lt)))) (n - begin), ap (row_count is_halt) back)
      ]

-- Two tests that agree in all cycles that have a row by one of them give the same number of rows.
pub rows-agree : (one other : ℕ → Bool) (n : ℕ) → ((t : ℕ) → t < row_count one n → one t ≡ other t) → (has_halted one n ≡ has_halted other n) × (row_count one n ≡ row_count other n)
rows-agree one other zero same = (refl, refl)
rows-agree one other (suc n) same = go (cases_Bool (has_halted one n)) (rows-agree one other n)
  where
    go : (has_halted one n ≡ true) ⊎ (has_halted one n ≡ false)
        → (((t : ℕ) → t < row_count one n → one t ≡ other t) → (has_halted one n ≡ has_halted other n) × (row_count one n ≡ row_count other n))
        → (has_halted one (suc n) ≡ has_halted other (suc n)) × (row_count one (suc n) ≡ row_count other (suc n))
    go (inl halted) before =
        let stays : row_count one (suc n) ≡ row_count one n = ap (λ b. if b then row_count one n else suc n) halted in
        let b = before (λ t lt. same t (omega (arith, lt, stays))) in
        let there : has_halted other n ≡ true = sym b.0 ∙ halted in (
          or_left (has_halted one n) (one n) halted ∙ sym (or_left (has_halted other n) (other n) there),
          stays ∙ b.1 ∙ sym (ap (λ b. if b then row_count other n else suc n) there),
        )
    go (inr none) before =
        let next : row_count one (suc n) ≡ suc n = rows-next one n none in
        let b = before (λ t lt. same t (omega (arith, lt, next, rows-within one n))) in
        let there : has_halted other n ≡ false = sym b.0 ∙ none in (
          ap (λ b. b || one n) b.0 ∙ ap (λ b. has_halted other n || b) (same n (omega (arith, next))),
          next ∙ sym (rows-next other n there),
        )
