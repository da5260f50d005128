-- The first cycle in which a stop ends a run, from the rows that were looked at one after another.
use Rattle.std.proofs.Common.{◌≡◌, ℕ, zero, suc, ◌+◌, ◌<◌, ◌≤◌, List, Bool, true, false, length, refl, sym, ap, ◌∙◌, subst, inl, inr, ◌⊎◌, arith}
use Rattle.std.specs.Prelude.{Some, None, Result, Ok, Err, not, nat_lt, ◌&&◌, drop}
use Rattle.std.proofs.Math.Nat.{eq-or-lt_of_le}
use Rattle.gg_flat.specs.Circuit.{FlatCircuit}
use Rattle.gg_flat.specs.Clock.{Ratio}
use Rattle.gg_flat.specs.declared.ports.Port.{Port}
use Rattle.gg_io.specs.declared.endings.Ending.{Ending}
use Rattle.gg_io.specs.declared.endings.Ending.TheVariants.{NoMemory}
use Rattle.gg_trace.specs.Last.{acts}
use Rattle.gg_rows.specs.inside.Rows.{outputs_in}
use Rattle.gg_rows.specs.inside.Printed.{IsFirst, SeesStop, ends_run}
use Rattle.gg_rows.specs.inside.Taken.{TakesSome, Took, TookTo, WentBy}
use Rattle.gg_rows.specs.inside.Taken.Took.{All, Last, Fails, Wants}
use Rattle.gg_rows.proofs.PrintLemmas.{halts-row, not-not}

same-answer : (a b : Bool) → ◌≡◌ {A = Result Bool Ending} (Ok a) (Ok b) → a ≡ b
same-answer a b e = cc

module _ (stops : List Ratio) (circuit : FlatCircuit) (ports : List Port) (rows : List (List ℕ)) (cycles n : ℕ) (counted : length rows ≡ n) (before : ℕ) where
  abbrev row : ℕ → List ℕ
  row t = outputs_in circuit rows t

  abbrev ends_at : ℕ → Bool
  ends_at t = ends_run stops circuit ports rows cycles t

  abbrev sees : ℕ → ℕ → List ℕ → ℕ → Result Bool Ending → Type 0
  sees = SeesStop stops (length ports) cycles

  -- what is answered of a row tells whether a stop ends the run in its cycle
  seen-so : (t : ℕ) → t < n → (goes_on : Bool) → ◌≡◌ {A = Result Bool Ending} (Ok goes_on) (Ok (not (acts stops t (drop (length ports) (row t)) && nat_lt (t + 1) cycles))) → ends_at t ≡ not goes_on
  seen-so t lt goes_on is =
      let acted = acts stops t (drop (length ports) (row t)) in
      ap (λ b. b && nat_lt (t + 1) cycles) (sym (halts-row stops circuit ports rows t (row t) acted (omega (arith, lt, counted)) refl refl))
      ∙ sym (not-not (acted && nat_lt (t + 1) cycles))
      ∙ ap not (sym (same-answer goes_on (not (acted && nat_lt (t + 1) cycles)) is))

  -- the row of a cycle, by the number of rows before it
  seen-at : (t now later : ℕ) (answer : Result Bool Ending) → sees now (0 + t) (row (0 + t)) later answer → sees now t (row t) later answer
  seen-at t now later answer saw = let there : 0 + t ≡ t = omega arith in subst (λ c. sees now c (row c) later answer) there saw

  -- no stop ends the run in a cycle after whose row it was to go on
  none-to : (k : ℕ) → k ≤ n → (after : ℕ) → TookTo sees row 0 before k after → (t : ℕ) → t < k → ends_at t ≡ false
  none-to zero le after took t lt = absurd (omega (arith, lt))
  none-to (suc k) le after (middle, took, last) t lt =
      elim (eq-or-lt_of_le {n = t} {m = k} (omega (arith, lt))) [
        | inl is ↦ ap ends_at is ∙ seen-so k (omega (arith, le)) true (seen-at k middle after (Ok true) last).answers
        | inr low ↦ none-to k (omega (arith, le)) middle took t low
      ]

  -- all rows were looked at
  pub saw-none : {m count after : ℕ} → m ≡ n → Took sees row 0 m count before after (Ok true) → IsFirst (ends_run stops circuit ports rows cycles) n None
  saw-none {m = m} {after = after} whole (All took counts ends) = λ t lt. none-to m (omega (arith, whole)) after took t (omega (arith, lt, whole))
  saw-none whole (Last t lt middle took last counts ends) = let e : Ok true ≡ Ok false = ends in absurd (cc)
  saw-none whole (Fails t lt middle took ending fails counts ends) = let e : Ok true ≡ Err ending = ends in absurd (cc)
  saw-none whole (Wants within took ends) = let e : Ok true ≡ Err NoMemory = ends in absurd (cc)

  -- the looking ended with the row of a cycle, which was noted
  pub saw-first : {m count after : ℕ} → m ≡ n → Took sees row 0 m count before after (Ok false) → IsFirst (ends_run stops circuit ports rows cycles) n (Some after)
  saw-first whole (All took counts ends) = let e : Ok false ≡ Ok true = ends in absurd (cc)
  saw-first {after = after} whole (Last t lt middle took last counts ends) =
      let saw = seen-at t middle after (Ok false) last in
      let low : t < n = omega (arith, lt, whole) in
      subst (λ b. IsFirst (ends_run stops circuit ports rows cycles) n (Some b)) (sym (saw.notes refl)) (low, seen-so t low false saw.answers, none-to t (omega (arith, low)) middle took)
  saw-first whole (Fails t lt middle took ending fails counts ends) = let e : Ok false ≡ Err ending = ends in absurd (cc)
  saw-first whole (Wants within took ends) = let e : Ok false ≡ Err NoMemory = ends in absurd (cc)

-- each row can be looked at
pub stops-for-memory : (stops : List Ratio) (shown cycles before after : ℕ) (ending : Ending) → WentBy (SeesStop stops shown cycles) before after (Err ending) → ending ≡ NoMemory
stops-for-memory stops shown cycles before after ending went = by went.cause
  where
    by : (ending ≡ NoMemory) ⊎ ((old : ℕ) × (new : ℕ) × TakesSome (SeesStop stops shown cycles) old new (Err ending)) → ending ≡ NoMemory
    by (inl is) = is
    by (inr (old, new, some)) =
        let e : ◌≡◌ {A = Result Bool Ending} (Err ending) (Ok (not (acts stops some.cycle (drop shown some.row) && nat_lt (some.cycle + 1) cycles))) = some.took.answers in absurd (cc)
