-- Worked rows: stops that are looked for in a run of five cycles. Each row has one value that is shown, and behind it a stop's condition.
use Rattle.std.proofs.Common.{◌≡◌, ℕ, zero, suc, ◌<◌, [], ◌∷◌, Bool, true, false, refl, arith}
use Rattle.std.specs.Prelude.{Some, None, Result, Ok, nat_eq, nat_lt}
use Rattle.gg_io.specs.declared.endings.Ending.{Ending}
use Rattle.gg_rows.specs.inside.Printed.{IsFirst, SeesStop}

-- a stop that acts in cycle 3 is noted
noted : SeesStop [] 1 5 0 3 (7 ∷ 1 ∷ []) 3 (Ok false)
noted = record { answers = refl; goes = λ e. absurd (cc); notes = λ e. refl }

-- in cycle 4, the last one, it ends nothing
last : SeesStop [] 1 5 0 4 (7 ∷ 1 ∷ []) 0 (Ok true)
last = record { answers = refl; goes = λ e. refl; notes = λ e. absurd (cc) }

-- the first of three cycles with number 1 is cycle 1, and none has number 5
first : IsFirst (λ t. nat_eq t 1) 3 (Some 1)
first = (omega arith, refl, before)
  where
    before : (t : ℕ) → t < 1 → nat_eq t 1 ≡ false
    before zero lt = refl
    before (suc t) lt = absurd (omega (arith, lt))

none : IsFirst (λ t. nat_lt t 3) 0 None
none t lt = absurd (omega (arith, lt))

-- ---- what isn't so

-- it isn't noted in the last cycle
last-not : (after : ℕ) → SeesStop [] 1 5 0 4 (7 ∷ 1 ∷ []) after (Ok false) → ⊥
last-not after sees = let e : ◌≡◌ {A = Result Bool Ending} (Ok false) (Ok true) = sees.answers in absurd (cc)

-- a value that is shown is no condition
shown-not : (after : ℕ) → SeesStop [] 1 5 0 3 (1 ∷ 0 ∷ []) after (Ok false) → ⊥
shown-not after sees = let e : ◌≡◌ {A = Result Bool Ending} (Ok false) (Ok true) = sees.answers in absurd (cc)

-- another cycle isn't noted
other-not : SeesStop [] 1 5 0 3 (7 ∷ 1 ∷ []) 2 (Ok false) → ⊥
other-not sees = let e : ◌≡◌ {A = ℕ} 2 3 = sees.notes refl in omega (arith, e)

-- the second cycle isn't the first
second-not : IsFirst (λ t. nat_lt 0 t) 3 (Some 2) → ⊥
second-not is = let e : ◌≡◌ {A = Bool} true false = is.2 1 (omega arith) in absurd (cc)
