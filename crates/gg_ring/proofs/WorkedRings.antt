-- Rings worked by hand: one of two places, of which one value was taken and two are left.
use Rattle.std.proofs.Common.{◌≡◌, ℕ, zero, suc, ◌<◌, ◌≤◌, ◌+◌, true, true≢false, List, [], ◌∷◌, refl, sym, ◌∙◌, arith}
use mathlib.Core.Option.{some, some-injective, some-ne-none}
use lib.ListN.{get_elem?}
use Rattle.atomic_table.specs.Table.{State}
use Rattle.gg_ring.specs.declared.rule.View.{View}
use Rattle.gg_ring.specs.inside.Rule.{low_word, high_word, low, high, StandsLow, StandsHigh, Laid, FitsPut, FitsTake, Holds}
use Rattle.gg_ring.specs.Seats.{steps_of_a_call}
use Rattle.gg_ring.specs.inside.Views.{putter, taker, saw_head, stored_to, has_put, loaded_low, loaded_high, has_taken}

-- ---- words

first-low : low_word 2 1 ≡ 4
first-low = refl

-- the third value stands where the first one stood
third-high : high_word 2 2 ≡ 3
third-high = refl

low-half : low 18446744073709551623 ≡ 7
low-half = refl

high-half : high 18446744073709551623 ≡ 1
high-half = refl

abbrev stream : List ℕ
stream = 5 ∷ 18446744073709551623 ∷ 9 ∷ []

-- head, tail, the third value, the second value
abbrev words : List ℕ
words = 1 ∷ 3 ∷ 9 ∷ 0 ∷ 7 ∷ 1 ∷ []

laid : Laid words 2 stream 1 3
laid = record { some_place = omega arith; words_are = refl; head_is = refl; tail_is = refl; order = omega arith; room = omega arith; inside = omega arith; lows = lows; highs = highs }
  where
    lows : (k : ℕ) → 1 ≤ k → k < 3 → StandsLow words 2 stream k
    lows zero a b = absurd (omega arith)
    lows (suc zero) a b = refl
    lows (suc (suc zero)) a b = refl
    lows (suc (suc (suc k))) a b = absurd (omega arith)

    highs : (k : ℕ) → 1 ≤ k → k < 3 → StandsHigh words 2 stream k
    highs zero a b = absurd (omega arith)
    highs (suc zero) a b = refl
    highs (suc (suc zero)) a b = refl
    highs (suc (suc (suc k))) a b = absurd (omega arith)

-- the halves of the second value are exchanged
not-exchanged : Laid (1 ∷ 3 ∷ 9 ∷ 0 ∷ 1 ∷ 7 ∷ []) 2 stream 1 3 → ⊥
not-exchanged l = let half : 1 ≡ 7 = l.lows 1 (omega arith) (omega arith) in omega (arith, half)

-- a value that was put over the oldest one
not-three : Laid (0 ∷ 3 ∷ 9 ∷ 0 ∷ 7 ∷ 1 ∷ []) 2 stream 0 3 → ⊥
not-three l = let room = l.room in omega arith

-- ---- seats

-- a seat that has put two values and stores the third
abbrev putting : View
putting = stored_to (saw_head (putter stream 2 2 0) 1) 1

half-stored : FitsPut (1 ∷ 2 ∷ 9 ∷ 6 ∷ 7 ∷ 1 ∷ []) 2 stream 1 2 putting
half-stored = record { stream_is = refl; capacity_is = refl; count = refl; seen = omega arith; first = λ _. refl; second = λ more. absurd (omega arith) }

-- the place still has a value that was taken
not-stored : FitsPut (1 ∷ 2 ∷ 5 ∷ 0 ∷ 7 ∷ 1 ∷ []) 2 stream 1 2 putting → ⊥
not-stored f = let half : 5 ≡ 9 = f.first (omega arith) in omega (arith, half)

-- a put is a look, two halves and a count: four moves
four-moves : (has_put (stored_to putting 2)).moves ≡ 4
four-moves = refl

-- a seat that has taken one value and loaded the second
abbrev taking : View
taking = loaded_high (loaded_low (taker stream 2 1 2) 7) 1

loaded : FitsTake 2 stream 1 3 taking
loaded = record { stream_is = refl; capacity_is = refl; count = refl; seen = omega arith; first = λ _. refl; second = λ _. refl }

not-loaded : FitsTake 2 stream 1 3 (loaded_high (loaded_low (taker stream 2 1 2) 1) 7) → ⊥
not-loaded f = let half : 1 ≡ 7 = f.first (omega arith) in omega (arith, half)

counted : (has_taken taking).taken ≡ 2
counted = refl

-- ---- the rule

abbrev of_views : List View → State (Unit {0}) View
of_views views = record { words = words; homes = []; views = views }

-- two seats that put
not-two : Holds 2 (of_views (putter stream 2 3 0 ∷ putter stream 2 3 0 ∷ [])) → ⊥
not-two h =
    let v : View = putter stream 2 3 0 in
    let first : 0 ≡ h.putter = ((h.fits 0 v refl).0 refl).0 in
    let second : 1 ≡ h.putter = ((h.fits 1 v refl).0 refl).0 in omega arith

-- no seat that takes
not-none : Holds 2 (of_views (putter stream 2 3 0 ∷ [])) → ⊥
not-none h = none h.taker h.one_takes.0 h.one_takes.1 h.one_takes.2
  where
    none : (t : ℕ) (v : View) → get_elem? (putter stream 2 3 0 ∷ []) t ≡ some v → v.takes ≡ true → ⊥
    none zero v at takes = true≢false (sym takes ∙ (λ i. (some-injective v (putter stream 2 3 0) (sym at) i).takes))
    none (suc t) v at takes = some-ne-none v (sym at)

-- a call makes no fifth step
not-five : 7 + 5 ≤ 7 + steps_of_a_call → ⊥
not-five moves = let least : 12 ≤ 11 = moves in omega (arith, least)
