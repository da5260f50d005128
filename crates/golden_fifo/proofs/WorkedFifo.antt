-- What a FIFO says and how it goes on, worked by hand, and what it doesn't.
use Rattle.std.proofs.Common.{◌≡◌, ℕ, zero, suc, ◌<◌, List, [], ◌∷◌, refl, ap, arith, lit<}
use Rattle.gg_bits.specs.Shape.{Fits}
use Rattle.gg_flat.specs.Circuit.{signal_shapes, driver_at}
use Rattle.gg_flat.specs.Line.{shape_at, value_at}
use Rattle.gg_flat.specs.State.{State}
use Rattle.gg_flat.specs.Settled.{Settled, driver_value}
use Rattle.gg_flat.proofs.WorkedCircuits.{one, eight}
use Rattle.gg_bridge.specs.inside.Model.{IsSaid, IsAnswer}
use Rattle.golden_fifo.specs.declared.model.Place.{Place}
use Rattle.golden_fifo.specs.inside.Fifo.{empty_place, fifo_piece, fifo_state}

-- a fact that holds at each of eleven places
eleven : (P : ℕ → Type 0) → P 0 → P 1 → P 2 → P 3 → P 4 → P 5 → P 6 → P 7 → P 8 → P 9 → P 10 → (k : ℕ) → k < 11 → P k
eleven P a b c d e f g h i j l zero lt = a
eleven P a b c d e f g h i j l (suc zero) lt = b
eleven P a b c d e f g h i j l (suc (suc zero)) lt = c
eleven P a b c d e f g h i j l (suc (suc (suc zero))) lt = d
eleven P a b c d e f g h i j l (suc (suc (suc (suc zero)))) lt = e
eleven P a b c d e f g h i j l (suc (suc (suc (suc (suc zero))))) lt = f
eleven P a b c d e f g h i j l (suc (suc (suc (suc (suc (suc zero)))))) lt = g
eleven P a b c d e f g h i j l (suc (suc (suc (suc (suc (suc (suc zero))))))) lt = h
eleven P a b c d e f g h i j l (suc (suc (suc (suc (suc (suc (suc (suc zero)))))))) lt = i
eleven P a b c d e f g h i j l (suc (suc (suc (suc (suc (suc (suc (suc (suc zero))))))))) lt = j
eleven P a b c d e f g h i j l (suc (suc (suc (suc (suc (suc (suc (suc (suc (suc zero)))))))))) lt = l
eleven P a b c d e f g h i j l (suc (suc (suc (suc (suc (suc (suc (suc (suc (suc (suc k))))))))))) lt = absurd (omega (arith, lt))

abbrev full : ℕ → Place
full value = record { full = 1; value = value }

-- only the first place is full
abbrev first-full : State
first-full = fifo_state (full 7) empty_place empty_place empty_place

first-row : Settled (fifo_piece one eight) first-full (0 ∷ 0 ∷ 0 ∷ []) (0 ∷ 0 ∷ 0 ∷ 1 ∷ 7 ∷ 0 ∷ 0 ∷ 0 ∷ 0 ∷ 0 ∷ 0 ∷ [])
first-row =
    record {
      typed = record { count = refl; fits = eleven (λ i. Fits (shape_at (signal_shapes (fifo_piece one eight)) i) (value_at (0 ∷ 0 ∷ 0 ∷ 1 ∷ 7 ∷ 0 ∷ 0 ∷ 0 ∷ 0 ∷ 0 ∷ 0 ∷ []) i)) (lit< tt) (lit< tt) (lit< tt) (lit< tt) (lit< tt) (lit< tt) (lit< tt) (lit< tt) (lit< tt) (lit< tt) (lit< tt) };
      driven = eleven (λ s. value_at (0 ∷ 0 ∷ 0 ∷ 1 ∷ 7 ∷ 0 ∷ 0 ∷ 0 ∷ 0 ∷ 0 ∷ 0 ∷ []) s ≡ driver_value first-full (0 ∷ 0 ∷ 0 ∷ []) (0 ∷ 0 ∷ 0 ∷ 1 ∷ 7 ∷ 0 ∷ 0 ∷ 0 ∷ 0 ∷ 0 ∷ 0 ∷ []) (shape_at (signal_shapes (fifo_piece one eight)) s) (driver_at (fifo_piece one eight) s)) refl refl refl refl refl refl refl refl refl refl refl;
    }

-- then the FIFO doesn't say that it is full
not-full : IsSaid (fifo_piece one eight) first-full (1 ∷ 7 ∷ 1 ∷ []) → ⊥
not-full said = let e : 0 ≡ 1 = ap (λ (l : List ℕ). value_at l 2) (said.each (0 ∷ 0 ∷ 0 ∷ []) (0 ∷ 0 ∷ 0 ∷ 1 ∷ 7 ∷ 0 ∷ 0 ∷ 0 ∷ 0 ∷ 0 ∷ 0 ∷ []) first-row) in absurd (omega (arith, e))

-- the first two places are full, and the first value goes out
abbrev two-full : State
two-full = fifo_state (full 7) (full 8) empty_place empty_place

two-row : Settled (fifo_piece one eight) two-full (0 ∷ 0 ∷ 0 ∷ []) (0 ∷ 0 ∷ 0 ∷ 1 ∷ 7 ∷ 1 ∷ 8 ∷ 0 ∷ 0 ∷ 0 ∷ 0 ∷ [])
two-row =
    record {
      typed = record { count = refl; fits = eleven (λ i. Fits (shape_at (signal_shapes (fifo_piece one eight)) i) (value_at (0 ∷ 0 ∷ 0 ∷ 1 ∷ 7 ∷ 1 ∷ 8 ∷ 0 ∷ 0 ∷ 0 ∷ 0 ∷ []) i)) (lit< tt) (lit< tt) (lit< tt) (lit< tt) (lit< tt) (lit< tt) (lit< tt) (lit< tt) (lit< tt) (lit< tt) (lit< tt) };
      driven = eleven (λ s. value_at (0 ∷ 0 ∷ 0 ∷ 1 ∷ 7 ∷ 1 ∷ 8 ∷ 0 ∷ 0 ∷ 0 ∷ 0 ∷ []) s ≡ driver_value two-full (0 ∷ 0 ∷ 0 ∷ []) (0 ∷ 0 ∷ 0 ∷ 1 ∷ 7 ∷ 1 ∷ 8 ∷ 0 ∷ 0 ∷ 0 ∷ 0 ∷ []) (shape_at (signal_shapes (fifo_piece one eight)) s) (driver_at (fifo_piece one eight) s)) refl refl refl refl refl refl refl refl refl refl refl;
    }

-- the second place doesn't give its value away in this cycle, since the first is full before it
not-lost : IsAnswer (fifo_piece one eight) two-full (0 ∷ 0 ∷ 0 ∷ []) (fifo_state (record { full = 0; value = 7 }) (record { full = 0; value = 8 }) empty_place empty_place) → ⊥
not-lost answer = let e : 0 ≡ 1 = ap (λ (s : State). value_at s.registers 2) (answer (0 ∷ 0 ∷ 0 ∷ 1 ∷ 7 ∷ 1 ∷ 8 ∷ 0 ∷ 0 ∷ 0 ∷ 0 ∷ []) two-row) in absurd (omega (arith, e))
