-- The values of signals at the front of a list.
use Rattle.std.proofs.Common.{◌≡◌, ℕ, zero, suc, ◌<◌, ◌+◌, List, [], ◌∷◌, ◌++◌, take, set, refl, sym, ◌∙◌, ap, ap₂, arith}
use Rattle.std.specs.Prelude.{replicate}
use Rattle.std.proofs.lemmas.List.{replicate-append-replicate, length-replicate, take-append-le, take_all}
use Rattle.gg_tape.specs.inside.Cells.{Celled}

abbrev pub the-cells : List ℕ → ℕ → Celled
the-cells values room = record { values = values; room = room }

-- two that have the same values and room are the same
pub Celled-same : {v w : List ℕ} {r t : ℕ} → v ≡ w → r ≡ t → the-cells v r ≡ the-cells w t
Celled-same values room = ap₂ the-cells values room

-- a write at the front is a write to the front
pub take-set-below : (n : ℕ) (xs : List ℕ) (i v : ℕ) → i < n → take n (set xs i v) ≡ set (take n xs) i v
take-set-below zero xs i v lt = absurd (omega (arith, lt))
take-set-below (suc n) [] i v lt = refl
take-set-below (suc n) (x ∷ xs) zero v lt = refl
take-set-below (suc n) (x ∷ xs) (suc i) v lt = ap (λ ys. x ∷ ys) (take-set-below n xs i v (omega (arith, lt)))

pub take-zeros : (n m : ℕ) → take {A = ℕ} n (replicate (n + m) 0) ≡ replicate n 0
take-zeros n m = ap (take {A = ℕ} n) (sym (replicate-append-replicate {A = ℕ} n m 0)) ∙ take-front n m
  where
    take-front : (n m : ℕ) → take {A = ℕ} n (replicate n 0 ++ replicate m 0) ≡ replicate n 0
    take-front n m = take-append-le {A = ℕ} n (replicate n 0) (replicate m 0) (omega (arith, length-replicate {A = ℕ} n 0)) ∙ take_all n (replicate n 0) (omega (arith, length-replicate {A = ℕ} n 0))
