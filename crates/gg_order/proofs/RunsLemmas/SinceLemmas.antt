-- Cycles counted from a start: the next one, and the row of a cycle after the rows before the start were dropped.
use Rattle.std.proofs.Common.{◌≡◌, ℕ, zero, suc, ◌≤◌, ◌+◌, List, [], ◌∷◌, drop, refl, ap, arith}
use Rattle.gg_flat.specs.Run.{later, since, row_at}

pub since-next : (c t : ℕ) → c ≤ t → since c (suc t) ≡ suc (since c t)
since-next zero t le = refl
since-next (suc c) zero le = absurd (omega (arith, le))
since-next (suc c) (suc t) le = since-next c t (omega (arith, le))

pub later-since : (c t : ℕ) → c ≤ t → later c (since c t) ≡ t
later-since zero t le = refl
later-since (suc c) zero le = absurd (omega (arith, le))
later-since (suc c) (suc t) le = ap suc (later-since c t (omega (arith, le)))

pub since-add : (c t : ℕ) → c ≤ t → c + since c t ≡ t
since-add zero t le = omega arith
since-add (suc c) zero le = absurd (omega (arith, le))
since-add (suc c) (suc t) le = omega (arith, since-add c t (omega (arith, le)))

pub since-self : (c : ℕ) → since c c ≡ 0
since-self zero = refl
since-self (suc c) = since-self c

pub row-dropped : (c t : ℕ) (rows : List (List ℕ)) → c ≤ t → row_at (drop c rows) (since c t) ≡ row_at rows t
row-dropped zero t rows le = refl
row-dropped (suc c) zero rows le = absurd (omega (arith, le))
row-dropped (suc c) (suc t) [] le = refl
row-dropped (suc c) (suc t) (row ∷ rows) le = row-dropped c t rows (omega (arith, le))
