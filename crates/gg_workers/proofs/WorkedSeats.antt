-- A row of seats worked by hand: the seats of channels 2 and 0, out of three.
use Rattle.std.proofs.Common.{◌≡◌, ℕ, zero, suc, ◌<◌, [], ◌∷◌, slice_index_or, refl, arith}
use Rattle.gg_flat.specs.Line.{value_at}
use Rattle.gg_workers.specs.inside.HostSeats.{IsRowOf}

each-place : (k a : ℕ) → k < 2 → slice_index_or (30 ∷ 10 ∷ []) k a ≡ slice_index_or (10 ∷ 20 ∷ 30 ∷ []) (value_at (2 ∷ 0 ∷ []) k) a
each-place zero a lt = refl
each-place (suc zero) a lt = refl
each-place (suc (suc k)) a lt = absurd (omega (arith, lt))

-- the row is in the order of the channels
test_in_order : IsRowOf {A = ℕ} (10 ∷ 20 ∷ 30 ∷ []) (2 ∷ 0 ∷ []) (30 ∷ 10 ∷ [])
test_in_order = record { long = refl; each = each-place }

-- a row in the order of the list of all isn't
test_not_sorted : IsRowOf {A = ℕ} (10 ∷ 20 ∷ 30 ∷ []) (2 ∷ 0 ∷ []) (10 ∷ 30 ∷ []) → ⊥
test_not_sorted row = let same : 10 ≡ 30 = row.each 0 0 (omega arith) in omega (arith, same)

-- a row without its last seat isn't
test_not_short : IsRowOf {A = ℕ} (10 ∷ 20 ∷ 30 ∷ []) (2 ∷ 0 ∷ []) (30 ∷ []) → ⊥
test_not_short row = let same : 1 ≡ 2 = row.long in omega (arith, same)
