-- A queue of two places worked by hand, in which one value stands, and what its seats may not know.
use Rattle.std.proofs.Common.{◌≡◌, ℕ, ◌+◌, List, [], ◌∷◌, length, refl, arith}
use Rattle.gg_ruled.specs.inside.Rule.{putter, taker, has_taken, Keeps}

abbrev stream : List ℕ
stream = 5 ∷ []

-- the seat that puts doesn't take the value out: the other one still counts it as there
not-taken : Keeps [] (has_taken (putter stream 2 1) ∷ taker stream 2 0 0 ∷ []) → ⊥
not-taken keeps =
    let put : 1 ≡ length keeps.done + 0 = ((keeps.fits 0 (has_taken (putter stream 2 1)) refl).0 refl).1.count in
    let taken : 0 ≡ length keeps.done = ((keeps.fits 1 (taker stream 2 0 0) refl).1 refl).1.count in
    absurd (omega (arith, put, taken))
