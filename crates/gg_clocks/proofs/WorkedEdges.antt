-- Edges worked by hand.
use Rattle.std.proofs.Common.{◌≡◌, ℕ, List, [], ◌∷◌, map, true, false, refl, sym, true≢false, arith}
use Rattle.gg_flat.specs.Clock.{Ratio, edge}
use Rattle.gg_clocks.specs.inside.Edges.{IsRatio, edge_count}

-- the ticks from 0 to 5
abbrev six : List ℕ
six = 0 ∷ 1 ∷ 2 ∷ 3 ∷ 4 ∷ 5 ∷ []

-- ---- two of three

abbrev two_of_three : Ratio
two_of_three = record { m = 2; d = 3 }

two-edges : map (edge two_of_three) six ≡ false ∷ true ∷ true ∷ false ∷ true ∷ true ∷ []
two-edges = refl

-- the count before a tick doesn't take in that tick's edge
two-counts : map (edge_count two_of_three) six ≡ 0 ∷ 0 ∷ 1 ∷ 2 ∷ 2 ∷ 3 ∷ []
two-counts = refl

near-two-counts : edge_count two_of_three 2 ≡ 2 → ⊥
near-two-counts e = absurd (omega (arith, e))

-- no edge in the first tick, but one in the second
near-two-edges : edge two_of_three 0 ≡ true → ⊥
near-two-edges e = true≢false (sym e)

-- ---- each tick

abbrev each : Ratio
each = record { m = 1; d = 1 }

each-edges : map (edge each) six ≡ true ∷ true ∷ true ∷ true ∷ true ∷ true ∷ []
each-edges = refl

each-counts : map (edge_count each) six ≡ 0 ∷ 1 ∷ 2 ∷ 3 ∷ 4 ∷ 5 ∷ []
each-counts = refl

-- ---- one of 65,535, the rarest

abbrev rarest : Ratio
rarest = record { m = 1; d = 65535 }

rarest-edges : map (edge rarest) (0 ∷ 65533 ∷ 65534 ∷ 65535 ∷ 131068 ∷ 131069 ∷ []) ≡ false ∷ false ∷ true ∷ false ∷ false ∷ true ∷ []
rarest-edges = refl

near-rarest-edges : edge rarest 65535 ≡ true → ⊥
near-rarest-edges e = true≢false (sym e)

-- ---- numbers that are no ratio

near-none : IsRatio (record { m = 0; d = 1 }) → ⊥
near-none is = absurd (omega (arith, is.some))

near-more-than-all : IsRatio (record { m = 4; d = 3 }) → ⊥
near-more-than-all is = absurd (omega (arith, is.within))

near-too-rare : IsRatio (record { m = 1; d = 65536 }) → ⊥
near-too-rare is = absurd (omega (arith, is.small))
