-- A cycle of a register that takes its complement, worked by hand.
use Rattle.std.proofs.Common.{◌≡◌, ℕ, [], ◌∷◌, refl, ap, ◌∙◌, arith, lit<}
use Rattle.gg_bits.specs.Shape.{Fits}
use Rattle.gg_flat.specs.Circuit.{signal_shapes, driver_at}
use Rattle.gg_flat.specs.Line.{shape_at, value_at}
use Rattle.gg_flat.specs.State.{State, next_state}
use Rattle.gg_flat.specs.Settled.{Settled, driver_value}
use Rattle.gg_flat.proofs.WorkedCircuits.{toggle, toggle_order}
use Rattle.gg_flat.proofs.WorkedForms.{both, toggle-ordered}
use Rattle.gg_order.proofs.RunsLemmas.UniqueLemmas.{Settled-once}
use Rattle.gg_program.specs.Right.{IsCycle}

abbrev holds : ℕ → State
holds v = record { registers = v ∷ []; banks = [] }

row : Settled toggle (holds 0) [] (0 ∷ 0 ∷ [])
row =
    record {
      typed = record { count = refl; fits = both (λ i. Fits (shape_at (signal_shapes toggle) i) (value_at (0 ∷ 0 ∷ []) i)) (lit< tt) (lit< tt) };
      driven = both (λ s. value_at (0 ∷ 0 ∷ []) s ≡ driver_value (holds 0) [] (0 ∷ 0 ∷ []) (shape_at (signal_shapes toggle) s) (driver_at toggle s)) refl refl;
    }

one-on : IsCycle [] toggle (holds 0) [] (holds 1)
one-on = record { signals = 0 ∷ 0 ∷ []; settled = row; next = refl }

-- a cycle doesn't lead to the state of the cycle after the next
not-two-on : IsCycle [] toggle (holds 0) [] (holds 0) → ⊥
not-two-on cycle =
    let same : cycle.signals ≡ 0 ∷ 0 ∷ [] = Settled-once toggle toggle_order (holds 0) [] cycle.signals (0 ∷ 0 ∷ []) toggle-ordered cycle.settled row in
    let e : 0 ≡ 1 = ap (λ (s : State). value_at s.registers 0) (cycle.next ∙ ap (next_state [] toggle (holds 0)) same) in
    absurd (omega (arith, e))
