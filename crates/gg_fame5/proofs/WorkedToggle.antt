-- A unit that takes its complement in each cycle, driven by hand.
use Rattle.std.proofs.Common.{◌≡◌, ℕ, [], ◌∷◌, true, refl, ap, arith, lit<}
use Rattle.gg_bits.specs.Shape.{Fits}
use Rattle.gg_flat.specs.Circuit.{signal_shapes, driver_at}
use Rattle.gg_flat.specs.Line.{shape_at, value_at}
use Rattle.gg_flat.specs.State.{State}
use Rattle.gg_flat.specs.Settled.{Settled, driver_value}
use Rattle.gg_flat.proofs.WorkedCircuits.{toggle}
use Rattle.gg_flat.proofs.WorkedForms.{both}
use Rattle.gg_node.specs.Machine.{Machine}
use Rattle.gg_node.specs.Token.{IsNextState}
use Rattle.gg_program.specs.Programmed.{Programmed}
use Rattle.gg_fame5.specs.Machine.{unit_machine}

abbrev program : Programmed
program = record { circuit = toggle; needs = [] ∷ [] }

abbrev holds : ℕ → State
holds v = record { registers = v ∷ []; banks = [] }

-- it holds 0, and has given its token
abbrev unit : Machine
unit = unit_machine program [] 0 (holds 0) [] (true ∷ [])

row : Settled toggle (holds 0) [] (0 ∷ 0 ∷ [])
row =
    record {
      typed = record { count = refl; fits = both (λ i. Fits (shape_at (signal_shapes toggle) i) (value_at (0 ∷ 0 ∷ []) i)) (lit< tt) (lit< tt) };
      driven = both (λ s. value_at (0 ∷ 0 ∷ []) s ≡ driver_value (holds 0) [] (0 ∷ 0 ∷ []) (shape_at (signal_shapes toggle) s) (driver_at toggle s)) refl refl;
    }

-- the state of the cycle after the next isn't the next one
not-two-on : IsNextState unit (holds 0) → ⊥
not-two-on next = let e : 0 ≡ 1 = ap (λ (s : State). value_at s.registers 0) (next (0 ∷ 0 ∷ []) row) in absurd (omega (arith, e))
