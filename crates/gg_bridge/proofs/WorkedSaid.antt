-- What a model with two registers says, worked by hand: each out-signal has what its register holds.
use Rattle.std.proofs.Common.{◌≡◌, ℕ, ◌<◌, List, [], ◌∷◌, codes, None, false, refl, ap, arith, lit<}
use Rattle.gg_bits.specs.Shape.{Fits}
use Rattle.gg_flat.specs.declared.piece.Driver.TheVariants.{Held}
use Rattle.gg_flat.specs.declared.piece.Register.{Register}
use Rattle.gg_flat.specs.Circuit.{FlatCircuit, signal_shapes, driver_at}
use Rattle.gg_flat.specs.Line.{shape_at, value_at}
use Rattle.gg_flat.specs.State.{State}
use Rattle.gg_flat.specs.Settled.{Settled, driver_value}
use Rattle.gg_flat.proofs.WorkedCircuits.{eight}
use Rattle.gg_flat.proofs.WorkedForms.{both}
use Rattle.gg_flat.proofs.WorkedMemories.{signal}
use Rattle.gg_node.specs.Machine.{Machine}
use Rattle.gg_node.specs.Token.{AgreesOn, IsToken}
use Rattle.gg_bridge.specs.Hosted.{bridge_machine}
use Rattle.gg_bridge.specs.Turned.{turned}
use Rattle.gg_bridge.specs.inside.Model.{IsSaid}

abbrev kept : Register
kept = record { ty = eight; reset = None; next = None; clock = None }

-- two registers, a signal for each, and these out-signals
abbrev twin : List ℕ → FlatCircuit
twin outs =
    record {
      paths = codes "p" ∷ codes "q" ∷ [];
      signals = signal eight (Held 0) ∷ signal eight (Held 1) ∷ [];
      registers = kept ∷ kept ∷ [];
      memories = [];
      ins = [];
      outs = outs;
      clocks = 0;
    }

abbrev holds : ℕ → ℕ → State
holds p q = record { registers = p ∷ q ∷ []; banks = [] }

row : (outs : List ℕ) → Settled (twin outs) (holds 5 6) [] (5 ∷ 6 ∷ [])
row outs =
    record {
      typed = record { count = refl; fits = both (λ i. Fits (shape_at (signal_shapes (twin outs)) i) (value_at (5 ∷ 6 ∷ []) i)) (lit< tt) (lit< tt) };
      driven = both (λ s. value_at (5 ∷ 6 ∷ []) s ≡ driver_value (holds 5 6) [] (5 ∷ 6 ∷ []) (shape_at (signal_shapes (twin outs)) s) (driver_at (twin outs) s)) refl refl;
    }

-- what it says isn't what it said in the state before
not-before : IsSaid (twin (0 ∷ 1 ∷ [])) (holds 5 6) (4 ∷ 6 ∷ []) → ⊥
not-before said = let e : 5 ≡ 4 = ap (λ (l : List ℕ). value_at l 0) (said.each [] (5 ∷ 6 ∷ []) (row (0 ∷ 1 ∷ []))) in absurd (omega (arith, e))

-- a host whose outs have the other order
abbrev host : Machine
host = bridge_machine (turned (twin (0 ∷ 1 ∷ [])) [] (1 ∷ 0 ∷ [])) 0 (holds 5 6) [] (false ∷ false ∷ [])

-- the token of its first out isn't what the model's first out-signal has
not-the-models : IsToken host 0 5 → ⊥
not-the-models token = let e : 6 ≡ 5 = token [] (5 ∷ 6 ∷ []) (row (1 ∷ 0 ∷ [])) none in absurd (omega (arith, e))
  where
    none : AgreesOn [] [] []
    none i value has is = let never : has.0 < 0 = has.1 in absurd (omega (arith, never))
