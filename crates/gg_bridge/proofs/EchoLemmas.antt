-- An echo is a model, says what it has kept, and keeps what it sees.
use Rattle.std.proofs.Common.{◌≡◌, ◌≢◌, ℕ, zero, suc, ◌<◌, ◌^◌, List, [], ◌∷◌, length, refl, sym, ◌∙◌, ap, arith}
use Rattle.std.specs.Prelude.{Contains, All, AllPairs}
use Rattle.gg_bits.specs.Shape.{shape, Fits}
use Rattle.gg_bits.specs.declared.types.Ty.{Ty}
use Rattle.gg_flat.specs.declared.piece.Register.{Register}
use Rattle.gg_flat.specs.declared.piece.Driver.TheVariants.{Input}
use Rattle.gg_flat.specs.Line.{value_at, shape_at, HasType}
use Rattle.gg_flat.specs.Circuit.{FlatCircuit, signal_shapes, driver_at}
use Rattle.gg_flat.specs.Reads.{Reads, IsPath}
use Rattle.gg_flat.specs.Order.{IsOrder}
use Rattle.gg_flat.specs.Settled.{IsInputs}
use Rattle.gg_flat.specs.State.{IsState}
use Rattle.gg_flat.specs.WellFormed.{IsWellFormed, MayDrive, IsRegister, IsClock}
use Rattle.gg_bridge.specs.Model.{IsModel}
use Rattle.gg_bridge.specs.inside.Model.{IsSaid, IsAnswer}
use Rattle.gg_bridge.proofs.FormedLemmas.{copy-source}
use Rattle.gg_bridge.proofs.RunLemmas.{copy-value}
use Rattle.gg_bridge.specs.inside.Echo.{echo_piece, echo_state}

module _ (ty : Ty) where
  abbrev echo : FlatCircuit
  echo = echo_piece ty

  formed : IsWellFormed (echo_piece ty)
  formed =
      record {
        named = refl;
        distinct = apart;
        drivers = drives;
        ins = ins;
        outs = outs;
        registers = registers;
        memories = λ m d lt. absurd (omega (arith, lt));
        reads = λ m lt. absurd (omega (arith, lt));
        register_clocks = clocks;
        memory_clocks = λ m d lt. absurd (omega (arith, lt));
      }
    where
      apart : AllPairs (λ a b. a ≢ b) (echo_piece ty).paths
      apart zero (suc zero) d less lt same = (let e = ap (λ (l : List ℕ). length l) same in omega (arith, e))
      apart zero zero d less lt same = absurd (omega (arith, less))
      apart zero (suc (suc j)) d less lt same = absurd (omega (arith, lt))
      apart (suc i) zero d less lt same = absurd (omega (arith, less))
      apart (suc i) (suc zero) d less lt same = absurd (omega (arith, less))
      apart (suc i) (suc (suc j)) d less lt same = absurd (omega (arith, lt))

      drives : (s : ℕ) → s < 2 → MayDrive echo s (driver_at echo s)
      drives zero lt = (omega arith, refl)
      drives (suc zero) lt = (omega arith, refl)
      drives (suc (suc s)) lt = absurd (omega (arith, lt))

      ins : (place : ℕ) → place < 1 → (value_at (0 ∷ []) place < 2) × (driver_at echo (value_at (0 ∷ []) place) ≡ Input place)
      ins zero lt = (omega arith, refl)
      ins (suc place) lt = absurd (omega (arith, lt))

      outs : (place : ℕ) → place < 1 → value_at (1 ∷ []) place < 2
      outs zero lt = omega arith
      outs (suc place) lt = absurd (omega (arith, lt))

      registers : All (IsRegister (HasType (signal_shapes echo))) echo.registers
      registers zero d lt = record { reset = tt; next = copy-source echo (shape ty) ty 0 (omega arith, refl) refl }
      registers (suc r) d lt = absurd (omega (arith, lt))

      clocks : All (λ (register : Register). IsClock 0 register.clock) echo.registers
      clocks zero d lt = tt
      clocks (suc r) d lt = absurd (omega (arith, lt))

  reads-none : (a b : ℕ) → Reads (echo_piece ty) a b → ⊥
  reads-none zero b reads = reads.names
  reads-none (suc zero) b reads = reads.names
  reads-none (suc (suc a)) b reads = absurd (let lt = reads.signal in omega (arith, lt))

  ordered : IsOrder (echo_piece ty) (0 ∷ 1 ∷ [])
  ordered =
      record {
        signals = signals;
        once = once;
        every = every;
        after = λ i s lt reads. absurd (reads-none (value_at (0 ∷ 1 ∷ []) i) s reads);
      }
    where
      signals : (i : ℕ) → i < 2 → value_at (0 ∷ 1 ∷ []) i < 2
      signals zero lt = omega arith
      signals (suc zero) lt = omega arith
      signals (suc (suc i)) lt = absurd (omega (arith, lt))

      once : AllPairs {X = ℕ} (λ a b. a ≢ b) (0 ∷ 1 ∷ [])
      once zero (suc zero) d less lt same = absurd (omega (arith, same))
      once zero zero d less lt same = absurd (omega (arith, less))
      once zero (suc (suc j)) d less lt same = absurd (omega (arith, lt))
      once (suc i) zero d less lt same = absurd (omega (arith, less))
      once (suc i) (suc zero) d less lt same = absurd (omega (arith, less))
      once (suc i) (suc (suc j)) d less lt same = absurd (omega (arith, lt))

      every : (s : ℕ) → s < 2 → Contains (0 ∷ 1 ∷ []) s
      every zero lt = (0, omega arith, refl)
      every (suc zero) lt = (1, omega arith, refl)
      every (suc (suc s)) lt = absurd (omega (arith, lt))

  only-one : (x y : ℕ) → Contains (x ∷ []) y → x ≡ y
  only-one x y (zero, lt, e) = e
  only-one x y (suc k, lt, e) = absurd (omega (arith, lt))

  pub echo-model : IsModel (echo_piece ty)
  echo-model =
      record {
        formed = formed;
        order = 0 ∷ 1 ∷ [];
        ordered = ordered;
        clocks = refl;
        apart = λ out signal a b reaches. apart out signal (only-one 1 out a) (only-one 0 signal b) reaches.path reaches.reads;
      }
    where
      apart : (out signal : ℕ) → 1 ≡ out → 0 ≡ signal → (path : List ℕ) → IsPath echo out path signal → ⊥
      apart out signal a b [] is = absurd (omega (arith, a, b, is))
      apart out signal a b (next ∷ path) is = reads-none out next is.0

  -- a value of its type makes a state of it
  pub echo-is-state : (last : ℕ) → last < 2 ^ ty.width → IsState (echo_piece ty) (echo_state last)
  echo-is-state last fits = record { typed = record { count = refl; fits = at }; held = record { count = refl; each = λ m any lt. absurd (omega (arith, lt)) } }
    where
      at : (i : ℕ) → i < 1 → Fits (shape_at (shape ty ∷ []) i) (value_at (last ∷ []) i)
      at zero lt = fits
      at (suc i) lt = absurd (omega (arith, lt))

  pub echo-said : (last : ℕ) → IsSaid (echo_piece ty) (echo_state last) (last ∷ [])
  echo-said last = record { count = refl; each = λ inputs row settled. ap (λ v. v ∷ []) (settled.driven 1 (omega arith)) }

  pub echo-answer : (last : ℕ) (seen : List ℕ) → IsAnswer (echo_piece ty) (echo_state last) seen (echo_state (value_at seen 0))
  echo-answer last seen row settled =
      ap echo_state (sym (copy-value row ty 0 (settled.typed.fits 0 (omega arith)) ∙ settled.driven 0 (omega arith)))

  -- what it sees is of its type
  pub echo-fits : (seen : List ℕ) → IsInputs (echo_piece ty) seen → value_at seen 0 < 2 ^ ty.width
  echo-fits seen typed = typed.fits 0 (omega arith)
