-- A watcher is a model, says nothing, and stays in its state.
use Rattle.std.proofs.Common.{◌≡◌, ◌≢◌, ℕ, zero, suc, ◌<◌, List, [], ◌∷◌, length, refl, arith}
use Rattle.std.specs.Prelude.{Contains, AllPairs}
use Rattle.gg_bits.specs.declared.types.Ty.{Ty}
use Rattle.gg_flat.specs.declared.piece.Driver.TheVariants.{Input}
use Rattle.gg_flat.specs.Line.{value_at}
use Rattle.gg_flat.specs.Circuit.{driver_at}
use Rattle.gg_flat.specs.Reads.{Reads}
use Rattle.gg_flat.specs.State.{IsState}
use Rattle.gg_flat.specs.Order.{IsOrder}
use Rattle.gg_flat.specs.WellFormed.{IsWellFormed, MayDrive}
use Rattle.gg_bridge.specs.Model.{IsModel}
use Rattle.gg_bridge.specs.inside.Model.{IsSaid, IsAnswer}
use Rattle.gg_bridge.specs.inside.Watched.{watched_piece, watching}

module _ (ty : Ty) where
  formed : IsWellFormed (watched_piece ty)
  formed =
      record {
        named = refl;
        distinct = apart;
        drivers = drives;
        ins = ins;
        outs = λ place lt. absurd (omega (arith, lt));
        registers = λ r d lt. absurd (omega (arith, lt));
        memories = λ m d lt. absurd (omega (arith, lt));
        reads = λ m lt. absurd (omega (arith, lt));
        register_clocks = λ r d lt. absurd (omega (arith, lt));
        memory_clocks = λ m d lt. absurd (omega (arith, lt));
      }
    where
      apart : AllPairs (λ a b. a ≢ b) (watched_piece ty).paths
      apart zero zero d less lt same = absurd (omega (arith, less))
      apart zero (suc j) d less lt same = absurd (omega (arith, lt))
      apart (suc i) zero d less lt same = absurd (omega (arith, less))
      apart (suc i) (suc j) d less lt same = absurd (omega (arith, lt))

      drives : (s : ℕ) → s < 1 → MayDrive (watched_piece ty) s (driver_at (watched_piece ty) s)
      drives zero lt = (omega arith, refl)
      drives (suc s) lt = absurd (omega (arith, lt))

      ins : (place : ℕ) → place < 1 → (value_at (0 ∷ []) place < 1) × (driver_at (watched_piece ty) (value_at (0 ∷ []) place) ≡ Input place)
      ins zero lt = (omega arith, refl)
      ins (suc place) lt = absurd (omega (arith, lt))

  reads-none : (a b : ℕ) → Reads (watched_piece ty) a b → ⊥
  reads-none zero b reads = reads.names
  reads-none (suc a) b reads = absurd (let lt = reads.signal in omega (arith, lt))

  ordered : IsOrder (watched_piece ty) (0 ∷ [])
  ordered =
      record {
        signals = signals;
        once = once;
        every = every;
        after = λ i s lt reads. absurd (reads-none (value_at (0 ∷ []) i) s reads);
      }
    where
      signals : (i : ℕ) → i < 1 → value_at (0 ∷ []) i < 1
      signals zero lt = omega arith
      signals (suc i) lt = absurd (omega (arith, lt))

      once : AllPairs {X = ℕ} (λ a b. a ≢ b) (0 ∷ [])
      once zero zero d less lt same = absurd (omega (arith, less))
      once zero (suc j) d less lt same = absurd (omega (arith, lt))
      once (suc i) zero d less lt same = absurd (omega (arith, less))
      once (suc i) (suc j) d less lt same = absurd (omega (arith, lt))

      every : (s : ℕ) → s < 1 → Contains (0 ∷ []) s
      every zero lt = (0, omega arith, refl)
      every (suc s) lt = absurd (omega (arith, lt))

  none : (out : ℕ) → Contains [] out → ⊥
  none out (k, lt, e) = absurd (omega (arith, lt))

  pub watched-model : IsModel (watched_piece ty)
  watched-model = record { formed = formed; order = 0 ∷ []; ordered = ordered; clocks = refl; apart = λ out signal a b reaches. absurd (none out a) }

  pub watched-is-state : IsState (watched_piece ty) watching
  watched-is-state = record { typed = record { count = refl; fits = λ i lt. absurd (omega (arith, lt)) }; held = record { count = refl; each = λ m any lt. absurd (omega (arith, lt)) } }

  pub watched-said : (values : List ℕ) → length values ≡ 0 → IsSaid (watched_piece ty) watching values
  watched-said [] e = record { count = refl; each = λ inputs row settled. refl }
  watched-said (v ∷ values) e = absurd (omega (arith, e))

  pub watched-answer : (seen : List ℕ) → IsAnswer (watched_piece ty) watching seen watching
  watched-answer seen row settled = refl
