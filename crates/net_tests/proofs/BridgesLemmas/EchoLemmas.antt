-- An echo can stand at the ports of an echo's own circuit, and be the machine of a host.
use Rattle.std.proofs.Common.{◌≡◌, ◌≢◌, ℕ, zero, suc, ◌^◌, ◌<◌, List, [], ◌∷◌, ◌++◌, codes, refl, ap, arith}
use Rattle.std.specs.Prelude.{All, Contains}
use Rattle.gg_bits.specs.Shape.{Fits}
use Rattle.gg_bits.specs.declared.types.Ty.{Ty}
use Rattle.gg_flat.specs.Circuit.{signal_shapes}
use Rattle.gg_flat.specs.Line.{value_at, shape_at}
use Rattle.gg_flat.specs.Settled.{IsInputs, in_shapes}
use Rattle.gg_flat_tree.specs.Tree.{path_at}
use Rattle.gg_bridge.specs.inside.Joined.{CanJoin}
use Rattle.gg_bridge.specs.inside.Echo.{echo_piece}
use Rattle.gg_bridge.specs.inside.Hosted.{ArePorts}
use Rattle.gg_bridge.specs.inside.Ports.{CanStand, IsAmong}
use Rattle.gg_bridge.specs.Ports.{front_of}

module _ (ty : Ty) where
  fresh : (s i : ℕ) → s < 2 → i < 2 → path_at (echo_piece ty).paths s ≢ front_of (codes "echo8") ++ path_at (echo_piece ty).paths i
  fresh zero i lt less same = absurd (let e = ap (λ l. value_at l 0) same in omega (arith, e))
  fresh (suc zero) i lt less same = absurd (let e = ap (λ l. value_at l 0) same in omega (arith, e))
  fresh (suc (suc s)) i lt less same = absurd (omega (arith, lt))

  can : CanJoin (echo_piece ty) (front_of (codes "echo8")) (echo_piece ty) (1 ∷ []) (0 ∷ [])
  can =
      record {
        seen_count = refl;
        seen = seen;
        seen_type = seen-type;
        driven_count = refl;
        driven = driven;
        driven_type = driven-type;
        once = λ i j d less lt same. absurd (omega (arith, less, lt));
        fresh = fresh;
      }
    where
      seen : (i : ℕ) → i < 1 → value_at (1 ∷ []) i < 2
      seen zero lt = omega arith
      seen (suc i) lt = absurd (omega (arith, lt))

      seen-type : (i : ℕ) → i < 1 → shape_at (signal_shapes (echo_piece ty)) (value_at (1 ∷ []) i) ≡ shape_at (signal_shapes (echo_piece ty)) (value_at (0 ∷ []) i)
      seen-type zero lt = refl
      seen-type (suc i) lt = absurd (omega (arith, lt))

      driven : (i : ℕ) → i < 1 → Contains {X = ℕ} (0 ∷ []) (value_at (0 ∷ []) i)
      driven zero lt = (0, omega arith, refl)
      driven (suc i) lt = absurd (omega (arith, lt))

      driven-type : (i : ℕ) → i < 1 → shape_at (signal_shapes (echo_piece ty)) (value_at (0 ∷ []) i) ≡ shape_at (signal_shapes (echo_piece ty)) (value_at (1 ∷ []) i)
      driven-type zero lt = refl
      driven-type (suc i) lt = absurd (omega (arith, lt))

  pub stands : CanStand (echo_piece ty) (codes "echo8") (echo_piece ty) (codes "out" ∷ []) (codes "in" ∷ [])
  stands = record { outputs = one (IsAmong (echo_piece ty) (1 ∷ [])) (codes "out") refl; inputs = one (IsAmong (echo_piece ty) (0 ∷ [])) (codes "in") refl; can = can }
    where
      one : (P : List ℕ → Type 0) (x : List ℕ) → P x → All P (x ∷ [])
      one P x is zero d lt = is
      one P x is (suc k) d lt = absurd (omega (arith, lt))

  pub ports : ArePorts (echo_piece ty) (0 ∷ []) (0 ∷ [])
  ports =
      record {
        takes = record { total = refl; known = low; every = every; once = λ i j d less lt same. absurd (omega (arith, less, lt)) };
        gives = low;
      }
    where
      low : All (λ place. place < 1) (0 ∷ [])
      low zero d lt = omega arith
      low (suc i) d lt = absurd (omega (arith, lt))

      every : (place : ℕ) → place < 1 → Contains {X = ℕ} (0 ∷ []) place
      every zero lt = (0, omega arith, refl)
      every (suc place) lt = absurd (omega (arith, lt))

  pub hears : (value : ℕ) → value < 2 ^ ty.width → IsInputs (echo_piece ty) (value ∷ [])
  hears value fits = record { count = refl; fits = each }
    where
      each : (i : ℕ) → i < 1 → Fits (shape_at (in_shapes (echo_piece ty)) i) (value_at (value ∷ []) i)
      each zero lt = fits
      each (suc i) lt = absurd (omega (arith, lt))
