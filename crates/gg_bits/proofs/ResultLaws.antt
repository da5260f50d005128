-- What an operation's answer says of the shape of its result.
use Rattle.std.proofs.Common.{◌≡◌, ℕ, ◌^◌, ◌<◌, min, arith}
use Rattle.std.specs.Prelude.{Bool, true, false, Ok, Err, IfOk, nat_le, ◌&&◌, if◌then◌else◌}
use Rattle.gg_bits.specs.declared.types.Bad.TheVariants.{Width}
use Rattle.gg_bits.specs.Shape.{Shape, Fits}
use Rattle.gg_bits.specs.ResultType.{answer}
use Rattle.gg_bits.proofs.PatternLaws.{below_wider}

-- the type of an allowed operation has the shape of its result
pub answered_shape : (kinds params : Bool) (s t : Shape) → answer kinds params s ≡ Ok t → s ≡ t
answered_shape false params s t e = absurd (cc)
answered_shape true false s t e = absurd (cc)
answered_shape true true s t e = by (nat_le 1 s.width && nat_le s.width 128) e
  where
    by : (b : Bool) → (if b then Ok s else Err (Width (min s.width 4294967295))) ≡ Ok t → s ≡ t
    by true is = cc
    by false is = absurd (cc)

-- a pattern of the result's width, or of 4,294,967,295 bits if that is less, fits the type
pub answered_fits : (kinds params : Bool) (s : Shape) (width x : ℕ) → width ≡ min s.width 4294967295 → x < 2 ^ width → IfOk (answer kinds params s) (λ t. Fits t x)
answered_fits false params s width x e h = tt
answered_fits true false s width x e h = tt
answered_fits true true s width x e h = by (nat_le 1 s.width && nat_le s.width 128)
  where
    by : (b : Bool) → IfOk (if b then Ok s else Err (Width (min s.width 4294967295))) (λ t. Fits t x)
    by true = below_wider x width s.width (omega (arith, e)) h
    by false = tt
