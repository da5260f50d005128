-- What the type of a multiplexer says.
use Rattle.std.proofs.Common.{◌≡◌, ℕ, refl, arith}
use Rattle.std.specs.Prelude.{Bool, true, false, Ok, ◌==◌, ◌&&◌}
use Rattle.std.proofs.lemmas.Bool.Decides.{nat_tests}
use Rattle.gg_bits.specs.Shape.{Shape}
use Rattle.gg_bits.specs.ResultType.{answer, is_uint, is_condition, same_kind, shape_mux, type_mux}
use Rattle.gg_bits.specs.declared.types.Kind.{Kind}
use Rattle.gg_bits.specs.declared.types.Kind.TheVariants.{UInt, SInt}
use Rattle.gg_bits.proofs.ResultLaws.{answered_shape}

both-hold : (a b : Bool) → (a && b) ≡ true → (a ≡ true) × (b ≡ true)
both-hold true true is = (refl, refl)
both-hold true false is = absurd (cc)
both-hold false b is = absurd (cc)

accepted-holds : (kinds : Bool) (s to : Shape) → answer kinds true s ≡ Ok to → kinds ≡ true
accepted-holds true s to is = refl
accepted-holds false s to is = absurd (cc)

one-kind : (k l : Kind) → same_kind k l ≡ true → k ≡ l
one-kind UInt UInt is = refl
one-kind SInt SInt is = refl
one-kind UInt SInt is = absurd (cc)
one-kind SInt UInt is = absurd (cc)

one-bit : (width : ℕ) → (width == 1) ≡ true → width ≡ 1
one-bit width is = grind (arith, nat_tests)

-- A multiplexer has a condition of one bit, values of one kind, and the wider's width.
pub record IsMux (c s t to : Shape) : Type 0 where
  pub condition : c.width ≡ 1
  pub kinds : s.kind ≡ t.kind
  pub shape : shape_mux s t ≡ to

pub mux-is : (c s t to : Shape) → type_mux c s t ≡ Ok to → IsMux c s t to
mux-is c s t to is =
    let kinds = both-hold (is_condition c) (same_kind s.kind t.kind) (accepted-holds (is_condition c && same_kind s.kind t.kind) (shape_mux s t) to is) in
    let condition = both-hold (is_uint c.kind) (c.width == 1) kinds.0 in
    record {
      condition = one-bit c.width condition.1;
      kinds = one-kind s.kind t.kind kinds.1;
      shape = answered_shape (is_condition c && same_kind s.kind t.kind) true (shape_mux s t) to is;
    }
