-- A shape is a kind and any width: a ground type before its width is checked.
-- Source: FIRRTL Specification, "Ground Types".
use Rattle.std.specs.Prelude.{ℕ, ◌^◌, ◌<◌, ℤ}
use Rattle.gg_bits.specs.declared.types.Kind.{Kind}
use Rattle.gg_bits.specs.declared.types.Kind.TheVariants.{UInt, SInt}
use Rattle.gg_bits.specs.declared.types.Ty.{Ty}
use Rattle.gg_bits.specs.Value.{number_of}

-- A kind and a number of bits. Any number is allowed here, 0 as well.
pub record Shape : Type 0 where
  pub kind : Kind
  pub width : ℕ

-- the shape of kind k with w bits
abbrev pub of_kind : Kind → ℕ → Shape
of_kind k w = record { kind = k; width = w }

-- w unsigned bits
abbrev pub uint : ℕ → Shape
uint w = of_kind UInt w

-- w bits in two's complement
abbrev pub sint : ℕ → Shape
sint w = of_kind SInt w

-- the shape of a type, which is a kind with a width from 1 to 128
abbrev pub shape : Ty → Shape
shape ty = of_kind ty.kind ty.width

-- the pattern has no bit beyond the width of s: it is a value of that shape
abbrev pub Fits : Shape → ℕ → Type 0
Fits s p = p < 2 ^ s.width

-- the number of a pattern of this shape
abbrev pub number : Shape → ℕ → ℤ
number s p = number_of s.kind s.width p
