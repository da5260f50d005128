-- The type of each operation's result, and what is wrong if there is none.
-- Source: FIRRTL Specification, "Primitive Operations": each definition follows the table in the operation's section, with one exception.
-- The width of a `Shr` of a UInt is at least 1, as for an SInt; newer versions of the specification let it be 0. The specification leaves
-- some widths unbounded; here widths are 1 to 128.
use Rattle.std.specs.Prelude.{ℕ, ◌+◌, ◌-◌, ◌^◌, min, max, Bool, true, false, ◌&&◌, ◌==◌, nat_le, nat_lt, if◌then◌else◌, Result, Ok, Err}
use Rattle.gg_bits.specs.declared.types.Kind as kinds
use Rattle.gg_bits.specs.declared.types.Kind.TheVariants.{UInt, SInt}
use Rattle.gg_bits.specs.declared.types.Bad.{Bad}
use Rattle.gg_bits.specs.declared.types.Bad.TheVariants.{Kind, Width, Param}
use Rattle.gg_bits.specs.declared.ops.Op1.{Op1}
use Rattle.gg_bits.specs.declared.ops.Op1.TheVariants.{AsUInt, AsSInt, Cvt, Neg, Not, Andr, Orr, Xorr}
use Rattle.gg_bits.specs.declared.ops.Op2.{Op2}
use Rattle.gg_bits.specs.declared.ops.Op2.TheVariants.{Add, Sub, Mul, Div, Rem, Lt, Leq, Gt, Geq, Eq, Neq, Dshl, Dshr, And, Or, Xor, Cat, Validif}
use Rattle.gg_bits.specs.declared.ops.OpN.{OpN}
use Rattle.gg_bits.specs.declared.ops.OpN.TheVariants.{Pad, Shl, Shr, Bits, Head, Tail}
use Rattle.gg_bits.specs.Shape.{Shape, of_kind, uint, sint}

-- ---- which operands are allowed

-- whether a kind is unsigned
abbrev pub is_uint : kinds.Kind → Bool
is_uint UInt = true
is_uint SInt = false

-- whether two kinds are the same
abbrev pub same_kind : kinds.Kind → kinds.Kind → Bool
same_kind UInt UInt = true
same_kind UInt SInt = false
same_kind SInt UInt = false
same_kind SInt SInt = true

-- the shape of a condition: one unsigned bit
abbrev pub is_condition : Shape → Bool
is_condition s = is_uint s.kind && (s.width == 1)

-- ---- the answer, in this order: first the kinds, then the parameters, then the width

-- the shape, if its width is 1 to 128; otherwise the width, or 4,294,967,295 if it is greater
abbrev pub within : Shape → Result Shape Bad
within s = if nat_le 1 s.width && nat_le s.width 128 then Ok s else Err (Width (min s.width 4294967295))

-- The answer, if the kinds are allowed or not, the parameters are allowed or not, and the result would have shape s. A wrong kind is named
-- before a wrong parameter, and this before a wrong width.
abbrev pub answer : Bool → Bool → Shape → Result Shape Bad
answer false params s = Err Kind
answer true false s = Err Param
answer true true s = within s

-- ---- operations on one value: any kind is allowed

-- "Interpret as UInt", "Interpret as SInt", "Arithmetic Convert to Signed", "Negate", "Bitwise Complement",
-- "AND/OR/XOR Reduce"
abbrev pub shape1 : Op1 → Shape → Shape
shape1 AsUInt s = uint s.width
shape1 AsSInt s = sint s.width
shape1 Cvt s = sint (if is_uint s.kind then s.width + 1 else s.width)
shape1 Neg s = sint (s.width + 1)
shape1 Not s = uint s.width
shape1 Andr s = uint 1
shape1 Orr s = uint 1
shape1 Xorr s = uint 1

-- the result's shape for an operand of shape s, or what is wrong: only its width can be
abbrev pub type1 : Op1 → Shape → Result Shape Bad
type1 op s = answer true true (shape1 op s)

-- ---- operations on two values

-- which kinds go together: both the same, except for a shift's amount and a condition
abbrev pub kinds2 : Op2 → Shape → Shape → Bool
kinds2 Add s t = same_kind s.kind t.kind
kinds2 Sub s t = same_kind s.kind t.kind
kinds2 Mul s t = same_kind s.kind t.kind
kinds2 Div s t = same_kind s.kind t.kind
kinds2 Rem s t = same_kind s.kind t.kind
kinds2 Lt s t = same_kind s.kind t.kind
kinds2 Leq s t = same_kind s.kind t.kind
kinds2 Gt s t = same_kind s.kind t.kind
kinds2 Geq s t = same_kind s.kind t.kind
kinds2 Eq s t = same_kind s.kind t.kind
kinds2 Neq s t = same_kind s.kind t.kind
kinds2 Dshl s t = is_uint t.kind
kinds2 Dshr s t = is_uint t.kind
kinds2 And s t = same_kind s.kind t.kind
kinds2 Or s t = same_kind s.kind t.kind
kinds2 Xor s t = same_kind s.kind t.kind
kinds2 Cat s t = same_kind s.kind t.kind
kinds2 Validif s t = is_condition s

-- "Add", "Subtract", "Multiply", "Divide", "Modulus", "Comparison", "Dynamic Shift Left", "Dynamic Shift Right",
-- "Bitwise And, Or, Xor", "Concatenate", "Conditionally Valid"
abbrev pub shape2 : Op2 → Shape → Shape → Shape
shape2 Add s t = of_kind s.kind (max s.width t.width + 1)
shape2 Sub s t = of_kind s.kind (max s.width t.width + 1)
shape2 Mul s t = of_kind s.kind (s.width + t.width)
shape2 Div s t = of_kind s.kind (if is_uint s.kind then s.width else s.width + 1)
shape2 Rem s t = of_kind s.kind (min s.width t.width)
shape2 Lt s t = uint 1
shape2 Leq s t = uint 1
shape2 Gt s t = uint 1
shape2 Geq s t = uint 1
shape2 Eq s t = uint 1
shape2 Neq s t = uint 1
shape2 Dshl s t = of_kind s.kind (s.width + 2 ^ t.width - 1)
shape2 Dshr s t = s
shape2 And s t = uint (max s.width t.width)
shape2 Or s t = uint (max s.width t.width)
shape2 Xor s t = uint (max s.width t.width)
shape2 Cat s t = uint (s.width + t.width)
shape2 Validif s t = t

-- the result's shape for operands of shapes s and t, or what is wrong
abbrev pub type2 : Op2 → Shape → Shape → Result Shape Bad
type2 op s t = answer (kinds2 op s t) true (shape2 op s t)

-- ---- operations with parameters: any kind is allowed

-- the bits that the parameters name exist
abbrev pub params_const : OpN → Shape → ℕ → ℕ → Bool
params_const Pad s n m = true
params_const Shl s n m = true
params_const Shr s n m = true
params_const Bits s hi lo = nat_le lo hi && nat_lt hi s.width
params_const Head s n m = nat_le n s.width
params_const Tail s n m = nat_le n s.width

-- "Pad", "Shift Left", "Shift Right", "Bit Extraction", "Head", "Tail"
abbrev pub shape_const : OpN → Shape → ℕ → ℕ → Shape
shape_const Pad s n m = of_kind s.kind (max s.width n)
shape_const Shl s n m = of_kind s.kind (s.width + n)
-- at least one bit for both kinds: no width here is 0
shape_const Shr s n m = of_kind s.kind (max (s.width - n) 1)
shape_const Bits s hi lo = uint (hi - lo + 1)
shape_const Head s n m = uint n
shape_const Tail s n m = uint (s.width - n)

-- the result's shape for an operand of shape s and the parameters n and m, or what is wrong
abbrev pub type_const : OpN → Shape → ℕ → ℕ → Result Shape Bad
type_const op s n m = answer true (params_const op s n m) (shape_const op s n m)

-- ---- "Multiplexers": a condition c and two values

-- the shape of a choice between values of shapes s and t: the kind of the first, and the greater width
abbrev pub shape_mux : Shape → Shape → Shape
shape_mux s t = of_kind s.kind (max s.width t.width)

-- the result's shape for a condition of shape c and values of shapes s and t, or what is wrong: the condition has one unsigned bit, and the
-- values are of one kind
abbrev pub type_mux : Shape → Shape → Shape → Result Shape Bad
type_mux c s t = answer (is_condition c && same_kind s.kind t.kind) true (shape_mux s t)
