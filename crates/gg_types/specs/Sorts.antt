-- Types as they are written (FIRRTL Specification, "Ground Types").
use Rattle.std.specs.Prelude.{Bool, true, false}
use Rattle.gg_bits.specs.declared.types.Kind.TheVariants as kind
use Rattle.gg_bits.specs.Shape.{Shape}
use Rattle.gg_ast.specs.declared.module.GroundType.{GroundType}
use Rattle.gg_ast.specs.declared.module.GroundType.TheVariants as types
use Rattle.gg_types.specs.declared.sort.Sort.{Sort}
use Rattle.gg_types.specs.declared.sort.Sort.TheVariants.{Bits, Clock}

-- A written type, whatever its width: a port of a module may be used in the file before its own line is checked.
abbrev pub sort_of : GroundType → Sort
sort_of (types.UInt w) = Bits kind.UInt w
sort_of (types.SInt w) = Bits kind.SInt w
sort_of types.Clock = Clock

-- the ground type of a shape
abbrev pub bits : Shape → Sort
bits s = Bits s.kind s.width

-- whether a written type is Clock
abbrev pub is_clock : GroundType → Bool
is_clock (types.UInt w) = false
is_clock (types.SInt w) = false
is_clock types.Clock = true
