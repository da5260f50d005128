-- The types of a circuit's names, from the type checks.
-- Source: FIRRTL Specification, "Ground Types", "Expressions" (references).
use Rattle.std.specs.Prelude.{Option, Some, None}
use Rattle.gg_bits.specs.Shape.{Shape, of_kind}
use Rattle.gg_ast.specs.Tree.{CircuitTree}
use Rattle.gg_shape_names.specs.Modules.{module_at}
use Rattle.gg_types.specs.declared.sort.Sort.{Sort}
use Rattle.gg_types.specs.declared.sort.Sort.TheVariants.{Bits, Clock}
use Rattle.gg_types.specs.Types.{sort_named}
use Rattle.gg_elab_sites.specs.Signals.{Types}

-- the shape of a type, if there is one and it isn't a Clock
abbrev pub value_shape : Option Sort → Option Shape
value_shape None = None
value_shape (Some (Bits kind width)) = Some (of_kind kind width)
value_shape (Some Clock) = None

-- the shape of what a reference names in the module at a place of the file
unfoldable pub types_of : CircuitTree → Types
types_of circuit k r = value_shape (sort_named circuit.modules (module_at circuit.modules k) r)
