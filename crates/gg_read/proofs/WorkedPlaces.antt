-- Where the lines of a memory may be, worked by hand: a memory after ports, statements and memories; a field after a memory's line
-- or another field only.
use Rattle.std.proofs.Common.{◌≡◌, None, Some, codes, refl}
use Rattle.gg_ast.specs.declared.expression.Reference.TheVariants as reference
use Rattle.gg_ast.specs.declared.module.Direction.TheVariants.{Input}
use Rattle.gg_ast.specs.declared.module.GroundType.TheVariants as plain_type
use Rattle.gg_ast.specs.declared.statement.MemoryField.TheVariants as field
use Rattle.gg_ast.specs.Row.{Row, ModuleRow, PortRow, ResetRow, MemoryRow, FieldRow, SkipRow}
use Rattle.gg_ast.specs.Term.{Term, NamedTerm}
use Rattle.gg_read.specs.Text.{LinePlace, AtStart, AfterCircuit, InPorts, InStatements, InFields, AwaitsReset, IsEndPlace, place_after}

record MayStand (row : Row) (place next : LinePlace) : Type 0 where
  pub there : place_after place row ≡ Some next

record MayNotStand (row : Row) (place : LinePlace) : Type 0 where
  pub there : place_after place row ≡ None

abbrev some_field : Row
some_field = FieldRow (field.Depth 16)

abbrev a : Term
a = NamedTerm (reference.Local (codes "a"))

memory_in_ports : MayStand (MemoryRow (codes "m")) InPorts InFields
memory_in_ports = record { there = refl }

memory_in_statements : MayStand (MemoryRow (codes "m")) InStatements InFields
memory_in_statements = record { there = refl }

memory_behind_memory : MayStand (MemoryRow (codes "m")) InFields InFields
memory_behind_memory = record { there = refl }

field_behind_memory : MayStand some_field InFields InFields
field_behind_memory = record { there = refl }

statement_behind_memory : MayStand SkipRow InFields InStatements
statement_behind_memory = record { there = refl }

module_behind_memory : MayStand (ModuleRow (codes "T")) InFields InPorts
module_behind_memory = record { there = refl }

memory_at_the_end : IsEndPlace InFields
memory_at_the_end = tt

field_in_ports : MayNotStand some_field InPorts
field_in_ports = record { there = refl }

field_behind_statement : MayNotStand some_field InStatements
field_behind_statement = record { there = refl }

field_at_start : MayNotStand some_field AtStart
field_at_start = record { there = refl }

field_in_register : MayNotStand some_field AwaitsReset
field_in_register = record { there = refl }

memory_in_register : MayNotStand (MemoryRow (codes "m")) AwaitsReset
memory_in_register = record { there = refl }

memory_outside_a_module : MayNotStand (MemoryRow (codes "m")) AfterCircuit
memory_outside_a_module = record { there = refl }

reset_behind_memory : MayNotStand (ResetRow a a) InFields
reset_behind_memory = record { there = refl }

port_behind_memory : MayNotStand (PortRow Input (codes "p") plain_type.Clock) InFields
port_behind_memory = record { there = refl }
