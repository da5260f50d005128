-- What the parts of the check know of a module.
-- Source: this program's own way to find the faults.
use denote.Ref.{Bor}
use Rattle.std.specs.Prelude.{◌≡◌, ℕ, ◌<◌, Bool, List, [], flat_map, filter, length, take, slice_index_or, true, false}
use Rattle.std.specs.List.{list_any}
use Rattle.gg_ast.specs.declared.expression.Reference.{Reference}
use Rattle.gg_ast.specs.declared.expression.Reference.TheVariants as references
use Rattle.gg_ast.specs.declared.module.Direction.{Direction}
use Rattle.gg_ast.specs.declared.module.Direction.TheVariants.{Input, Output}
use Rattle.gg_ast.specs.declared.module.Port.{Port}
use Rattle.gg_ast.specs.declared.statement.Field.{Field}
use Rattle.gg_ast.specs.declared.statement.MemoryField as fields
use Rattle.gg_ast.specs.declared.statement.Stmt.{Stmt}
use Rattle.gg_ast.specs.Tree.{ModuleTree, CircuitTree}
use Rattle.gg_shape_names.specs.declared.role.Role.{Role}
use Rattle.gg_shape_names.specs.declared.role.PortKind.{PortKind}
use Rattle.gg_shape_names.specs.declared.role.PortKind.TheVariants.{Reader, Writer}
use Rattle.gg_shape_names.specs.declared.role.PortField.{PortField}
use Rattle.gg_shape_names.specs.Memory.{readers_in, writers_in, port_fields}
use Rattle.gg_shape_names.specs.Modules.{module_at}
use Rattle.gg_shape_names.specs.Namespace.{names_after, scope_after, instance_port, port_field}
use Rattle.gg_shape_names.specs.Scope.{same_reference}
use Rattle.gg_shape.specs.declared.connected.Key.{Key}
use Rattle.gg_shape.specs.declared.connected.Key.TheVariants.{Local, PortOf, FieldOf}
use Rattle.gg_shape.specs.declared.fault.Fault.{Fault}
use Rattle.gg_shape.specs.declared.references.Before.{Before}
use Rattle.gg_shape.specs.Shape.{unconnected_entry, is_connected}

-- ---- the names before a statement

-- the module at this place of the circuit
abbrev pub module_of : CircuitTree → ℕ → ModuleTree
module_of circuit number = module_at circuit.modules number

-- the statements of the position's module that are before it
abbrev pub statements_before : CircuitTree → Before → List Stmt
statements_before circuit before = take before.statements (module_of circuit before.number).statements

-- the scope of these statements, and of the ports
abbrev pub scope_before : CircuitTree → Before → List (Reference × Role)
scope_before circuit before = scope_after circuit.modules (module_of circuit before.number).ports (statements_before circuit before)

-- the module exists, and just this many names are declared
pub record IsBefore (circuit : CircuitTree) (before : Before) : Type 0 where
  pub within : before.number < length circuit.modules
  pub counted : before.names ≡ length (names_after (module_of circuit before.number).ports (statements_before circuit before))

-- ---- what is connected

-- the reference of a key
abbrev pub reference_of : Key → Reference
reference_of (Local a) = references.Local a.now
reference_of (PortOf a b) = references.PortOf a.now b.now
reference_of (FieldOf a b c) = references.FieldOf a.now b.now c.now

-- whether one of these references is the same
abbrev pub is_among : List Reference → Reference → Bool
is_among connected r = list_any (same_reference r) connected

-- just what these statements connect
abbrev pub TellsConnected : List Stmt → List Reference → Type 0
TellsConnected statements connected = (r : Reference) → is_among connected r ≡ is_connected statements r

-- for each of the first modules what its statements connect
pub record TellsFirst (modules : List ModuleTree) (count : ℕ) (all : List (List Reference)) : Type 0 where
  pub one_each : length all ≡ count
  pub tell : (k : ℕ) → k < count → TellsConnected (module_at modules k).statements (slice_index_or all k [])

-- ---- what a declaration leaves unconnected

-- whether a direction is an input's
abbrev pub is_in : Direction → Bool
is_in Input = true
is_in Output = false

-- whether a port is an input
abbrev pub is_input : Port → Bool
is_input port = is_in port.direction

-- a module's inputs, in the order of its ports
abbrev pub inputs_of : ModuleTree → List Port
inputs_of m = filter is_input m.ports

-- the ports of one kind that a field names
abbrev pub names_as : PortKind → fields.MemoryField → List (List ℕ)
names_as Reader field = readers_in field
names_as Writer field = writers_in field

-- F5 if an instance's input isn't connected, at this line
abbrev pub unconnected_input : List ℕ → (Reference → Bool) → ℕ → Bor Port → List Fault
unconnected_input instance connected line port = unconnected_entry connected line (instance_port instance port.now)

-- F5 if a field of a memory's port must be connected and isn't
abbrev pub unconnected_of_field : PortKind → List ℕ → (Reference → Bool) → ℕ → List ℕ → PortField → List Fault
unconnected_of_field kind memory connected line port field = unconnected_entry connected line (port_field memory port kind field)

-- F5 at each field of a memory's port that must be connected and isn't
abbrev pub unconnected_of_port : PortKind → List ℕ → (Reference → Bool) → ℕ → List ℕ → List Fault
unconnected_of_port kind memory connected line port =
    flat_map (unconnected_of_field kind memory connected line port) (port_fields kind)

-- F5 at each such field of the ports of one kind that a field of the memory names
abbrev pub unconnected_in_field : PortKind → List ℕ → (Reference → Bool) → ℕ → Field → List Fault
unconnected_in_field kind memory connected line field =
    flat_map (unconnected_of_port kind memory connected line) (names_as kind field.kind)
