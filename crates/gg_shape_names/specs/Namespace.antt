-- What the parts of a module declare, name and connect (FIRRTL Specification, "Namespaces", "Statements", "Instances",
-- "Memories", "Flows").
use Rattle.std.specs.Prelude.{ℕ, Bool, true, false, not, List, [], ◌∷◌, ◌++◌, Option, Some, None, map, flat_map, if◌then◌else◌}
use Rattle.std.specs.Str.{bytes_eq}
use Rattle.gg_ast.specs.declared.expression.Reference.{Reference}
use Rattle.gg_ast.specs.declared.expression.Reference.TheVariants.{Local, PortOf, FieldOf}
use Rattle.gg_ast.specs.declared.module.Direction.{Direction}
use Rattle.gg_ast.specs.declared.module.Direction.TheVariants.{Input, Output}
use Rattle.gg_ast.specs.declared.module.GroundType.{GroundType}
use Rattle.gg_ast.specs.declared.module.Port.{Port}
use Rattle.gg_ast.specs.declared.statement.Field.{Field}
use Rattle.gg_ast.specs.declared.statement.Stmt.{Stmt}
use Rattle.gg_ast.specs.declared.statement.StmtKind as statements
use Rattle.gg_ast.specs.declared.statement.StmtKind.TheVariants as kinds
use Rattle.gg_ast.specs.Tree.{ModuleTree}
use Rattle.gg_shape_names.specs.declared.role.Role.{Role}
use Rattle.gg_shape_names.specs.declared.role.Role.TheVariants.{InputPort, OutputPort, Wire, Register, Node, Instance, Memory, InstanceInput, InstanceOutput, MemoryPort}
use Rattle.gg_shape_names.specs.declared.role.PortKind.{PortKind}
use Rattle.gg_shape_names.specs.declared.role.PortField.{PortField}
use Rattle.gg_shape_names.specs.Memory.{memory_ports, port_fields, field_name, is_answer}
use Rattle.gg_shape_names.specs.Scope.{same_reference, entry_of}

-- ---- declarations

-- the first module of that name
abbrev pub module_named : List ℕ → List ModuleTree → Option ModuleTree
module_named name [] = None
module_named name (m ∷ ms) = if bytes_eq name m.name then Some m else module_named name ms

-- the role of a port in its own module
abbrev pub role_of_port : Direction → Role
role_of_port Input = InputPort
role_of_port Output = OutputPort

-- the role that a port of this direction and type has as a port of an instance
abbrev pub role_of_instance_port : Direction → GroundType → Role
role_of_instance_port Input ty = InstanceInput ty
role_of_instance_port Output ty = InstanceOutput ty

-- what can be written of an instance: its name, and a dot and the name of a port of its module, if that module exists
abbrev pub instance_port : List ℕ → Port → Reference × Role
instance_port instance port = (PortOf instance port.name, role_of_instance_port port.direction port.ty)

-- an instance's ports, in the order of its module; none if the module doesn't exist
abbrev pub instance_ports : List ℕ → Option ModuleTree → List (Reference × Role)
instance_ports instance None = []
instance_ports instance (Some m) = map (instance_port instance) m.ports

-- what can be written of a memory: its name, and each field of each of its ports
abbrev pub port_field : List ℕ → List ℕ → PortKind → PortField → Reference × Role
port_field memory port kind field = (FieldOf memory port (field_name field), MemoryPort kind field)

-- the fields of one port of a memory, each with its role
abbrev pub port_entries : List ℕ → List ℕ × PortKind → List (Reference × Role)
port_entries memory p = map (port_field memory p.0 p.1) (port_fields p.1)

-- the fields of all ports of a memory: the readers' fields, then the writers'
abbrev pub memory_entries : List ℕ → List Field → List (Reference × Role)
memory_entries memory fields = flat_map (port_entries memory) (memory_ports fields)

-- a port declares its name
abbrev pub entry_by_port : Port → Reference × Role
entry_by_port port = (Local port.name, role_of_port port.direction)

-- A wire, a node, a register, an instance and a memory declare their names; no other statement declares one. These are the
-- references that can be written after the statement, each with its role.
abbrev pub entries_by_kind : List ModuleTree → statements.StmtKind → List (Reference × Role)
entries_by_kind modules (kinds.Wire name ty) = (Local name, Wire) ∷ []
entries_by_kind modules (kinds.Node name value) = (Local name, Node) ∷ []
entries_by_kind modules (kinds.Register name ty clock reset) = (Local name, Register) ∷ []
entries_by_kind modules (kinds.Instance name of_module) = (Local name, Instance) ∷ instance_ports name (module_named of_module modules)
entries_by_kind modules (kinds.Memory name fields) = (Local name, Memory) ∷ memory_entries name fields
entries_by_kind modules (kinds.Connect sink source) = []
entries_by_kind modules (kinds.Invalid sink) = []
entries_by_kind modules kinds.Skip = []
entries_by_kind modules (kinds.Stop clock condition code label) = []
entries_by_kind modules (kinds.Report word arguments label) = []

-- `entries_by_kind` for a statement with its line
abbrev pub entries_by : List ModuleTree → Stmt → List (Reference × Role)
entries_by modules s = entries_by_kind modules s.kind

-- the scope after these ports and statements
abbrev pub scope_after : List ModuleTree → List Port → List Stmt → List (Reference × Role)
scope_after modules ports statements = map entry_by_port ports ++ flat_map (entries_by modules) statements

-- the scope of a whole module of the circuit: all that can be written in it, in the order of the file
abbrev pub scope_of : List ModuleTree → ModuleTree → List (Reference × Role)
scope_of modules m = scope_after modules m.ports m.statements

-- what a reference names in a scope
abbrev pub meaning_of : List (Reference × Role) → Reference → Option Role
meaning_of scope r = entry_of r scope

-- ---- declared names only

-- the name that a statement declares, if it declares one
abbrev pub name_by_kind : statements.StmtKind → List (List ℕ)
name_by_kind (kinds.Wire name ty) = name ∷ []
name_by_kind (kinds.Node name value) = name ∷ []
name_by_kind (kinds.Register name ty clock reset) = name ∷ []
name_by_kind (kinds.Instance name of_module) = name ∷ []
name_by_kind (kinds.Memory name fields) = name ∷ []
name_by_kind (kinds.Connect sink source) = []
name_by_kind (kinds.Invalid sink) = []
name_by_kind kinds.Skip = []
name_by_kind (kinds.Stop clock condition code label) = []
name_by_kind (kinds.Report word arguments label) = []

-- `name_by_kind` for a statement with its line
abbrev pub name_by : Stmt → List (List ℕ)
name_by s = name_by_kind s.kind

-- the names of these ports, in order
abbrev pub port_names : List Port → List (List ℕ)
port_names ports = map (λ (port : Port). port.name) ports

-- the names that these ports and statements declare
abbrev pub names_after : List Port → List Stmt → List (List ℕ)
names_after ports statements = port_names ports ++ flat_map name_by statements

-- ---- values

-- whether what is named has a value; an instance and a memory have none of their own
abbrev pub has_value : Option Role → Bool
has_value None = false
has_value (Some InputPort) = true
has_value (Some OutputPort) = true
has_value (Some Wire) = true
has_value (Some Register) = true
has_value (Some Node) = true
has_value (Some Instance) = false
has_value (Some Memory) = false
has_value (Some (InstanceInput ty)) = true
has_value (Some (InstanceOutput ty)) = true
has_value (Some (MemoryPort kind field)) = true

-- ---- connections

-- "Flows": a sink may be connected. Seen from the module that has it, an instance's input is a sink.
abbrev pub is_sink : Option Role → Bool
is_sink None = false
is_sink (Some InputPort) = false
is_sink (Some OutputPort) = true
is_sink (Some Wire) = true
is_sink (Some Register) = true
is_sink (Some Node) = false
is_sink (Some Instance) = false
is_sink (Some Memory) = false
is_sink (Some (InstanceInput ty)) = true
is_sink (Some (InstanceOutput ty)) = false
is_sink (Some (MemoryPort kind field)) = not (is_answer kind field)

-- a source has its own value
abbrev pub is_source : Option Role → Bool
is_source None = false
is_source (Some InputPort) = true
is_source (Some OutputPort) = false
is_source (Some Wire) = false
is_source (Some Register) = false
is_source (Some Node) = true
is_source (Some Instance) = false
is_source (Some Memory) = false
is_source (Some (InstanceInput ty)) = false
is_source (Some (InstanceOutput ty)) = true
is_source (Some (MemoryPort kind field)) = is_answer kind field

-- a sink that must be connected: any except a register
abbrev pub needs_connection : Role → Bool
needs_connection InputPort = false
needs_connection OutputPort = true
needs_connection Wire = true
needs_connection Register = false
needs_connection Node = false
needs_connection Instance = false
needs_connection Memory = false
needs_connection (InstanceInput ty) = true
needs_connection (InstanceOutput ty) = false
needs_connection (MemoryPort kind field) = not (is_answer kind field)

-- `<=` and `is invalid` are connections: the references that they connect
abbrev pub connected_by_kind : statements.StmtKind → Option Reference
connected_by_kind (kinds.Wire name ty) = None
connected_by_kind (kinds.Node name value) = None
connected_by_kind (kinds.Register name ty clock reset) = None
connected_by_kind (kinds.Instance name of_module) = None
connected_by_kind (kinds.Memory name fields) = None
connected_by_kind (kinds.Connect sink source) = Some sink
connected_by_kind (kinds.Invalid sink) = Some sink
connected_by_kind kinds.Skip = None
connected_by_kind (kinds.Stop clock condition code label) = None
connected_by_kind (kinds.Report word arguments label) = None

-- `connected_by_kind` for a statement with its line
abbrev pub connected_by : Stmt → Option Reference
connected_by s = connected_by_kind s.kind

-- whether the second, if there is one, is the same reference as the first
abbrev pub is_reference_to : Reference → Option Reference → Bool
is_reference_to r None = false
is_reference_to r (Some q) = same_reference r q

-- the statement is a connection of the reference
abbrev pub connects : Reference → Stmt → Bool
connects r s = is_reference_to r (connected_by s)
