-- The faults of names and connections, F1 to F6: for each number the list of its faults, in the order of the text.
-- Sources: FIRRTL Specification, "Circuits and Modules" (F1), "Namespaces" (F2, F3), "Instances" (F3), "Connects" and
-- "Flows" (F4 to F6).
use Rattle.std.specs.Prelude.{ℕ, Bool, not, ◌&&◌, List, [], ◌∷◌, ◌++◌, Option, Some, None, is_some, map, flat_map}
use Rattle.std.specs.List.{list_any}
use Rattle.std.specs.Str.{bytes_eq}
use Rattle.gg_ast.specs.declared.expression.Reference.{Reference}
use Rattle.gg_ast.specs.declared.expression.Reference.TheVariants.{Local}
use Rattle.gg_ast.specs.declared.module.Port.{Port}
use Rattle.gg_ast.specs.declared.statement.Argument.{Argument}
use Rattle.gg_ast.specs.declared.statement.Argument.TheVariants.{Value, Text}
use Rattle.gg_ast.specs.declared.statement.Reset.{Reset}
use Rattle.gg_ast.specs.declared.statement.Stmt.{Stmt}
use Rattle.gg_ast.specs.declared.statement.StmtKind as statements
use Rattle.gg_ast.specs.declared.statement.StmtKind.TheVariants.{Wire, Node, Register, Instance, Memory, Connect, Invalid, Skip, Stop, Report}
use Rattle.gg_ast.specs.Term.{Term, NamedTerm, ConstantTerm, UnaryTerm, BinaryTerm, FixedTerm, MuxTerm}
use Rattle.gg_ast.specs.Tree.{ModuleTree, CircuitTree}
use Rattle.gg_shape_names.specs.declared.fault.Repetition.{Repetition}
use Rattle.gg_shape_names.specs.declared.role.Role.{Role}
use Rattle.gg_shape_names.specs.declared.role.Role.TheVariants as roles
use Rattle.gg_shape_names.specs.Namespace.{module_named, entry_by_port, entries_by, scope_after, scope_of, meaning_of, has_value, is_sink, is_source, needs_connection, connected_by, connects}
use Rattle.gg_shape_names.specs.Repetitions.{repetitions}
use Rattle.gg_shape_names.specs.Scope.{written}
use Rattle.gg_shape.specs.declared.fault.Fault.{Fault}
use Rattle.gg_shape.specs.declared.fault.Fault.TheVariants.{MissingTop, RepeatedName, UnknownName, SecondConnection, Unconnected, ConnectedSource}
use Rattle.gg_shape.specs.Faults.{fault_if}
use Rattle.gg_shape_names.specs.Along.{along}

-- ---- F1

-- no module has the circuit's name
abbrev pub missing_top : CircuitTree → List Fault
missing_top circuit = fault_if (not (list_any (λ m. bytes_eq circuit.name m.name) circuit.modules)) (MissingTop circuit.name)

-- ---- F2

-- a name that comes twice, as fault F2
abbrev pub repeated_name : Repetition → Fault
repeated_name r = RepeatedName r.line r.name

-- at each name that comes a second time: of a module, of what a module declares, of a memory's port
abbrev pub repeated_names : CircuitTree → List Fault
repeated_names circuit = map repeated_name (repetitions circuit)

-- ---- F3

-- F3 if a reference names nothing that has a value
abbrev pub unknown_reference : List (Reference × Role) → ℕ → Reference → List Fault
unknown_reference scope line r = fault_if (not (has_value (meaning_of scope r))) (UnknownName line (written r))

-- F3 if the module of an instance doesn't exist
abbrev pub unknown_module : List ModuleTree → ℕ → List ℕ → List Fault
unknown_module modules line name = fault_if (not (is_some (module_named name modules))) (UnknownName line name)

-- the unknown references of an expression, from left to right
abbrev pub unknown_in : List (Reference × Role) → ℕ → Term → List Fault
unknown_in scope line (NamedTerm r) = unknown_reference scope line r
unknown_in scope line (ConstantTerm l) = []
unknown_in scope line (UnaryTerm o a) = unknown_in scope line a
unknown_in scope line (BinaryTerm o a b) = unknown_in scope line a ++ unknown_in scope line b
unknown_in scope line (FixedTerm o a n m) = unknown_in scope line a
unknown_in scope line (MuxTerm c a b) = unknown_in scope line c ++ (unknown_in scope line a ++ unknown_in scope line b)

-- the unknown references of the expressions among these arguments; a text has none
abbrev pub unknown_in_arguments : List (Reference × Role) → ℕ → List Argument → List Fault
unknown_in_arguments scope line [] = []
unknown_in_arguments scope line (Value e ∷ rest) = unknown_in scope line e ++ unknown_in_arguments scope line rest
unknown_in_arguments scope line (Text t ∷ rest) = unknown_in_arguments scope line rest

-- the unknown references of a reset, on the reset's line: in its condition, then in its value
abbrev pub unknown_in_reset : List (Reference × Role) → Option Reset → List Fault
unknown_in_reset scope None = []
unknown_in_reset scope (Some reset) =
    unknown_in scope reset.line reset.condition ++ unknown_in scope reset.line reset.init

-- The unknown names of a statement, from left to right, in the scope of what is declared before it. In its own reset a register is declared
-- too.
abbrev pub unknown_in_kind : List ModuleTree → List (Reference × Role) → ℕ → statements.StmtKind → List Fault
unknown_in_kind modules scope line (Wire name ty) = []
unknown_in_kind modules scope line (Node name value) = unknown_in scope line value
unknown_in_kind modules scope line (Register name ty clock reset) =
    unknown_in scope line clock ++ unknown_in_reset (scope ++ (Local name, roles.Register) ∷ []) reset
unknown_in_kind modules scope line (Instance name of_module) = unknown_module modules line of_module
unknown_in_kind modules scope line (Memory name fields) = []
unknown_in_kind modules scope line (Connect sink source) = unknown_reference scope line sink ++ unknown_in scope line source
unknown_in_kind modules scope line (Invalid sink) = unknown_reference scope line sink
unknown_in_kind modules scope line Skip = []
unknown_in_kind modules scope line (Stop clock condition code label) =
    unknown_in scope line clock ++ unknown_in scope line condition
unknown_in_kind modules scope line (Report word arguments label) = unknown_in_arguments scope line arguments

-- the unknown names of a statement, after the module's ports and the statements before it
abbrev pub unknown_by : List ModuleTree → List Port → List Stmt → Stmt → List Fault
unknown_by modules ports before s = unknown_in_kind modules (scope_after modules ports before) s.line s.kind

-- at each reference that names nothing that has a value, and at each instance of a module that doesn't exist
abbrev pub unknown_names : List ModuleTree → ModuleTree → List Fault
unknown_names modules m = along (unknown_by modules m.ports) m.statements

-- ---- F4

-- one of the statements connects the reference
abbrev pub is_connected : List Stmt → Reference → Bool
is_connected statements r = list_any (connects r) statements

-- F4 if this reference, where there is one, is a sink that a statement before connects
abbrev pub second_to : List (Reference × Role) → List Stmt → ℕ → Option Reference → List Fault
second_to scope before line None = []
second_to scope before line (Some r) =
    fault_if (is_sink (meaning_of scope r) && is_connected before r) (SecondConnection line (written r))

-- `second_to` for the reference that a statement connects
abbrev pub second_by : List (Reference × Role) → List Stmt → Stmt → List Fault
second_by scope before s = second_to scope before s.line (connected_by s)

-- at each connection of a sink that an earlier statement connects
abbrev pub second_connections : List ModuleTree → ModuleTree → List Fault
second_connections modules m = along (second_by (scope_of modules m)) m.statements

-- ---- F5

-- a name that must be connected, but isn't; it is reported at this line
abbrev pub unconnected_entry : (Reference → Bool) → ℕ → Reference × Role → List Fault
unconnected_entry connected line e = fault_if (needs_connection e.1 && not (connected e.0)) (Unconnected line (written e.0))

-- F5 if a port must be connected and isn't; only an output must be
abbrev pub unconnected_port : (Reference → Bool) → Port → List Fault
unconnected_port connected port = unconnected_entry connected port.line (entry_by_port port)

-- the unconnected names of one statement, in the order of its declarations: an instance's inputs in the order of its module's ports, a
-- memory's fields by readers, then writers
abbrev pub unconnected_by : List ModuleTree → (Reference → Bool) → Stmt → List Fault
unconnected_by modules connected s = flat_map (unconnected_entry connected s.line) (entries_by modules s)

-- the unconnected names of a module: its ports, then what its statements declare
abbrev pub unconnected_among : List ModuleTree → (Reference → Bool) → ModuleTree → List Fault
unconnected_among modules connected m =
    flat_map (unconnected_port connected) m.ports ++ flat_map (unconnected_by modules connected) m.statements

-- at the declaration of each sink, other than a register, that no statement connects
abbrev pub unconnected_sinks : List ModuleTree → ModuleTree → List Fault
unconnected_sinks modules m = unconnected_among modules (is_connected m.statements) m

-- ---- F6

-- F6 if this reference, where there is one, is a source
abbrev pub source_to : List (Reference × Role) → ℕ → Option Reference → List Fault
source_to scope line None = []
source_to scope line (Some r) = fault_if (is_source (meaning_of scope r)) (ConnectedSource line (written r))

-- `source_to` for the reference that a statement connects
abbrev pub source_by : List (Reference × Role) → Stmt → List Fault
source_by scope s = source_to scope s.line (connected_by s)

-- at each connection of a source
abbrev pub connected_sources : List ModuleTree → ModuleTree → List Fault
connected_sources modules m = flat_map (source_by (scope_of modules m)) m.statements

-- ---- all of them

-- the faults of one number, module by module; modules that the top doesn't reach are checked too
abbrev pub in_modules : (List ModuleTree → ModuleTree → List Fault) → CircuitTree → List Fault
in_modules faults circuit = flat_map (faults circuit.modules) circuit.modules

-- the faults F1 to F6, by number and then in the order of the text
abbrev pub named_faults : CircuitTree → List Fault
named_faults circuit =
    missing_top circuit
    ++ (repeated_names circuit
    ++ (in_modules unknown_names circuit
    ++ (in_modules second_connections circuit
    ++ (in_modules unconnected_sinks circuit
    ++ in_modules connected_sources circuit))))
