-- Names that come twice: of modules, of what a module declares, of a memory's ports (FIRRTL Specification,
-- "Namespaces"). Each repetition is reported at the later of the two.
use Rattle.std.specs.Prelude.{ℕ, Bool, true, false, List, [], ◌∷◌, ◌++◌, flat_map}
use Rattle.std.specs.List.{list_any}
use Rattle.std.specs.Str.{bytes_eq}
use Rattle.gg_ast.specs.declared.module.Port.{Port}
use Rattle.gg_ast.specs.declared.statement.Field.{Field}
use Rattle.gg_ast.specs.declared.statement.MemoryField as fields
use Rattle.gg_ast.specs.declared.statement.MemoryField.TheVariants.{DataType, Depth, ReadLatency, WriteLatency, Readers, Writers, ReadUnderWrite}
use Rattle.gg_ast.specs.declared.statement.Stmt.{Stmt}
use Rattle.gg_ast.specs.declared.statement.StmtKind as statements
use Rattle.gg_ast.specs.declared.statement.StmtKind.TheVariants as kinds
use Rattle.gg_ast.specs.Tree.{ModuleTree, CircuitTree, names_of}
use Rattle.gg_shape_names.specs.declared.fault.Repetition.{Repetition}
use Rattle.gg_shape_names.specs.Along.{along, first}
use Rattle.gg_shape_names.specs.Namespace.{names_after}

-- the repetition, if the test is true
abbrev pub repetition_if : Bool → ℕ → List ℕ → List Repetition
repetition_if true line name = record { line = line; name = name } ∷ []
repetition_if false line name = []

-- a name on this line that is among the names before it
abbrev pub repeated_in : List (List ℕ) → ℕ → List ℕ → List Repetition
repeated_in before line name = repetition_if (list_any (bytes_eq name) before) line name

-- ---- the ports of a memory: readers and writers have one namespace

-- the names of ports in a field, of readers or of writers
abbrev pub ports_in_field : fields.MemoryField → List (List ℕ)
ports_in_field (Readers names) = names
ports_in_field (Writers names) = names
ports_in_field (DataType ty) = []
ports_in_field (Depth n) = []
ports_in_field (ReadLatency n) = []
ports_in_field (WriteLatency n) = []
ports_in_field (ReadUnderWrite word) = []

-- a name of a port on this line that an earlier field of the memory has, or that comes before it in its own field
abbrev pub repeated_port_of : List (List ℕ) → ℕ → List (List ℕ) → List ℕ → List Repetition
repeated_port_of earlier line before name = repeated_in (earlier ++ before) line name

-- the names of one field that came before, in the fields before it or in the field itself
abbrev pub repeated_in_field : List Field → Field → List Repetition
repeated_in_field before f =
    along (repeated_port_of (flat_map (λ (g : Field). ports_in_field g.kind) before) f.line) (ports_in_field f.kind)

-- ---- what a module declares

-- a port with the name of an earlier port
abbrev pub repeated_port : List Port → Port → List Repetition
repeated_port before port = repeated_in (names_after before []) port.line port.name

-- a statement after the declarations of these names: first the name that it declares, then a memory's ports
abbrev pub repeated_by_kind : List (List ℕ) → ℕ → statements.StmtKind → List Repetition
repeated_by_kind names line (kinds.Wire name ty) = repeated_in names line name
repeated_by_kind names line (kinds.Node name value) = repeated_in names line name
repeated_by_kind names line (kinds.Register name ty clock reset) = repeated_in names line name
repeated_by_kind names line (kinds.Instance name of_module) = repeated_in names line name
repeated_by_kind names line (kinds.Memory name fields) = repeated_in names line name ++ along repeated_in_field fields
repeated_by_kind names line (kinds.Connect sink source) = []
repeated_by_kind names line (kinds.Invalid sink) = []
repeated_by_kind names line kinds.Skip = []
repeated_by_kind names line (kinds.Stop clock condition code label) = []
repeated_by_kind names line (kinds.Report word arguments label) = []

-- what comes twice at a statement, after the module's ports and the statements before it
abbrev pub repeated_by : List Port → List Stmt → Stmt → List Repetition
repeated_by ports before s = repeated_by_kind (names_after ports before) s.line s.kind

-- all that comes twice in one module: at its ports, then at its statements
abbrev pub repeated_declarations : ModuleTree → List Repetition
repeated_declarations m = along repeated_port m.ports ++ along (repeated_by m.ports) m.statements

-- ---- modules

-- a module with the name of an earlier one, then what comes twice in it
abbrev pub repeated_module : List ModuleTree → ModuleTree → List Repetition
repeated_module before m = repeated_in (names_of before) m.line m.name ++ repeated_declarations m

-- all of a circuit, in the order of the text
abbrev pub repetitions : CircuitTree → List Repetition
repetitions circuit = along repeated_module circuit.modules
