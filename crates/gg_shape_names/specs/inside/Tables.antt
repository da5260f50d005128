-- The meaning of the tables of a namespace.
-- Source: FIRRTL Specification, "Namespaces"; the tables are this program's own.
use Rattle.std.specs.Prelude.{◌≡◌, ℕ, ◌<◌, ◌^◌, ◌||◌, List, [], ◌∷◌, Option, Some, None, map, flat_map, length, take, slice_index_or, if◌then◌else◌}
use Rattle.std.specs.List.{list_any}
use Rattle.std.specs.Str.{bytes_eq}
use Rattle.gg_bits.specs.Lists.{or_else, find_word}
use Rattle.gg_ast.specs.declared.expression.Reference.{Reference}
use Rattle.gg_ast.specs.declared.expression.Reference.TheVariants.{Local, PortOf, FieldOf}
use Rattle.gg_ast.specs.declared.module.Port.{Port}
use Rattle.gg_ast.specs.declared.statement.Field.{Field}
use Rattle.gg_ast.specs.declared.statement.Stmt.{Stmt}
use Rattle.gg_ast.specs.Tree.{ModuleTree, CircuitTree}
use Rattle.gg_shape_names.specs.declared.role.Role.{Role}
use Rattle.gg_shape_names.specs.declared.role.Role.TheVariants as roles
use Rattle.gg_shape_names.specs.declared.role.PortKind.{PortKind}
use Rattle.gg_shape_names.specs.declared.role.PortKind.TheVariants.{Reader, Writer}
use Rattle.gg_shape_names.specs.declared.role.PortField.{PortField}
use Rattle.gg_shape_names.specs.declared.table.Declared.{Declared}
use Rattle.gg_shape_names.specs.declared.table.Declared.TheVariants.{Plain, Instance, Memory}
use Rattle.gg_shape_names.specs.Memory.{readers_in, writers_in, port_fields}
use Rattle.gg_shape_names.specs.inside.Memory.{field_of}
use Rattle.gg_shape_names.specs.Modules.{module_at}
use Rattle.gg_shape_names.specs.Namespace.{role_of_instance_port, names_after, scope_after}
use Rattle.gg_shape_names.specs.Repetitions.{repetitions}
use Rattle.gg_shape_names.specs.Scope.{entry_of, first_name}

-- ---- sets of names

-- both lists have the same names, whatever their order
abbrev pub HaveSame : List (List ℕ) → List (List ℕ) → Type 0
HaveSame names others = (q : List ℕ) → list_any (bytes_eq q) names ≡ list_any (bytes_eq q) others

-- the names are just the words and the others together
abbrev pub IsEither : List (List ℕ) → List (List ℕ) → List (List ℕ) → Type 0
IsEither names words others = (q : List ℕ) → list_any (bytes_eq q) names ≡ list_any (bytes_eq q) words || list_any (bytes_eq q) others

-- all readers of a memory with these fields
abbrev pub readers_of : List Field → List (List ℕ)
readers_of fields = flat_map (λ (f : Field). readers_in f.kind) fields

-- all writers of a memory with these fields
abbrev pub writers_of : List Field → List (List ℕ)
writers_of fields = flat_map (λ (f : Field). writers_in f.kind) fields

-- the readers and the writers that the fields name
pub record HavePorts (fields : List Field) (readers writers : List (List ℕ)) : Type 0 where
  pub reads : HaveSame readers (readers_of fields)
  pub writes : HaveSame writers (writers_of fields)

-- ---- a table: the names that a module declares, each with its declaration

-- the names of a table's entries, in order
abbrev pub names_told : List (List ℕ × Declared) → List (List ℕ)
names_told table = map (λ e. e.0) table

-- the role of a declared name itself
abbrev pub own_role : Declared → Role
own_role (Plain role) = role
own_role (Instance k) = roles.Instance
own_role (Memory readers writers) = roles.Memory

-- the first port of that name, with its role as a port of an instance
abbrev pub role_of_port_named : List ℕ → List Port → Option Role
role_of_port_named name [] = None
role_of_port_named name (p ∷ ps) = if bytes_eq name p.name then Some (role_of_instance_port p.direction p.ty) else role_of_port_named name ps

-- the port's field with this text
abbrev pub field_role : PortKind → Option PortField → Option Role
field_role kind None = None
field_role kind (Some field) = Some (roles.MemoryPort kind field)

-- the field of a port, by the names of the readers and of the writers
abbrev pub role_of_field : List (List ℕ) → List (List ℕ) → List ℕ → List ℕ → Option Role
role_of_field readers writers port field =
    or_else (if list_any (bytes_eq port) readers then field_role Reader (field_of field (port_fields Reader)) else None)
    (if list_any (bytes_eq port) writers then field_role Writer (field_of field (port_fields Writer)) else None)

-- what a reference names if its first name has this declaration
abbrev pub through : List ModuleTree → Declared → Reference → Option Role
through modules declared (Local name) = Some (own_role declared)
through modules (Instance (Some k)) (PortOf instance port) = role_of_port_named port (module_at modules k).ports
through modules (Instance None) (PortOf instance port) = None
through modules (Plain role) (PortOf instance port) = None
through modules (Memory readers writers) (PortOf instance port) = None
through modules (Memory readers writers) (FieldOf memory port field) = role_of_field readers writers port field
through modules (Plain role) (FieldOf memory port field) = None
through modules (Instance k) (FieldOf memory port field) = None

-- `through` for a first name that may not be declared; if it isn't, the reference names nothing
abbrev pub through_found : List ModuleTree → Option Declared → Reference → Option Role
through_found modules None r = None
through_found modules (Some declared) r = through modules declared r

-- what a reference names by a table
abbrev pub found : List ModuleTree → List (List ℕ × Declared) → Reference → Option Role
found modules table r = through_found modules (find_word (first_name r) table) r

-- the place of an instance's module is the place of a module
abbrev pub IsPlaced : List ModuleTree → Declared → Type 0
IsPlaced modules (Instance (Some k)) = k < length modules
IsPlaced modules (Instance None) = Unit {0}
IsPlaced modules (Plain role) = Unit {0}
IsPlaced modules (Memory readers writers) = Unit {0}

-- `IsPlaced` for each entry of a table
abbrev pub ArePlaced : List ModuleTree → List (List ℕ × Declared) → Type 0
ArePlaced modules [] = Unit {0}
ArePlaced modules (e ∷ es) = IsPlaced modules e.1 × ArePlaced modules es

-- The table has the names that the ports and the statements declare, in the order of the file. Its first entries say
-- what the scope after the first statements says.
pub record TellsScope (modules : List ModuleTree) (ports : List Port) (statements : List Stmt) (table : List (List ℕ × Declared)) : Type 0 where
  pub names_are : names_told table ≡ names_after ports statements
  pub placed : ArePlaced modules table
  pub tells : (n : ℕ) (r : Reference) → entry_of r (scope_after modules ports (take n statements)) ≡ found modules (take (length (names_after ports (take n statements))) table) r

-- the table is the table of a whole module
abbrev pub TellsModule : List ModuleTree → ModuleTree → List (List ℕ × Declared) → Type 0
TellsModule modules m table = TellsScope modules m.ports m.statements table

-- the first tables are the tables of the first modules
pub record AreTold (modules : List ModuleTree) (count : ℕ) (tables : List (List (List ℕ × Declared))) : Type 0 where
  pub one_each : length tables ≡ count
  pub tell : (k : ℕ) → k < count → TellsModule modules (module_at modules k) (slice_index_or tables k [])

-- the tables of a circuit without repeated names
pub record AreTables (circuit : CircuitTree) (tables : List (List (List ℕ × Declared))) : Type 0 where
  pub few : length circuit.modules < 2 ^ 32
  pub once : repetitions circuit ≡ []
  pub told : AreTold circuit.modules (length circuit.modules) tables
