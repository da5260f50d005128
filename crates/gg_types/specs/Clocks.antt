-- Where a Clock comes from: through the drivers of wires and nodes to an input port (FIRRTL Specification, "Clock Type").
use Rattle.std.specs.Prelude.{ℕ, zero, suc, Bool, true, false, ◌&&◌, List, [], ◌∷◌, ◌++◌, map, filter, flat_map, Option, Some, None, length, if◌then◌else◌}
use Rattle.std.specs.Str.{bytes_eq}
use Rattle.gg_ast.specs.declared.expression.Reference.{Reference}
use Rattle.gg_ast.specs.declared.expression.Reference.TheVariants as references
use Rattle.gg_ast.specs.declared.module.Direction.{Direction}
use Rattle.gg_ast.specs.declared.module.Direction.TheVariants as directions
use Rattle.gg_ast.specs.declared.module.Port.{Port}
use Rattle.gg_ast.specs.declared.statement.Stmt.{Stmt}
use Rattle.gg_ast.specs.declared.statement.StmtKind as statements
use Rattle.gg_ast.specs.declared.statement.StmtKind.TheVariants as kinds
use Rattle.gg_ast.specs.Term.{Term, NamedTerm, ConstantTerm, UnaryTerm, BinaryTerm, FixedTerm, MuxTerm}
use Rattle.gg_ast.specs.Tree.{ModuleTree}
use Rattle.gg_bits.specs.Lists.{find_word}
use Rattle.gg_types.specs.declared.way.Way.{Way}
use Rattle.gg_types.specs.declared.way.Way.TheVariants.{FromOutside, FromDriver, Nowhere}
use Rattle.gg_types.specs.Sorts.{is_clock}

-- ---- where the names of a module get a Clock from

-- an input port gets it from outside
abbrev pub way_of_port : Direction → Way
way_of_port directions.Input = FromOutside
way_of_port directions.Output = Nowhere

-- a port's name, and where it gets a Clock from
abbrev pub port_way : Port → List ℕ × Way
port_way port = (port.name, way_of_port port.direction)

-- a wire and a node get it from their driver; a register, an instance and a memory from nowhere that is followed
abbrev pub ways_by : statements.StmtKind → List (List ℕ × Way)
ways_by (kinds.Wire name ty) = (name, FromDriver) ∷ []
ways_by (kinds.Node name value) = (name, FromDriver) ∷ []
ways_by (kinds.Register name ty clock reset) = (name, Nowhere) ∷ []
ways_by (kinds.Instance name of_module) = (name, Nowhere) ∷ []
ways_by (kinds.Memory name fields) = (name, Nowhere) ∷ []
ways_by (kinds.Connect sink source) = []
ways_by (kinds.Invalid sink) = []
ways_by kinds.Skip = []
ways_by (kinds.Stop clock condition code label) = []
ways_by (kinds.Report word arguments label) = []

-- all names of a module, each with where it gets a Clock from: the ports, then what the statements declare
abbrev pub ways_of : ModuleTree → List (List ℕ × Way)
ways_of m = map port_way m.ports ++ flat_map (λ s. ways_by s.kind) m.statements

-- whether a name gets a Clock from outside the module; a name that isn't declared does not
abbrev pub is_outside : Option Way → Bool
is_outside None = false
is_outside (Some FromOutside) = true
is_outside (Some FromDriver) = false
is_outside (Some Nowhere) = false

-- whether a name gets a Clock from its driver, so that it leads on; a name that isn't declared does not
abbrev pub is_followed : Option Way → Bool
is_followed None = false
is_followed (Some FromOutside) = false
is_followed (Some FromDriver) = true
is_followed (Some Nowhere) = false

-- ---- drivers

-- The name that a driver leads to. Only a bare reference leads on. A port of an instance and a field of a memory are
-- not names of the module.
abbrev pub bare_reference : Reference → Option (List ℕ)
bare_reference (references.Local name) = Some name
bare_reference (references.PortOf instance port) = None
bare_reference (references.FieldOf memory port field) = None

-- the name that an expression leads to; only an expression that is a bare reference leads on
abbrev pub bare : Term → Option (List ℕ)
bare (NamedTerm r) = bare_reference r
bare (ConstantTerm l) = None
bare (UnaryTerm o a) = None
bare (BinaryTerm o a b) = None
bare (FixedTerm o a n m) = None
bare (MuxTerm c a b) = None

-- The name that a statement drives, if it drives one, and where it leads. A node leads where its expression does, the
-- sink of a connection where its source does. An invalid sink leads nowhere.
abbrev pub driven_reference : Reference → Option (List ℕ) → Option (List ℕ × Option (List ℕ))
driven_reference (references.Local name) lead = Some (name, lead)
driven_reference (references.PortOf instance port) lead = None
driven_reference (references.FieldOf memory port field) lead = None

-- the name that a statement drives, and where it leads: a node, and the sink of a connection
abbrev pub driven_by : statements.StmtKind → Option (List ℕ × Option (List ℕ))
driven_by (kinds.Wire name ty) = None
driven_by (kinds.Node name value) = Some (name, bare value)
driven_by (kinds.Register name ty clock reset) = None
driven_by (kinds.Instance name of_module) = None
driven_by (kinds.Memory name fields) = None
driven_by (kinds.Connect sink source) = driven_reference sink (bare source)
driven_by (kinds.Invalid sink) = driven_reference sink None
driven_by kinds.Skip = None
driven_by (kinds.Stop clock condition code label) = None
driven_by (kinds.Report word arguments label) = None

-- where a name leads after one more statement
abbrev pub led_on : List ℕ → Option (List ℕ) → Option (List ℕ × Option (List ℕ)) → Option (List ℕ)
led_on name so_far None = so_far
led_on name so_far (Some d) = if bytes_eq name d.0 then d.1 else so_far

-- where a name leads after these statements, from where it led before them: the last that drives it counts
abbrev pub lead_from : List ℕ → Option (List ℕ) → List Stmt → Option (List ℕ)
lead_from name so_far [] = so_far
lead_from name so_far (s ∷ ss) = lead_from name (led_on name so_far (driven_by s.kind)) ss

-- where the driver of a name leads, by the statements of its module
abbrev pub lead_of : List ℕ → List Stmt → Option (List ℕ)
lead_of name statements = lead_from name None statements

-- ---- following them

-- the next name after a name that is followed
abbrev pub next_of : List (List ℕ × Way) → List Stmt → List ℕ → Option (List ℕ)
next_of ways statements name = if is_followed (find_word name ways) then lead_of name statements else None

-- the name that n steps lead to; if a name has no next one, it stays the same
abbrev pub stay_or : List ℕ → Option (List ℕ) → List ℕ
stay_or name None = name
stay_or name (Some other) = other

-- the name that n steps from this one lead to
abbrev pub followed : List (List ℕ × Way) → List Stmt → ℕ → List ℕ → List ℕ
followed ways statements zero name = name
followed ways statements (suc n) name = followed ways statements n (stay_or name (next_of ways statements name))

-- A name leads to an input port if as many steps as there are names lead to one. A longer way would pass a name twice,
-- and so be a ring.
abbrev pub leads : List (List ℕ × Way) → List Stmt → List ℕ → Bool
leads ways statements name = is_outside (find_word (followed ways statements (length ways) name) ways)

-- whether a name of a module leads to one of the module's inputs
abbrev pub leads_to_input : ModuleTree → List ℕ → Bool
leads_to_input m name = leads (ways_of m) m.statements name

-- ---- which Clock input

-- whether a direction is an input's
abbrev pub is_input : Direction → Bool
is_input directions.Input = true
is_input directions.Output = false

-- whether a port is an input of type Clock
abbrev pub is_clock_input : Port → Bool
is_clock_input port = is_clock port.ty && is_input port.direction

-- the names of the Clock inputs, in port order
abbrev pub clock_inputs : List Port → List (List ℕ)
clock_inputs ports = map (λ port. port.name) (filter is_clock_input ports)

-- how many Clock inputs there are with this port, and its number among them if it is one
abbrev pub counted_clock : ℕ → Port → ℕ
counted_clock count port = if is_clock_input port then suc count else count

-- the port's number, if it is a Clock input and `count` of them are before it
abbrev pub clock_number : ℕ → Port → Option ℕ
clock_number count port = if is_clock_input port then Some count else None

-- the number of the first port of this name among the Clock inputs; the first Clock input has the number `count`
abbrev pub clock_from : ℕ → List Port → List ℕ → Option ℕ
clock_from count [] name = None
clock_from count (p ∷ ps) name = if bytes_eq name p.name then clock_number count p else clock_from (counted_clock count p) ps name

-- The number of the port of this name among the Clock inputs, in port order from 0; none if it isn't one.
abbrev pub clock_named : List Port → List ℕ → Option ℕ
clock_named ports name = clock_from 0 ports name

-- the name that a name leads to through the drivers of wires and nodes
abbrev pub root_of : ModuleTree → List ℕ → List ℕ
root_of m name = followed (ways_of m) m.statements (length (ways_of m)) name

-- The Clock input that a reference follows, by its number among the module's; none if it follows none. A port of an instance and a field of
-- a memory follow none.
abbrev pub clock_followed : ModuleTree → Reference → Option ℕ
clock_followed m (references.Local name) = clock_named m.ports (root_of m name)
clock_followed m (references.PortOf instance port) = None
clock_followed m (references.FieldOf memory port field) = None
