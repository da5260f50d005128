-- The type of each expression and the faults of types, in the order of the text.
-- Sources: FIRRTL Specification, "Ground Types" (F10), "Primitive Operations" (F9 to F11), "Expressions" (F12), "Connects",
-- "Registers", "Memories" (F9, F13), "Clock Type" (F14).
use Rattle.std.specs.Prelude.{ℕ, Bool, false, not, ◌&&◌, List, [], ◌∷◌, ◌++◌, Option, Some, None, Result, Ok, Err, map, nat_lt, nat_le, is_some, option_map, if◌then◌else◌}
use Rattle.std.specs.List.{flat_map}
use Rattle.gg_bits.specs.declared.types.Bad.{Bad}
use Rattle.gg_bits.specs.declared.types.Bad.TheVariants as bads
use Rattle.gg_bits.specs.declared.types.Kind.{Kind}
use Rattle.gg_bits.specs.Shape.{Shape, of_kind}
use Rattle.gg_bits.specs.ResultType.{type1, type2, type_const, type_mux, is_condition, same_kind}
use Rattle.gg_ast.specs.declared.expression.Reference.{Reference}
use Rattle.gg_ast.specs.declared.expression.Reference.TheVariants as references
use Rattle.gg_ast.specs.declared.expression.Literal.{Literal}
use Rattle.gg_ast.specs.declared.module.GroundType.{GroundType}
use Rattle.gg_ast.specs.declared.module.GroundType.TheVariants as types
use Rattle.gg_ast.specs.declared.module.Port.{Port}
use Rattle.gg_ast.specs.declared.statement.Argument.{Argument}
use Rattle.gg_ast.specs.declared.statement.Argument.TheVariants.{Value, Text}
use Rattle.gg_ast.specs.declared.statement.Field.{Field}
use Rattle.gg_ast.specs.declared.statement.MemoryField.{MemoryField}
use Rattle.gg_ast.specs.declared.statement.MemoryField.TheVariants as field
use Rattle.gg_ast.specs.declared.statement.Reset.{Reset}
use Rattle.gg_ast.specs.declared.statement.Stmt.{Stmt}
use Rattle.gg_ast.specs.declared.statement.StmtKind as statements
use Rattle.gg_ast.specs.declared.statement.StmtKind.TheVariants as kinds
use Rattle.gg_ast.specs.Term.{Term, NamedTerm, ConstantTerm, UnaryTerm, BinaryTerm, FixedTerm, MuxTerm}
use Rattle.gg_ast.specs.Tree.{ModuleTree, CircuitTree}
use Rattle.gg_shape.specs.declared.fault.Fault.{Fault}
use Rattle.gg_shape.specs.declared.fault.Fault.TheVariants.{UnknownName, WrongKind, WrongWidth, WrongParameter, LiteralTooLarge, TooWide, WrongClock}
use Rattle.gg_shape.specs.declared.fault.Word.{Word}
use Rattle.gg_shape.specs.declared.fault.Word.TheVariants as words
use Rattle.gg_shape_names.specs.Along.{along}
use Rattle.gg_shape_names.specs.declared.role.Role.{Role}
use Rattle.gg_shape_names.specs.Scope.{written}
use Rattle.gg_shape_names.specs.Namespace.{scope_of}
use Rattle.gg_shape.specs.Faults.{fault_if}
use Rattle.gg_types.specs.Literal.{literal_fits}
use Rattle.gg_types.specs.Clocks.{is_input, leads_to_input}
use Rattle.gg_types.specs.declared.sort.Sort.{Sort}
use Rattle.gg_types.specs.declared.sort.Sort.TheVariants.{Bits, Clock}
use Rattle.gg_types.specs.declared.sort.Own.{Own}
use Rattle.gg_types.specs.declared.sort.Own.TheVariants as own
use Rattle.gg_types.specs.Owned.{port_own, memory_own, known_entry, sort_of_reference}
use Rattle.gg_types.specs.Sorts.{is_clock, sort_of, bits}

-- ---- references

-- A name that is not declared is not a fault of types: it is F3, which is checked before. It is here so that the list
-- of faults is right for every circuit.
abbrev pub undeclared : List (Reference × Role) → List (List ℕ × Option Own) → ℕ → Reference → List Fault
undeclared roles known line r = fault_if (not (is_some (known_entry roles known r))) (UnknownName line (written r))

-- Whether a reference leads to an input port through the drivers of wires and nodes, by a test of names. A port of an
-- instance and a field of a memory lead to none.
abbrev pub is_traced : (List ℕ → Bool) → Reference → Bool
is_traced traced (references.Local name) = traced name
is_traced traced (references.PortOf instance port) = false
is_traced traced (references.FieldOf memory port field) = false

-- a Clock that is read leads to an input port, otherwise F14
abbrev pub clock_faults : (List ℕ → Bool) → ℕ → Reference → Option Sort → List Fault
clock_faults traced line r None = []
clock_faults traced line r (Some (Bits k w)) = []
clock_faults traced line r (Some Clock) = fault_if (not (is_traced traced r)) (WrongClock line (written r))

-- the type of a reference that is read; a Clock that doesn't lead to an input port has none
abbrev pub read_sort : (List ℕ → Bool) → Reference → Option Sort → Option Sort
read_sort traced r None = None
read_sort traced r (Some (Bits k w)) = Some (Bits k w)
read_sort traced r (Some Clock) = if is_traced traced r then Some Clock else None

-- ---- operations

-- What an operation makes of its operands' types: nothing if an operand has no type. No operation takes a Clock.
abbrev pub result1 : (Shape → Result Shape Bad) → Option Sort → Option (Result Shape Bad)
result1 op None = None
result1 op (Some (Bits k w)) = Some (op (of_kind k w))
result1 op (Some Clock) = Some (Err bads.Kind)

-- `result1` for two operands: a Clock among them is a wrong kind, once both have a type
abbrev pub result2 : (Shape → Shape → Result Shape Bad) → Option Sort → Option Sort → Option (Result Shape Bad)
result2 op None b = None
result2 op (Some (Bits k w)) b = result1 (op (of_kind k w)) b
result2 op (Some Clock) None = None
result2 op (Some Clock) (Some b) = Some (Err bads.Kind)

-- `result1` for three operands
abbrev pub result3 : (Shape → Shape → Shape → Result Shape Bad) → Option Sort → Option Sort → Option Sort → Option (Result Shape Bad)
result3 op None b c = None
result3 op (Some (Bits k w)) b c = result2 (op (of_kind k w)) b c
result3 op (Some Clock) None c = None
result3 op (Some Clock) (Some b) None = None
result3 op (Some Clock) (Some b) (Some c) = Some (Err bads.Kind)

-- what is wrong with an operation, as a fault on this line: F9, F10 or F11
abbrev pub bad_faults : ℕ → Word → Bad → List Fault
bad_faults line word bads.Kind = WrongKind line word ∷ []
bad_faults line word (bads.Width w) = WrongWidth line w ∷ []
bad_faults line word bads.Param = WrongParameter line word ∷ []

-- what is wrong with a result, and the type of a valid one
abbrev pub result_faults : ℕ → Word → Option (Result Shape Bad) → List Fault
result_faults line word None = []
result_faults line word (Some (Ok s)) = []
result_faults line word (Some (Err bad)) = bad_faults line word bad

-- the type of a result, if there is one and nothing is wrong with it
abbrev pub result_sort : Option (Result Shape Bad) → Option Sort
result_sort None = None
result_sort (Some (Ok s)) = Some (bits s)
result_sort (Some (Err bad)) = None

-- ---- literals and declared types: a width is 1 to 128

-- a width from 1 to 128
abbrev pub is_width : ℕ → Bool
is_width w = nat_le 1 w && nat_le w 128

-- F10 if a literal's width is wrong, otherwise F12 if its number doesn't fit its width
abbrev pub literal_faults : ℕ → Literal → List Fault
literal_faults line l =
    if is_width l.width then fault_if (not (literal_fits l)) (LiteralTooLarge line) else WrongWidth line l.width ∷ []

-- the shape of a literal, if its width is 1 to 128 and its number fits
abbrev pub literal_shape : Literal → Option Shape
literal_shape l = if is_width l.width && literal_fits l then Some (of_kind l.kind l.width) else None

-- the type of a literal, if its width is 1 to 128 and its number fits
abbrev pub literal_sort : Literal → Option Sort
literal_sort l = if is_width l.width && literal_fits l then Some (Bits l.kind l.width) else None

-- F10, if a written type's width is not 1 to 128; a Clock has no width
abbrev pub width_faults : ℕ → GroundType → List Fault
width_faults line (types.UInt w) = fault_if (not (is_width w)) (WrongWidth line w)
width_faults line (types.SInt w) = fault_if (not (is_width w)) (WrongWidth line w)
width_faults line types.Clock = []

-- ---- positions with a rule of their own

-- in a clock position there is a reference of type Clock; only a reference has that type
abbrev pub clock_position : ℕ → Word → Option Sort → List Fault
clock_position line word None = []
clock_position line word (Some (Bits k w)) = WrongKind line word ∷ []
clock_position line word (Some Clock) = []

-- F9 if a condition's type isn't UInt<1>; no fault if it isn't known
abbrev pub condition_position : ℕ → Word → Option Sort → List Fault
condition_position line word None = []
condition_position line word (Some (Bits k w)) = fault_if (not (is_condition (of_kind k w))) (WrongKind line word)
condition_position line word (Some Clock) = WrongKind line word ∷ []

-- a value that is connected has its sink's kind and is not wider
abbrev pub bits_connected : ℕ → Word → Kind → ℕ → Kind → ℕ → List Fault
bits_connected line word sink_kind sink source_kind source =
    if same_kind sink_kind source_kind
    then fault_if (nat_lt sink source) (TooWide line source sink)
    else WrongKind line word ∷ []

-- F9 or F13 if a source of this type can't be connected to a sink of that type; no fault if one of the types isn't known
abbrev pub connected : ℕ → Word → Option Sort → Option Sort → List Fault
connected line word None source = []
connected line word (Some sink) None = []
connected line word (Some (Bits k w)) (Some (Bits l v)) = bits_connected line word k w l v
connected line word (Some (Bits k w)) (Some Clock) = WrongKind line word ∷ []
connected line word (Some Clock) (Some (Bits k w)) = WrongKind line word ∷ []
connected line word (Some Clock) (Some Clock) = []

-- a register (the word `reg`) and the words of a memory (`mem`) are not Clocks
abbrev pub stored_type_faults : ℕ → Word → GroundType → List Fault
stored_type_faults line word (types.UInt w) = width_faults line (types.UInt w)
stored_type_faults line word (types.SInt w) = width_faults line (types.SInt w)
stored_type_faults line word types.Clock = WrongKind line word ∷ []

-- a memory's type is checked on the line of its field; no other field has a type
abbrev pub field_faults : ℕ → MemoryField → List Fault
field_faults line (field.DataType ty) = stored_type_faults line words.Memory ty
field_faults line (field.Depth n) = []
field_faults line (field.ReadLatency n) = []
field_faults line (field.WriteLatency n) = []
field_faults line (field.Readers names) = []
field_faults line (field.Writers names) = []
field_faults line (field.ReadUnderWrite word) = []

-- `field_faults` for all fields of a memory
abbrev pub memory_type_faults : List Field → List Fault
memory_type_faults fields = flat_map (λ f. field_faults f.line f.kind) fields

-- the sink of `is invalid` is not a Clock
abbrev pub invalid_faults : ℕ → Reference → Option Sort → List Fault
invalid_faults line r None = []
invalid_faults line r (Some (Bits k w)) = []
invalid_faults line r (Some Clock) = WrongClock line (written r) ∷ []

-- ---- expressions

-- The module's names have these roles, and a test says which of them lead to an input port. What is known of names is the type data of the
-- names declared so far.
module _ (roles : List (Reference × Role)) (traced : List ℕ → Bool) where
  -- the type of an expression, if it and its parts have no fault
  abbrev pub sort_in : List (List ℕ × Option Own) → Term → Option Sort
  sort_in known (NamedTerm r) = read_sort traced r (sort_of_reference roles known r)
  sort_in known (ConstantTerm l) = literal_sort l
  sort_in known (UnaryTerm o a) = result_sort (result1 (type1 o) (sort_in known a))
  sort_in known (BinaryTerm o a b) = result_sort (result2 (type2 o) (sort_in known a) (sort_in known b))
  sort_in known (FixedTerm o a n m) = result_sort (result1 (λ s. type_const o s n m) (sort_in known a))
  sort_in known (MuxTerm c a b) = result_sort (result3 type_mux (sort_in known c) (sort_in known a) (sort_in known b))

  -- the faults of an expression: of its operands from left to right, then of its operation
  abbrev pub faults_in : List (List ℕ × Option Own) → ℕ → Term → List Fault
  faults_in known line (NamedTerm r) = undeclared roles known line r ++ clock_faults traced line r (sort_of_reference roles known r)
  faults_in known line (ConstantTerm l) = literal_faults line l
  faults_in known line (UnaryTerm o a) =
      faults_in known line a ++ result_faults line (words.Unary o) (result1 (type1 o) (sort_in known a))
  faults_in known line (BinaryTerm o a b) =
      faults_in known line a
      ++ (faults_in known line b
      ++ result_faults line (words.Binary o) (result2 (type2 o) (sort_in known a) (sort_in known b)))
  faults_in known line (FixedTerm o a n m) =
      faults_in known line a ++ result_faults line (words.Fixed o) (result1 (λ s. type_const o s n m) (sort_in known a))
  faults_in known line (MuxTerm c a b) =
      faults_in known line c
      ++ (faults_in known line a
      ++ (faults_in known line b
      ++ result_faults line words.Mux (result3 type_mux (sort_in known c) (sort_in known a) (sort_in known b))))

  -- the faults of an expression in a clock position
  abbrev pub clock_faults_in : List (List ℕ × Option Own) → ℕ → Word → Term → List Fault
  clock_faults_in known line word t = faults_in known line t ++ clock_position line word (sort_in known t)

  -- the faults of an expression as a condition
  abbrev pub condition_faults_in : List (List ℕ × Option Own) → ℕ → Word → Term → List Fault
  condition_faults_in known line word t = faults_in known line t ++ condition_position line word (sort_in known t)

  -- ---- statements

  -- the faults of a reset: of its condition, and of its initial value as connected to the register
  abbrev pub reset_faults : List (List ℕ × Option Own) → Option Sort → Option Reset → List Fault
  reset_faults known register None = []
  reset_faults known register (Some reset) =
      condition_faults_in known reset.line words.Register reset.condition
      ++ (faults_in known reset.line reset.init
      ++ connected reset.line words.Register register (sort_in known reset.init))

  -- the faults of a register: of its type, of its clock, and of its reset, where the register is already declared
  abbrev pub register_faults : List (List ℕ × Option Own) → ℕ → List ℕ → GroundType → Term → Option Reset → List Fault
  register_faults known line name ty clock reset =
      stored_type_faults line words.Register ty
      ++ (clock_faults_in known line words.Register clock
      ++ reset_faults (known ++ (name, Some (own.Single (sort_of ty))) ∷ []) (Some (sort_of ty)) reset)

  -- the faults of a connection: of its two sides, and then whether they may be connected
  abbrev pub connection_faults : List (List ℕ × Option Own) → ℕ → Reference → Term → List Fault
  connection_faults known line sink source =
      undeclared roles known line sink
      ++ (faults_in known line source
      ++ connected line words.Connect (sort_of_reference roles known sink) (sort_in known source))

  -- all arguments but the first need only have a type
  abbrev pub argument_faults : List (List ℕ × Option Own) → ℕ → List Argument → List Fault
  argument_faults known line [] = []
  argument_faults known line (Value e ∷ rest) = faults_in known line e ++ argument_faults known line rest
  argument_faults known line (Text t ∷ rest) = argument_faults known line rest

  -- the first argument is in a clock position
  abbrev pub report_faults : List (List ℕ × Option Own) → ℕ → Word → List Argument → List Fault
  report_faults known line word [] = []
  report_faults known line word (Value e ∷ rest) =
      clock_faults_in known line word e ++ argument_faults known line rest
  report_faults known line word (Text t ∷ rest) = WrongKind line word ∷ argument_faults known line rest

  -- the faults of a statement, given what is known of the names that are declared before it
  abbrev pub faults_of_kind : List (List ℕ × Option Own) → ℕ → statements.StmtKind → List Fault
  faults_of_kind known line (kinds.Wire name ty) = width_faults line ty
  faults_of_kind known line (kinds.Node name value) = faults_in known line value
  faults_of_kind known line (kinds.Register name ty clock reset) = register_faults known line name ty clock reset
  faults_of_kind known line (kinds.Instance name of_module) = []
  faults_of_kind known line (kinds.Memory name fields) = memory_type_faults fields
  faults_of_kind known line (kinds.Connect sink source) = connection_faults known line sink source
  faults_of_kind known line (kinds.Invalid sink) =
      undeclared roles known line sink ++ invalid_faults line sink (sort_of_reference roles known sink)
  faults_of_kind known line kinds.Skip = []
  faults_of_kind known line (kinds.Stop clock condition code label) =
      clock_faults_in known line words.Stop clock ++ condition_faults_in known line words.Stop condition
  faults_of_kind known line (kinds.Report word arguments label) =
      report_faults known line (words.Report word) arguments

  -- the names and types that a statement declares; a node's type is its expression's
  abbrev pub own_by : List (List ℕ × Option Own) → statements.StmtKind → List (List ℕ × Option Own)
  own_by known (kinds.Wire name ty) = (name, Some (own.Single (sort_of ty))) ∷ []
  own_by known (kinds.Node name value) = (name, option_map own.Single (sort_in known value)) ∷ []
  own_by known (kinds.Register name ty clock reset) = (name, Some (own.Single (sort_of ty))) ∷ []
  own_by known (kinds.Instance name of_module) = (name, Some own.Instance) ∷ []
  own_by known (kinds.Memory name fields) = (name, Some (memory_own fields)) ∷ []
  own_by known (kinds.Connect sink source) = []
  own_by known (kinds.Invalid sink) = []
  own_by known kinds.Skip = []
  own_by known (kinds.Stop clock condition code label) = []
  own_by known (kinds.Report word arguments label) = []

  -- the names and types that are known after some statements
  abbrev pub known_after : List (List ℕ × Option Own) → List Stmt → List (List ℕ × Option Own)
  known_after known [] = known
  known_after known (s ∷ ss) = known_after (known ++ own_by known s.kind) ss

  -- the faults of a statement, after the ports and the statements before it
  abbrev pub faults_of : List (List ℕ × Option Own) → List Stmt → Stmt → List Fault
  faults_of ports before s = faults_of_kind (known_after ports before) s.line s.kind

-- ---- ports

-- a port of type Clock is an input (F14); a width is 1 to 128 (F10)
abbrev pub port_faults : Port → List Fault
port_faults port =
    if is_clock port.ty
    then fault_if (not (is_input port.direction)) (WrongClock port.line port.name)
    else width_faults port.line port.ty

-- ---- all of them

-- the faults of a module: first of its ports, then of its statements
abbrev pub module_type_faults : List (Reference × Role) → (List ℕ → Bool) → ModuleTree → List Fault
module_type_faults roles traced m = flat_map port_faults m.ports ++ along (faults_of roles traced (map port_own m.ports)) m.statements

-- the faults of one of these modules
abbrev pub faults_of_module : List ModuleTree → ModuleTree → List Fault
faults_of_module modules m = module_type_faults (scope_of modules m) (leads_to_input m) m

-- The faults of F9 to F14 in the order of the text, module by module, whether the top reaches them or not. Also F3 for
-- a name that is not declared; a circuit without faults of shape has none.
abbrev pub type_faults : CircuitTree → List Fault
type_faults circuit = flat_map (faults_of_module circuit.modules) circuit.modules

-- ---- types of a whole module

-- the type data of all declared names of a module, in the order of the file
abbrev pub known_in : List ModuleTree → ModuleTree → List (List ℕ × Option Own)
known_in modules m = known_after (scope_of modules m) (leads_to_input m) (map port_own m.ports) m.statements

-- the type of what a reference names in a module; for a Clock, whether it leads to an input port or not
abbrev pub sort_named : List ModuleTree → ModuleTree → Reference → Option Sort
sort_named modules m r = sort_of_reference (scope_of modules m) (known_in modules m) r
