-- More on Names: what no promise of the program reaches.
use Rattle.std.specs.Prelude.{IfSome}
use Rattle.std.specs.List.{All}
use Rattle.gg_ast.specs.declared.expression.Reference.{Reference}
use Rattle.gg_ast.specs.declared.expression.Reference.TheVariants.{Local, PortOf, FieldOf}
use Rattle.gg_ast.specs.declared.module.Port.{Port}
use Rattle.gg_ast.specs.declared.statement.Argument.{Argument}
use Rattle.gg_ast.specs.declared.statement.Argument.TheVariants.{Value, Text}
use Rattle.gg_ast.specs.declared.statement.Field.{Field}
use Rattle.gg_ast.specs.declared.statement.MemoryField.{MemoryField}
use Rattle.gg_ast.specs.declared.statement.MemoryField.TheVariants as field
use Rattle.gg_ast.specs.declared.statement.Reset.{Reset}
use Rattle.gg_ast.specs.declared.statement.Stmt.{Stmt}
use Rattle.gg_ast.specs.declared.statement.StmtKind.{StmtKind}
use Rattle.gg_ast.specs.declared.statement.StmtKind.TheVariants.{Wire, Node, Register, Instance, Memory, Connect, Invalid, Skip, Stop, Report}
use Rattle.gg_ast.specs.Term.{Term, NamedTerm, ConstantTerm, UnaryTerm, BinaryTerm, FixedTerm, MuxTerm}
use Rattle.gg_ast.specs.Tree.{ModuleTree, CircuitTree}
use Rattle.gg_ast.specs.Names.{IsName}

-- The following definitions state that the names in each part of a circuit are names.

-- each part of a reference, as it is between its dots
abbrev pub AreNamesOfReference : Reference → Type 0
AreNamesOfReference (Local a) = IsName a
AreNamesOfReference (PortOf a b) = IsName a × IsName b
AreNamesOfReference (FieldOf a b c) = IsName a × IsName b × IsName c

-- the references in an expression, on all levels
abbrev pub AreNamesOfTerm : Term → Type 0
AreNamesOfTerm (NamedTerm r) = AreNamesOfReference r
AreNamesOfTerm (ConstantTerm l) = Unit {0}
AreNamesOfTerm (UnaryTerm o a) = AreNamesOfTerm a
AreNamesOfTerm (BinaryTerm o a b) = AreNamesOfTerm a × AreNamesOfTerm b
AreNamesOfTerm (FixedTerm o a n m) = AreNamesOfTerm a
AreNamesOfTerm (MuxTerm c a b) = AreNamesOfTerm c × AreNamesOfTerm a × AreNamesOfTerm b

-- the references in a reset's condition and in its value
abbrev pub AreNamesOfReset : Reset → Type 0
AreNamesOfReset reset = AreNamesOfTerm reset.condition × AreNamesOfTerm reset.init

-- the readers and the writers of a memory
abbrev pub AreNamesOfMemoryField : MemoryField → Type 0
AreNamesOfMemoryField (field.Readers names) = All IsName names
AreNamesOfMemoryField (field.Writers names) = All IsName names
AreNamesOfMemoryField (field.DataType ty) = Unit {0}
AreNamesOfMemoryField (field.Depth n) = Unit {0}
AreNamesOfMemoryField (field.ReadLatency n) = Unit {0}
AreNamesOfMemoryField (field.WriteLatency n) = Unit {0}
AreNamesOfMemoryField (field.ReadUnderWrite word) = Unit {0}

-- the names of a field of a memory, with its line
abbrev pub AreNamesOfField : Field → Type 0
AreNamesOfField f = AreNamesOfMemoryField f.kind

-- a text may have any bytes
abbrev pub AreNamesOfArgument : Argument → Type 0
AreNamesOfArgument (Value e) = AreNamesOfTerm e
AreNamesOfArgument (Text t) = Unit {0}

-- the names of a statement: its own, the names in its expressions, the module of an instance, the readers and writers of a memory, and the
-- label of a stop or a report
abbrev pub AreNamesOfKind : StmtKind → Type 0
AreNamesOfKind (Wire name ty) = IsName name
AreNamesOfKind (Node name value) = IsName name × AreNamesOfTerm value
AreNamesOfKind (Register name ty clock reset) = IsName name × AreNamesOfTerm clock × IfSome reset AreNamesOfReset
AreNamesOfKind (Instance name m) = IsName name × IsName m
AreNamesOfKind (Memory name fields) = IsName name × All AreNamesOfField fields
AreNamesOfKind (Connect sink source) = AreNamesOfReference sink × AreNamesOfTerm source
AreNamesOfKind (Invalid sink) = AreNamesOfReference sink
AreNamesOfKind Skip = Unit {0}
AreNamesOfKind (Stop clock condition code label) = AreNamesOfTerm clock × AreNamesOfTerm condition × IfSome label IsName
AreNamesOfKind (Report word arguments label) = All AreNamesOfArgument arguments × IfSome label IsName

-- the names of a statement with its line
abbrev pub AreNamesOfStatement : Stmt → Type 0
AreNamesOfStatement s = AreNamesOfKind s.kind

-- the name of a port
abbrev pub IsPortNamed : Port → Type 0
IsPortNamed port = IsName port.name

-- a module's own name, the names of its ports, and all names of its statements
pub record AreNamesOfModule (m : ModuleTree) : Type 0 where
  pub own : IsName m.name
  pub of_ports : All IsPortNamed m.ports
  pub of_statements : All AreNamesOfStatement m.statements

-- a circuit's own name and all names of its modules
pub record AreNamesOfCircuit (circuit : CircuitTree) : Type 0 where
  pub own : IsName circuit.name
  pub of_modules : All AreNamesOfModule circuit.modules
