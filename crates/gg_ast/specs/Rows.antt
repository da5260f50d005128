-- The rows of a circuit: what the lines of its text say, in order, each with its line.
-- Source: FIRRTL Specification, "Grammar".
use Rattle.std.specs.Prelude.{ℕ, List, [], ◌∷◌, ◌++◌, Option, None, Some, ◌==◌, if◌then◌else◌, map}
use Rattle.gg_ast.specs.declared.module.GroundType.{GroundType}
use Rattle.gg_ast.specs.declared.module.Port.{Port}
use Rattle.gg_ast.specs.declared.statement.Field.{Field}
use Rattle.gg_ast.specs.declared.statement.Reset.{Reset}
use Rattle.gg_ast.specs.declared.statement.Stmt.{Stmt}
use Rattle.gg_ast.specs.declared.statement.StmtKind.{StmtKind}
use Rattle.gg_ast.specs.declared.statement.StmtKind.TheVariants.{Wire, Node, Register, Instance, Memory, Connect, Invalid, Skip, Stop, Report}
use Rattle.gg_ast.specs.Row.{Numbered, numbered, CircuitRow, ModuleRow, PortRow, WireRow, NodeRow, RegisterRow, RegisterResetRow, RegisterOpenRow, ResetRow, InstanceRow, MemoryRow, FieldRow, ConnectRow, InvalidRow, SkipRow, StopRow, ReportRow}
use Rattle.gg_ast.specs.Term.{Term}
use Rattle.gg_ast.specs.Tree.{ModuleTree, CircuitTree}

-- the row of a port
abbrev pub port_row : Port → Numbered
port_row port = numbered port.line (PortRow port.direction port.name port.ty)

-- the row of a field of a memory
abbrev pub field_row : Field → Numbered
field_row field = numbered field.line (FieldRow field.kind)

-- a register has one row, or two if its reset has a line of its own
abbrev pub register_rows : ℕ → List ℕ → GroundType → Term → Option Reset → List Numbered
register_rows line name ty clock None = numbered line (RegisterRow name ty clock) ∷ []
register_rows line name ty clock (Some reset) =
    if reset.line == line
    then numbered line (RegisterResetRow name ty clock reset.condition reset.init) ∷ []
    else numbered line (RegisterOpenRow name ty clock) ∷ (numbered reset.line (ResetRow reset.condition reset.init) ∷ [])

-- a memory has its own row and then one for each of its fields; any other statement has one row
abbrev pub kind_rows : ℕ → StmtKind → List Numbered
kind_rows line (Wire name ty) = numbered line (WireRow name ty) ∷ []
kind_rows line (Node name value) = numbered line (NodeRow name value) ∷ []
kind_rows line (Register name ty clock reset) = register_rows line name ty clock reset
kind_rows line (Instance name m) = numbered line (InstanceRow name m) ∷ []
kind_rows line (Memory name fields) = numbered line (MemoryRow name) ∷ map field_row fields
kind_rows line (Connect sink source) = numbered line (ConnectRow sink source) ∷ []
kind_rows line (Invalid sink) = numbered line (InvalidRow sink) ∷ []
kind_rows line Skip = numbered line SkipRow ∷ []
kind_rows line (Stop clock condition code label) = numbered line (StopRow clock condition code label) ∷ []
kind_rows line (Report word arguments label) = numbered line (ReportRow word arguments label) ∷ []

-- the rows of a statement, the first of them on the statement's line
abbrev pub statement_rows : Stmt → List Numbered
statement_rows s = kind_rows s.line s.kind

-- the rows of the statements, one after another
abbrev pub rows_of_statements : List Stmt → List Numbered
rows_of_statements [] = []
rows_of_statements (s ∷ ss) = statement_rows s ++ rows_of_statements ss

-- the rows of a module: its header, its ports, its statements
abbrev pub module_rows : ModuleTree → List Numbered
module_rows m = numbered m.line (ModuleRow m.name) ∷ (map port_row m.ports ++ rows_of_statements m.statements)

-- the rows of the modules, one after another
abbrev pub rows_of_modules : List ModuleTree → List Numbered
rows_of_modules [] = []
rows_of_modules (m ∷ ms) = module_rows m ++ rows_of_modules ms

-- the rows of a circuit: its header, then for each module its header, its ports and its statements
abbrev pub rows_of : CircuitTree → List Numbered
rows_of circuit = numbered circuit.line (CircuitRow circuit.name) ∷ rows_of_modules circuit.modules
