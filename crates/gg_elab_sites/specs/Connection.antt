-- What a sink is connected to, in the module where that is written.
-- Source: FIRRTL Specification, "Connects", "Invalidates".
use Rattle.std.specs.Prelude.{ℕ, List, [], ◌∷◌, Option, Some, None, if◌then◌else◌}
use Rattle.std.specs.Str.{bytes_eq}
use Rattle.gg_ast.specs.declared.statement.StmtKind.{StmtKind}
use Rattle.gg_ast.specs.declared.statement.StmtKind.TheVariants as says
use Rattle.gg_ast.specs.declared.statement.Stmt.{Stmt}
use Rattle.gg_ast.specs.Term.{Term}
use Rattle.gg_shape_names.specs.Scope.{written}
use Rattle.gg_bits.specs.Lists.{or_else}

-- an expression (`<=`), or 0 (`is invalid`)
pub data Connection : Type 0 where
  ConnectedTo : Term → Connection
  Zeroed : Connection

-- what a statement connects the sink with this written name to
abbrev pub connection_by : List ℕ → StmtKind → Option Connection
connection_by name (says.Wire n ty) = None
connection_by name (says.Node n value) = None
connection_by name (says.Register n ty clock reset) = None
connection_by name (says.Instance n m) = None
connection_by name (says.Memory n fields) = None
connection_by name (says.Connect sink source) = if bytes_eq name (written sink) then Some (ConnectedTo source) else None
connection_by name (says.Invalid sink) = if bytes_eq name (written sink) then Some Zeroed else None
connection_by name says.Skip = None
connection_by name (says.Stop clock condition code label) = None
connection_by name (says.Report word arguments label) = None

-- what the first statement that connects this sink connects it to
abbrev pub connection_in : List Stmt → List ℕ → Option Connection
connection_in [] name = None
connection_in (s ∷ ss) name = or_else (connection_by name s.kind) (connection_in ss name)
