-- The meaning of one line of a circuit's text: one constructor for each form of a line (FIRRTL Specification, "Grammar").
use Rattle.std.specs.Prelude.{ℕ, List, Option}
use Rattle.gg_ast.specs.declared.expression.Reference.{Reference}
use Rattle.gg_ast.specs.declared.module.Direction.{Direction}
use Rattle.gg_ast.specs.declared.module.GroundType.{GroundType}
use Rattle.gg_ast.specs.declared.statement.Argument.{Argument}
use Rattle.gg_ast.specs.declared.statement.MemoryField.{MemoryField}
use Rattle.gg_ast.specs.declared.statement.Report.{Report}
use Rattle.gg_ast.specs.Term.{Term}

-- one line, without its number; words in capitals are what varies
pub data Row : Type 0 where
  -- FIRRTL version n . n . n
  VersionRow : ℕ → ℕ → ℕ → Row
  -- circuit NAME :
  CircuitRow : List ℕ → Row
  -- module NAME :
  ModuleRow : List ℕ → Row
  -- input or output NAME : TYPE
  PortRow : Direction → List ℕ → GroundType → Row
  -- wire NAME : TYPE
  WireRow : List ℕ → GroundType → Row
  -- node NAME = EXPR
  NodeRow : List ℕ → Term → Row
  -- reg NAME : TYPE , CLOCK
  RegisterRow : List ℕ → GroundType → Term → Row
  -- reg NAME : TYPE , CLOCK with : ( reset => ( CONDITION , INIT ) )
  RegisterResetRow : List ℕ → GroundType → Term → Term → Term → Row
  -- reg NAME : TYPE , CLOCK with :
  RegisterOpenRow : List ℕ → GroundType → Term → Row
  -- reset => ( CONDITION , INIT ), on the line after it
  ResetRow : Term → Term → Row
  -- inst NAME of MODULE
  InstanceRow : List ℕ → List ℕ → Row
  -- mem NAME :
  MemoryRow : List ℕ → Row
  -- a field of a memory
  FieldRow : MemoryField → Row
  -- SINK <= SOURCE
  ConnectRow : Reference → Term → Row
  -- SINK is invalid
  InvalidRow : Reference → Row
  -- skip
  SkipRow : Row
  -- stop ( CLOCK , CONDITION , CODE ), possibly with : NAME
  StopRow : Term → Term → ℕ → Option (List ℕ) → Row
  -- printf, assert, assume or cover ( ARGUMENTS ), possibly with : NAME
  ReportRow : Report → List Argument → Option (List ℕ) → Row

-- a row with its line, counted from 1
pub record Numbered : Type 0 where
  pub line : ℕ
  pub row : Row

-- a row on the line with this number
abbrev pub numbered : ℕ → Row → Numbered
numbered line row = record { line = line; row = row }
