-- The row of a line that was read.
-- Source: FIRRTL Specification, "Grammar".
use Rattle.std.specs.Prelude.{◌≡◌, List, Option, None, Some, Result, Ok, Err, MatchOption}
use Rattle.gg_lex.specs.declared.token.Tok.{Tok}
use Rattle.gg_ast.specs.declared.statement.StmtKind.{StmtKind}
use Rattle.gg_ast.specs.declared.statement.StmtKind.TheVariants as statement
use Rattle.gg_ast.specs.Names.{IsName}
use Rattle.gg_ast.specs.inside.Names.{AreNamesOfTerm, AreNamesOfMemoryField, AreNamesOfKind}
use Rattle.gg_ast.specs.Row.{Row, VersionRow, CircuitRow, ModuleRow, PortRow, WireRow, NodeRow, RegisterRow, RegisterResetRow, RegisterOpenRow, ResetRow, InstanceRow, MemoryRow, FieldRow, ConnectRow, InvalidRow, SkipRow, StopRow, ReportRow}
use Rattle.gg_read_row.specs.declared.row.LineRow.{LineRow}
use Rattle.gg_read_row.specs.declared.row.LineRow.TheVariants as line
use Rattle.gg_read_row.specs.declared.cursor.RowFault.{RowFault}
use Rattle.gg_read_row.specs.declared.cursor.RowFault.TheVariants.{NoForm, NoMemory}
use Rattle.gg_read_row.specs.Forms.{SpellsRow}
use Rattle.gg_read_row.specs.inside.Reading.{Misses}

-- The row of a statement that is on one line. A register with a reset has none: its text is one line or two, and
-- `LineRow` has separate variants for these. A memory has none: its lines are rows of separate variants too.
abbrev pub statement_row : StmtKind → Option Row
statement_row (statement.Wire name ty) = Some (WireRow name ty)
statement_row (statement.Node name value) = Some (NodeRow name value)
statement_row (statement.Register name ty clock None) = Some (RegisterRow name ty clock)
statement_row (statement.Register name ty clock (Some reset)) = None
statement_row (statement.Instance name m) = Some (InstanceRow name m)
statement_row (statement.Memory name fields) = None
statement_row (statement.Connect sink source) = Some (ConnectRow sink source)
statement_row (statement.Invalid sink) = Some (InvalidRow sink)
statement_row statement.Skip = Some SkipRow
statement_row (statement.Stop clock condition code label) = Some (StopRow clock condition code label)
statement_row (statement.Report word arguments label) = Some (ReportRow word arguments label)

-- the row of a line; only a line with such a statement has none
abbrev pub row_of : LineRow → Option Row
row_of (line.Version a b c) = Some (VersionRow a b c)
row_of (line.Circuit name) = Some (CircuitRow name)
row_of (line.Module name) = Some (ModuleRow name)
row_of (line.Port direction name ty) = Some (PortRow direction name ty)
row_of (line.Statement kind) = statement_row kind
row_of (line.RegisterReset name ty clock condition init) = Some (RegisterResetRow name ty clock condition init)
row_of (line.RegisterOpen name ty clock) = Some (RegisterOpenRow name ty clock)
row_of (line.Reset condition init) = Some (ResetRow condition init)
row_of (line.Memory name) = Some (MemoryRow name)
row_of (line.Field f) = Some (FieldRow f)

-- the names in a line are words that a name may be
abbrev pub AreNamesOfLine : LineRow → Type 0
AreNamesOfLine (line.Version a b c) = Unit {0}
AreNamesOfLine (line.Circuit name) = IsName name
AreNamesOfLine (line.Module name) = IsName name
AreNamesOfLine (line.Port direction name ty) = IsName name
AreNamesOfLine (line.Statement kind) = AreNamesOfKind kind
AreNamesOfLine (line.RegisterReset name ty clock condition init) = IsName name × AreNamesOfTerm clock × AreNamesOfTerm condition × AreNamesOfTerm init
AreNamesOfLine (line.RegisterOpen name ty clock) = IsName name × AreNamesOfTerm clock
AreNamesOfLine (line.Reset condition init) = AreNamesOfTerm condition × AreNamesOfTerm init
AreNamesOfLine (line.Memory name) = IsName name
AreNamesOfLine (line.Field f) = AreNamesOfMemoryField f

-- a reader of a line found this: what it returns has a row, and that is the row
abbrev pub FindsRow : Result LineRow RowFault → Option Row → Type 0
FindsRow (Ok held) found = MatchOption (row_of held) ⊥ (λ row. found ≡ Some row)
FindsRow (Err fault) found = Misses fault found

-- the answer for the tokens of a line: what has the row that they spell, or that they spell none; `NoMemory` says
-- nothing of them
abbrev pub TellsRow : List Tok → Result LineRow RowFault → Type 0
TellsRow ts (Ok held) = MatchOption (row_of held) ⊥ (λ row. SpellsRow row ts)
TellsRow ts (Err NoForm) = (row : Row) → SpellsRow row ts → ⊥
TellsRow ts (Err NoMemory) = Unit {0}
