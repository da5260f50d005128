-- The meaning of the reader's stages: the position of the next line, and the rows of the lines before it.
use Rattle.std.specs.Prelude.{◌≡◌, ℕ, ◌+◌, ◌<◌, List, [], ◌∷◌, ◌++◌, length, Option, None, Some, Result, Ok, Err, Bool, true, false, MatchOption}
use Rattle.gg_lex.specs.declared.token.LexedLine.{LexedLine}
use Rattle.gg_lex.specs.declared.token.Tok.{Tok}
use Rattle.gg_lex.specs.Lines.{Lexes}
use Rattle.gg_ast.specs.declared.statement.Reset.{Reset}
use Rattle.gg_ast.specs.Names.{IsName}
use Rattle.gg_ast.specs.inside.Names.{AreNamesOfTerm}
use Rattle.gg_ast.specs.Row.{Row, Numbered, numbered, RegisterOpenRow, ResetRow}
use Rattle.gg_ast.specs.Rows.{rows_of}
use Rattle.gg_ast.specs.Tree.{CircuitTree}
use Rattle.gg_ast.specs.inside.Tree.{IsOpenToPorts, IsOpenToFields}
use Rattle.gg_read_row.specs.declared.cursor.RowFault.{RowFault}
use Rattle.gg_read_row.specs.declared.cursor.RowFault.TheVariants.{NoForm, NoMemory}
use Rattle.gg_read_row.specs.declared.row.LineRow.{LineRow}
use Rattle.gg_read.specs.declared.stage.OpenRegister.{OpenRegister}
use Rattle.gg_read.specs.declared.stage.Stage.{Stage}
use Rattle.gg_read.specs.declared.stage.Stage.TheVariants.{Start, Version, Header, Ports, Statements, Fields, Open}
use Rattle.gg_read.specs.declared.text.ReadFault.{ReadFault}
use Rattle.gg_read.specs.declared.text.ReadFault.TheVariants as because
use Rattle.gg_read.specs.Causes.{IsFaultOf}
use Rattle.gg_read_row.specs.Forms.{SpellsRow}
use Rattle.gg_read_row.specs.inside.LineRows.{row_of}
use Rattle.gg_read.specs.Text.{IsBlank, IsForm, IsAtFault, IsTooDeep, AreShallow, LinePlace, AtStart, AfterVersion, AfterCircuit, InPorts, InStatements, InFields, AwaitsReset, LineTokens, AreLineTokens, AreRows, IsEndPlace, without_version, after_version, after_circuit, after_module, after_port, after_statement, after_open, after_memory, after_field, after_reset}

-- the tokens and the bad place of a line
abbrev pub line_of : LexedLine → LineTokens
line_of lexed = record { tokens = lexed.tokens.items; bad = lexed.bad }

-- the position of the next line
abbrev pub stage_place : Stage → LinePlace
stage_place Start = AtStart
stage_place Version = AfterVersion
stage_place (Header circuit) = AfterCircuit
stage_place (Ports circuit) = InPorts
stage_place (Statements circuit) = InStatements
stage_place (Fields circuit) = InFields
stage_place (Open circuit register) = AwaitsReset

-- the row of a register that awaits its reset
abbrev pub open_row : OpenRegister → Numbered
open_row register = numbered register.line (RegisterOpenRow register.name register.ty register.clock)

-- the row of a reset on a line of its own
abbrev pub reset_row : Reset → Numbered
reset_row reset = numbered reset.line (ResetRow reset.condition reset.init)

-- the rows of the lines so far, without the version's, are the rows of the stage's circuit
abbrev pub IsBuilt : Stage → List Numbered → Type 0
IsBuilt Start rows = rows ≡ []
IsBuilt Version rows = without_version rows ≡ []
IsBuilt (Header circuit) rows = without_version rows ≡ rows_of circuit
IsBuilt (Ports circuit) rows = without_version rows ≡ rows_of circuit
IsBuilt (Statements circuit) rows = without_version rows ≡ rows_of circuit
IsBuilt (Fields circuit) rows = without_version rows ≡ rows_of circuit
IsBuilt (Open circuit register) rows = without_version rows ≡ rows_of circuit ++ open_row register ∷ []

-- the names of a register that awaits its reset are names
abbrev pub AreNamesOfRegister : OpenRegister → Type 0
AreNamesOfRegister register = IsName register.name × AreNamesOfTerm register.clock

-- What holds of a stage before the line of this number. If a module has begun, the circuit has one. If a field may
-- follow, the last statement is a memory. A register that awaits its reset is on an earlier line.
abbrev pub IsStage : Stage → ℕ → Type 0
IsStage Start n = Unit {0}
IsStage Version n = Unit {0}
IsStage (Header circuit) n = Unit {0}
IsStage (Ports circuit) n = (0 < length circuit.modules) × IsOpenToPorts circuit.modules
IsStage (Statements circuit) n = 0 < length circuit.modules
IsStage (Fields circuit) n = (0 < length circuit.modules) × IsOpenToFields circuit.modules
IsStage (Open circuit register) n = (0 < length circuit.modules) × (register.line < n) × AreNamesOfRegister register

-- the stage after these rows; the last of them is on line n
pub record IsAfter (stage : Stage) (to : Option LinePlace) (n : ℕ) (rows : List Numbered) (next : Stage) : Type 0 where
  pub there : to ≡ Some (stage_place next)
  pub stays : IsStage next (n + 1)
  pub built : (before : List Numbered) → IsBuilt stage before → IsBuilt next (before ++ rows)

-- a step over rows, or none if they are not valid at the stage's position
abbrev pub Advances : Stage → Option LinePlace → ℕ → List Numbered → Result Stage RowFault → Type 0
Advances stage to n rows (Ok next) = IsAfter stage to n rows next
Advances stage to n rows (Err NoForm) = to ≡ None
Advances stage to n rows (Err NoMemory) = Unit {0}

-- a test returns whether nothing was read yet
abbrev pub TellsStart : Stage → Bool → Type 0
TellsStart stage true = (after_version (stage_place stage) ≡ Some AfterVersion) × ((before : List Numbered) → IsBuilt stage before → before ≡ [])
TellsStart stage false = after_version (stage_place stage) ≡ None

-- a test returns whether nothing but the version's line was read yet
abbrev pub TellsBare : Stage → Bool → Type 0
TellsBare stage true = (after_circuit (stage_place stage) ≡ Some AfterCircuit) × ((before : List Numbered) → IsBuilt stage before → without_version before ≡ [])
TellsBare stage false = after_circuit (stage_place stage) ≡ None

-- the rows so far, without the version's, are this circuit's
abbrev pub Holds : Stage → CircuitTree → Type 0
Holds stage circuit = (before : List Numbered) → IsBuilt stage before → without_version before ≡ rows_of circuit

-- the circuit of a stage after which a module may begin
abbrev pub IsWhole : Stage → Result CircuitTree RowFault → Type 0
IsWhole stage (Ok circuit) = (after_module (stage_place stage) ≡ Some InPorts) × Holds stage circuit
IsWhole stage (Err NoForm) = after_module (stage_place stage) ≡ None
IsWhole stage (Err NoMemory) = ⊥

-- the circuit of a stage after which a statement may follow
abbrev pub IsBody : Stage → Result CircuitTree RowFault → Type 0
IsBody stage (Ok circuit) =
    (after_statement (stage_place stage) ≡ Some InStatements) × (after_open (stage_place stage) ≡ Some AwaitsReset) × (after_memory (stage_place stage) ≡ Some InFields) × (0 < length circuit.modules)
    × Holds stage circuit
IsBody stage (Err NoForm) = (after_statement (stage_place stage) ≡ None) × (after_open (stage_place stage) ≡ None) × (after_memory (stage_place stage) ≡ None)
IsBody stage (Err NoMemory) = ⊥

-- the circuit of a stage after which a port may follow
abbrev pub IsPortsOf : Stage → Result CircuitTree RowFault → Type 0
IsPortsOf stage (Ok circuit) = stage ≡ Ports circuit
IsPortsOf stage (Err NoForm) = after_port (stage_place stage) ≡ None
IsPortsOf stage (Err NoMemory) = ⊥

-- the circuit of a stage after which a field may follow
abbrev pub IsMemoryOf : Stage → Result CircuitTree RowFault → Type 0
IsMemoryOf stage (Ok circuit) = stage ≡ Fields circuit
IsMemoryOf stage (Err NoForm) = after_field (stage_place stage) ≡ None
IsMemoryOf stage (Err NoMemory) = ⊥

-- the circuit of a stage that awaits a reset, and its register
abbrev pub IsOpened : Stage → Result (CircuitTree × OpenRegister) RowFault → Type 0
IsOpened stage (Ok parts) = stage ≡ Open parts.0 parts.1
IsOpened stage (Err NoForm) = after_reset (stage_place stage) ≡ None
IsOpened stage (Err NoMemory) = ⊥

-- the circuit, if the text may end; otherwise the line after the last is at fault
abbrev pub Ends : Stage → ℕ → Result CircuitTree ReadFault → Type 0
Ends stage n (Ok circuit) = IsEndPlace (stage_place stage) × Holds stage circuit
Ends stage n (Err (because.Syntax m)) = (m ≡ n) × (IsEndPlace (stage_place stage) → ⊥)
Ends stage n (Err because.NotText) = ⊥
Ends stage n (Err (because.Outside m word)) = ⊥
Ends stage n (Err (because.TooDeep m)) = ⊥
Ends stage n (Err because.NoMemory) = ⊥

-- the lines were read up to this stage
pub record HasRead (ls : List (List ℕ)) (stage : Stage) : Type 0 where
  pub held : List LineTokens
  pub tokens : AreLineTokens ls held
  pub rows : List Numbered
  pub read : AreRows AtStart 1 held rows (stage_place stage)
  pub shallow : AreShallow held
  pub built : IsBuilt stage rows

-- a line is this row, whatever its position, and is not too deep
pub record IsWholeRow (line : LineTokens) (row : Row) : Type 0 where
  pub whole : line.bad ≡ None
  pub shallow : IsTooDeep line.tokens → ⊥
  pub spelt : SpellsRow row line.tokens

-- the row of a line, or that it is none or too deep
abbrev pub IsRowOf : LineTokens → Result LineRow RowFault → Type 0
IsRowOf line (Ok held) = MatchOption (row_of held) ⊥ (IsWholeRow line)
IsRowOf line (Err NoForm) = (row : Row) → IsWholeRow line row → ⊥
IsRowOf line (Err NoMemory) = Unit {0}

-- the stage after a line that is a row, is valid at its position and is not too deep
pub record IsRowStep (stage : Stage) (n : ℕ) (line : LineTokens) (next : Stage) : Type 0 where
  pub row : Row
  pub form : IsForm (stage_place stage) line row (stage_place next)
  pub shallow : IsTooDeep line.tokens → ⊥
  pub stays : IsStage next (n + 1)
  pub built : (before : List Numbered) → IsBuilt stage before → IsBuilt next (before ++ numbered n row ∷ [])

-- `IsRowStep`, or that the line is no such row
abbrev pub IsPlaced : Stage → ℕ → LineTokens → Result Stage RowFault → Type 0
IsPlaced stage n line (Ok next) = IsRowStep stage n line next
IsPlaced stage n line (Err NoForm) = (row : Row) (next : LinePlace) → IsForm (stage_place stage) line row next → (IsTooDeep line.tokens → ⊥) → ⊥
IsPlaced stage n line (Err NoMemory) = Unit {0}

-- the answer for a line that is at fault, or for an allocation that failed
abbrev pub IsMissed : RowFault → ℕ → List Tok → ReadFault → Type 0
IsMissed NoForm n ts answer = IsFaultOf n ts answer
IsMissed NoMemory n ts answer = answer ≡ because.NoMemory

-- a test returns whether a line is blank
abbrev pub TellsBlank : LineTokens → Bool → Type 0
TellsBlank line true = IsBlank line
TellsBlank line false = IsBlank line → ⊥

-- a line at fault, and its fault
pub record IsFaulty (stage : Stage) (n : ℕ) (l : List ℕ) (answer : ReadFault) : Type 0 where
  pub line : LineTokens
  pub lexed : Lexes l line.tokens line.bad
  pub fault : IsAtFault (stage_place stage) line
  pub cause : IsFaultOf n line.tokens answer

-- one more line: the lines were read up to the next stage, or the line is at fault
abbrev pub IsStep : Stage → ℕ → List ℕ → Result Stage ReadFault → Type 0
IsStep stage n l (Ok next) = IsStage next (n + 1) × ((ls : List (List ℕ)) → n ≡ length ls + 1 → HasRead ls stage → HasRead (ls ++ l ∷ []) next)
IsStep stage n l (Err because.NotText) = ⊥
IsStep stage n l (Err (because.Syntax m)) = IsFaulty stage n l (because.Syntax m)
IsStep stage n l (Err (because.Outside m word)) = IsFaulty stage n l (because.Outside m word)
IsStep stage n l (Err (because.TooDeep m)) = IsFaulty stage n l (because.TooDeep m)
IsStep stage n l (Err because.NoMemory) = Unit {0}
