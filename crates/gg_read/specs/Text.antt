-- Which circuit a text spells, and which line is at fault: cases on whole lines (FIRRTL Specification, "Grammar"). A
-- circuit is read from a text that spells it and has no line at fault.
use Rattle.std.specs.Prelude.{◌≡◌, ℕ, ◌+◌, ◌<◌, ◌⊎◌, List, [], ◌∷◌, length, take, slice_get, Option, None, Some, Bool, true, false, codes, if◌then◌else◌}
use Rattle.std.specs.Option.{option_or}
use Rattle.std.specs.List.{list_any}
use Rattle.std.specs.Str.{bytes_eq, IsUtf8}
use Rattle.std.specs.Str.Lines.{lines}
use Rattle.gg_lex.specs.Lines.{Lexes}
use Rattle.gg_lex.specs.declared.token.Tok.{Tok}
use Rattle.gg_lex.specs.declared.token.Tok.TheVariants.{Word, Number, Text, Symbol}
use Rattle.gg_lex.specs.declared.token.Symbol.TheVariants as mark
use Rattle.gg_ast.specs.Row.{Row, Numbered, numbered, VersionRow, CircuitRow, ModuleRow, PortRow, WireRow, NodeRow, RegisterRow, RegisterResetRow, RegisterOpenRow, ResetRow, InstanceRow, MemoryRow, FieldRow, ConnectRow, InvalidRow, SkipRow, StopRow, ReportRow}
use Rattle.gg_ast.specs.Rows.{rows_of}
use Rattle.gg_ast.specs.Tree.{CircuitTree}
use Rattle.gg_read.specs.declared.text.ReadFault.{ReadFault}
use Rattle.gg_read.specs.declared.text.ReadFault.TheVariants.{NotText, Syntax, Outside, TooDeep, NoMemory}
use Rattle.gg_read_row.specs.Forms.{SpellsRow}

-- the tokens of a line, up to the first byte that begins none, and that byte's place if there is one
pub record LineTokens : Type 0 where
  pub tokens : List Tok
  pub bad : Option ℕ

-- these are the tokens of the lines, line by line
abbrev pub AreLineTokens : List (List ℕ) → List LineTokens → Type 0
AreLineTokens [] [] = Unit {0}
AreLineTokens [] (t ∷ ts) = ⊥
AreLineTokens (l ∷ ls) [] = ⊥
AreLineTokens (l ∷ ls) (t ∷ ts) = Lexes l t.tokens t.bad × AreLineTokens ls ts

-- the position of a line: what came before it
pub data LinePlace : Type 0 where
  -- the beginning of the text
  AtStart : LinePlace
  -- after the version line
  AfterVersion : LinePlace
  -- after the circuit's line
  AfterCircuit : LinePlace
  -- after a module's line or a port
  InPorts : LinePlace
  -- after a statement that is not a memory
  InStatements : LinePlace
  -- after a memory's line or one of its fields
  InFields : LinePlace
  -- after the first line of a register with its reset on the next
  AwaitsReset : LinePlace

-- the position after a statement's line
abbrev pub after_statement : LinePlace → Option LinePlace
after_statement InPorts = Some InStatements
after_statement InStatements = Some InStatements
after_statement AtStart = None
after_statement AfterVersion = None
after_statement AfterCircuit = None
after_statement AwaitsReset = None
after_statement InFields = Some InStatements

-- the position after the first line of a register of two lines
abbrev pub after_open : LinePlace → Option LinePlace
after_open InPorts = Some AwaitsReset
after_open InStatements = Some AwaitsReset
after_open AtStart = None
after_open AfterVersion = None
after_open AfterCircuit = None
after_open AwaitsReset = None
after_open InFields = Some AwaitsReset

-- a module's line may follow the circuit's line, a module's, a port, a statement or a memory's field
abbrev pub after_module : LinePlace → Option LinePlace
after_module AfterCircuit = Some InPorts
after_module InPorts = Some InPorts
after_module InStatements = Some InPorts
after_module AtStart = None
after_module AfterVersion = None
after_module AwaitsReset = None
after_module InFields = Some InPorts

-- a version line may only be at the beginning
abbrev pub after_version : LinePlace → Option LinePlace
after_version AtStart = Some AfterVersion
after_version AfterVersion = None
after_version AfterCircuit = None
after_version InPorts = None
after_version InStatements = None
after_version AwaitsReset = None
after_version InFields = None

-- the circuit's line may be at the beginning, or follow the version line
abbrev pub after_circuit : LinePlace → Option LinePlace
after_circuit AtStart = Some AfterCircuit
after_circuit AfterVersion = Some AfterCircuit
after_circuit AfterCircuit = None
after_circuit InPorts = None
after_circuit InStatements = None
after_circuit AwaitsReset = None
after_circuit InFields = None

-- a port may follow a module's line or another port
abbrev pub after_port : LinePlace → Option LinePlace
after_port InPorts = Some InPorts
after_port AtStart = None
after_port AfterVersion = None
after_port AfterCircuit = None
after_port InStatements = None
after_port AwaitsReset = None
after_port InFields = None

-- the second line of a register may only follow its first; the position after it is as after a statement
abbrev pub after_reset : LinePlace → Option LinePlace
after_reset AwaitsReset = Some InStatements
after_reset AtStart = None
after_reset AfterVersion = None
after_reset AfterCircuit = None
after_reset InPorts = None
after_reset InStatements = None
after_reset InFields = None

-- a memory's line is valid where a statement is, and its fields after it or after another field
abbrev pub after_memory : LinePlace → Option LinePlace
after_memory InPorts = Some InFields
after_memory InStatements = Some InFields
after_memory InFields = Some InFields
after_memory AtStart = None
after_memory AfterVersion = None
after_memory AfterCircuit = None
after_memory AwaitsReset = None

-- a field may only follow a memory's line or another field
abbrev pub after_field : LinePlace → Option LinePlace
after_field InFields = Some InFields
after_field AtStart = None
after_field AfterVersion = None
after_field AfterCircuit = None
after_field InPorts = None
after_field InStatements = None
after_field AwaitsReset = None

-- the position after a row, if the row is valid at its own position
abbrev pub place_after : LinePlace → Row → Option LinePlace
place_after place (VersionRow a b c) = after_version place
place_after place (CircuitRow name) = after_circuit place
place_after place (ModuleRow name) = after_module place
place_after place (PortRow direction name ty) = after_port place
place_after place (WireRow name ty) = after_statement place
place_after place (NodeRow name value) = after_statement place
place_after place (RegisterRow name ty clock) = after_statement place
place_after place (RegisterResetRow name ty clock condition init) = after_statement place
place_after place (RegisterOpenRow name ty clock) = after_open place
place_after place (ResetRow condition init) = after_reset place
place_after place (InstanceRow name m) = after_statement place
place_after place (MemoryRow name) = after_memory place
place_after place (FieldRow field) = after_field place
place_after place (ConnectRow sink source) = after_statement place
place_after place (InvalidRow sink) = after_statement place
place_after place SkipRow = after_statement place
place_after place (StopRow clock condition code label) = after_statement place
place_after place (ReportRow word arguments label) = after_statement place

-- a text may end after the circuit's line and after whole modules
abbrev pub IsEndPlace : LinePlace → Type 0
IsEndPlace AtStart = ⊥
IsEndPlace AfterVersion = ⊥
IsEndPlace AfterCircuit = Unit {0}
IsEndPlace InPorts = Unit {0}
IsEndPlace InStatements = Unit {0}
IsEndPlace InFields = Unit {0}
IsEndPlace AwaitsReset = ⊥

-- how many of the tokens open a bracket
abbrev pub opened : List Tok → ℕ
opened [] = 0
opened (Symbol mark.OpenParen ∷ ts) = 1 + opened ts
opened (t ∷ ts) = opened ts

-- how many of the tokens close a bracket
abbrev pub closed : List Tok → ℕ
closed [] = 0
closed (Symbol mark.CloseParen ∷ ts) = 1 + closed ts
closed (t ∷ ts) = closed ts

-- At some token the count of `(` from the line's beginning up to it, less the count of `)`, is above 256. At earlier tokens the difference
-- may be below 0, so a `)` and then 257 `(` are not too deep, and 258 are.
abbrev pub IsTooDeep : List Tok → Type 0
IsTooDeep ts = (k : ℕ) × (256 + closed (take k ts) < opened (take k ts))

-- a line is blank: it has no token, and no byte that begins none
abbrev pub IsBlank : LineTokens → Type 0
IsBlank line = (line.tokens ≡ []) × (line.bad ≡ None)

-- a line is this row and is valid at its position, however many brackets are open; the next line's position is `next`
pub record IsForm (place : LinePlace) (line : LineTokens) (row : Row) (next : LinePlace) : Type 0 where
  pub whole : line.bad ≡ None
  pub spelt : SpellsRow row line.tokens
  pub there : place_after place row ≡ Some next

-- the lines are these rows, and the first line has this number; the position goes from each to the next
abbrev pub AreRows : LinePlace → ℕ → List LineTokens → List Numbered → LinePlace → Type 0
AreRows place n [] rows last = (rows ≡ []) × (last ≡ place)
AreRows place n (line ∷ more) rows last =
    (IsBlank line × AreRows place (n + 1) more rows last)
    ⊎ ((row : Row) × (next : LinePlace) × (others : List Numbered) × IsForm place line row next × (rows ≡ numbered n row ∷ others) × AreRows next (n + 1) more others last)

-- whether a row is a version line
abbrev pub is_version : Row → Bool
is_version (VersionRow a b c) = true
is_version other = false

-- the rows without the version's, which is the first
abbrev pub without_version : List Numbered → List Numbered
without_version [] = []
without_version (r ∷ rows) = if is_version r.row then rows else r ∷ rows

-- The text spells the circuit by the grammar: it is UTF-8, and its lines are the circuit's rows, with or without a
-- version line above them. If a line is too deep, the text has a fault line too, and no circuit is read.
pub record Spells (text : List ℕ) (circuit : CircuitTree) : Type 0 where
  pub utf8 : IsUtf8 text
  -- the tokens of each line
  pub held : List LineTokens
  pub tokens : AreLineTokens (lines text) held
  -- the position after the last line
  pub last : LinePlace
  -- the rows of the lines that aren't blank
  pub rows : List Numbered
  pub read : AreRows AtStart 1 held rows last
  pub whole : IsEndPlace last
  pub circuit_rows : without_version rows ≡ rows_of circuit

-- a line is not blank, and is not valid at its position
abbrev pub IsNoForm : LinePlace → LineTokens → Type 0
IsNoForm place line = (IsBlank line → ⊥) × ((row : Row) (next : LinePlace) → IsForm place line row next → ⊥)

-- a line is at fault at its position: it is too deep, even if its tokens spell a row, or it is not valid there
abbrev pub IsAtFault : LinePlace → LineTokens → Type 0
IsAtFault place line = IsTooDeep line.tokens ⊎ IsNoForm place line

-- none of the lines is too deep
abbrev pub AreShallow : List LineTokens → Type 0
AreShallow [] = Unit {0}
AreShallow (line ∷ more) = (IsTooDeep line.tokens → ⊥) × AreShallow more

-- the fault line of a text: the first line that is at fault at its position; otherwise, if the text is incomplete, the
-- line after the last, which is blank
pub record IsFaultLine (text : List ℕ) (n : ℕ) (line : LineTokens) : Type 0 where
  -- the tokens of the lines before it
  pub before : List LineTokens
  pub tokens : AreLineTokens (take (length before) (lines text)) before
  -- the rows that these lines are, and the position after them
  pub rows : List Numbered
  pub place : LinePlace
  pub read : AreRows AtStart 1 before rows place
  pub shallow : AreShallow before
  pub number : n ≡ length before + 1
  pub fault : ((l : List ℕ) × (slice_get (lines text) (length before) ≡ Some l) × Lexes l line.tokens line.bad × IsAtFault place line)
      ⊎ ((length (lines text) ≡ length before) × (line ≡ record { tokens = []; bad = None }) × (IsEndPlace place → ⊥))

-- no line of the text is at fault
abbrev pub HasNoFaultLine : List ℕ → Type 0
HasNoFaultLine text = (n : ℕ) (line : LineTokens) → IsFaultLine text n line → ⊥

-- the words and symbols that are left out of the language
abbrev pub is_outside_word : List ℕ → Bool
is_outside_word w = list_any (bytes_eq w)
    (codes "when" ∷ codes "else" ∷ codes "extmodule" ∷ codes "intmodule" ∷ codes "cmem" ∷ codes "smem" ∷ codes "infer" ∷ codes "attach"
    ∷ codes "layer" ∷ codes "layerblock" ∷ codes "group" ∷ codes "define" ∷ codes "parameter" ∷ codes "defname" ∷ codes "Analog" ∷ codes "Fixed"
    ∷ codes "Interval" ∷ codes "AsyncReset" ∷ codes "Reset" ∷ codes "Probe" ∷ codes "flip" ∷ codes "asClock" ∷ codes "asAsyncReset"
    ∷ codes "asFixedPoint" ∷ codes "asInterval" ∷ codes "readwriter" ∷ [])

-- the outside word that a token is, as it is written
abbrev pub outside_text : Tok → Option (List ℕ)
outside_text (Word w) = if is_outside_word w then Some w else None
outside_text (Number digits) = None
outside_text (Text text) = None
outside_text (Symbol mark.PartialConnect) = Some (codes "<-")
outside_text (Symbol mark.OpenBracket) = Some (codes "[")
outside_text (Symbol mark.OpenBrace) = Some (codes "{")
outside_text (Symbol mark.OpenAnnotations) = Some (codes "%[")
outside_text (Symbol other) = None

-- the first of the tokens that is an outside word
abbrev pub first_outside : List Tok → Option (List ℕ)
first_outside [] = None
first_outside (t ∷ ts) = option_or (outside_text t) (first_outside ts)

-- why no circuit is read; `NoMemory` has no cause in the text
abbrev pub HasReadFault : List ℕ → ReadFault → Type 0
HasReadFault bytes NotText = IsUtf8 bytes → ⊥
HasReadFault bytes (TooDeep n) = IsUtf8 bytes × ((line : LineTokens) × IsFaultLine bytes n line × IsTooDeep line.tokens)
HasReadFault bytes (Outside n word) =
    IsUtf8 bytes × ((line : LineTokens) × IsFaultLine bytes n line × (IsTooDeep line.tokens → ⊥) × (first_outside line.tokens ≡ Some word))
HasReadFault bytes (Syntax n) =
    IsUtf8 bytes × ((line : LineTokens) × IsFaultLine bytes n line × (IsTooDeep line.tokens → ⊥) × (first_outside line.tokens ≡ None))
HasReadFault bytes NoMemory = Unit {0}
