-- Each name in the circuit that a text spells is a name: by its rows.
use Rattle.std.proofs.Common.{inl, inr, ℕ, ◌+◌, Bool, true, false, List, [], ◌∷◌, ◌++◌, None, Some, map, sym, subst, if◌then◌else◌}
use Rattle.std.specs.Prelude.{All, ◌==◌}
use Rattle.std.proofs.lemmas.List.Elements.{All-nil, All-cons}
use Rattle.gg_lex.specs.declared.token.Tok.{Tok}
use Rattle.gg_ast.specs.declared.module.GroundType.{GroundType}
use Rattle.gg_ast.specs.declared.module.Port.{Port}
use Rattle.gg_ast.specs.declared.statement.Field.{Field}
use Rattle.gg_ast.specs.declared.statement.Reset.{Reset}
use Rattle.gg_ast.specs.declared.statement.Stmt.{Stmt}
use Rattle.gg_ast.specs.declared.statement.StmtKind.{StmtKind}
use Rattle.gg_ast.specs.declared.statement.StmtKind.TheVariants as statement
use Rattle.gg_ast.specs.Names.{IsName}
use Rattle.gg_ast.specs.inside.Names.{IsPortNamed, AreNamesOfTerm, AreNamesOfReset, AreNamesOfField, AreNamesOfKind, AreNamesOfStatement, AreNamesOfModule, AreNamesOfCircuit}
use Rattle.gg_ast.specs.Row.{Row, Numbered, numbered, VersionRow, CircuitRow, ModuleRow, PortRow, WireRow, NodeRow, RegisterRow, RegisterResetRow, RegisterOpenRow, ResetRow, InstanceRow, MemoryRow, FieldRow, ConnectRow, InvalidRow, SkipRow, StopRow, ReportRow}
use Rattle.gg_ast.specs.Rows.{port_row, field_row, kind_rows, register_rows, statement_rows, rows_of_statements, module_rows, rows_of_modules}
use Rattle.gg_ast.specs.Term.{Term}
use Rattle.gg_ast.specs.Tree.{ModuleTree, CircuitTree}
use Rattle.gg_read_row.specs.declared.row.LineRow.{LineRow}
use Rattle.gg_read_row.specs.declared.row.LineRow.TheVariants as line
use Rattle.gg_read_row.specs.Forms.{SpellsRow}
use Rattle.gg_read_row.specs.inside.LineRows.{AreNamesOfLine}
use Rattle.gg_read_row.proofs.NamesSpelt.{line-named}
use Rattle.gg_read.specs.Text.{LinePlace, AtStart, LineTokens, AreRows, Spells, is_version, without_version}

-- ---- rows

-- the line that is read as this row
abbrev line_of : Row → LineRow
line_of (VersionRow a b c) = line.Version a b c
line_of (CircuitRow name) = line.Circuit name
line_of (ModuleRow name) = line.Module name
line_of (PortRow direction name ty) = line.Port direction name ty
line_of (WireRow name ty) = line.Statement (statement.Wire name ty)
line_of (NodeRow name value) = line.Statement (statement.Node name value)
line_of (RegisterRow name ty clock) = line.Statement (statement.Register name ty clock None)
line_of (RegisterResetRow name ty clock condition init) = line.RegisterReset name ty clock condition init
line_of (RegisterOpenRow name ty clock) = line.RegisterOpen name ty clock
line_of (ResetRow condition init) = line.Reset condition init
line_of (InstanceRow name m) = line.Statement (statement.Instance name m)
line_of (MemoryRow name) = line.Memory name
line_of (FieldRow f) = line.Field f
line_of (ConnectRow sink source) = line.Statement (statement.Connect sink source)
line_of (InvalidRow sink) = line.Statement (statement.Invalid sink)
line_of SkipRow = line.Statement statement.Skip
line_of (StopRow clock condition code label) = line.Statement (statement.Stop clock condition code label)
line_of (ReportRow word arguments label) = line.Statement (statement.Report word arguments label)

-- the names in a row are names
abbrev IsNamedRow : Row → Type 0
IsNamedRow row = AreNamesOfLine (line_of row)

row-named : (row : Row) (ts : List Tok) → SpellsRow row ts → IsNamedRow row
row-named (VersionRow a b c) ts h = tt
row-named (CircuitRow name) ts h = line-named (line.Circuit name) ts h
row-named (ModuleRow name) ts h = line-named (line.Module name) ts h
row-named (PortRow direction name ty) ts h = line-named (line.Port direction name ty) ts h
row-named (WireRow name ty) ts h = line-named (line.Statement (statement.Wire name ty)) ts h
row-named (NodeRow name value) ts h = line-named (line.Statement (statement.Node name value)) ts h
row-named (RegisterRow name ty clock) ts h = line-named (line.Statement (statement.Register name ty clock None)) ts h
row-named (RegisterResetRow name ty clock condition init) ts h = line-named (line.RegisterReset name ty clock condition init) ts h
row-named (RegisterOpenRow name ty clock) ts h = line-named (line.RegisterOpen name ty clock) ts h
row-named (ResetRow condition init) ts h = line-named (line.Reset condition init) ts h
row-named (InstanceRow name m) ts h = line-named (line.Statement (statement.Instance name m)) ts h
row-named (MemoryRow name) ts h = line-named (line.Memory name) ts h
row-named (FieldRow f) ts h = line-named (line.Field f) ts h
row-named (ConnectRow sink source) ts h = line-named (line.Statement (statement.Connect sink source)) ts h
row-named (InvalidRow sink) ts h = line-named (line.Statement (statement.Invalid sink)) ts h
row-named SkipRow ts h = tt
row-named (StopRow clock condition code label) ts h = line-named (line.Statement (statement.Stop clock condition code label)) ts h
row-named (ReportRow word arguments label) ts h = line-named (line.Statement (statement.Report word arguments label)) ts h

abbrev AreNamedRows : List Numbered → Type 0
AreNamedRows [] = Unit {0}
AreNamedRows (r ∷ rows) = IsNamedRow r.row × AreNamedRows rows

rows-named : (place : LinePlace) (n : ℕ) (lines : List LineTokens) (rows : List Numbered) (last : LinePlace) → AreRows place n lines rows last → AreNamedRows rows
rows-named place n [] rows last h = subst AreNamedRows (sym h.0) tt
rows-named place n (read ∷ more) rows last (inl h) = rows-named place (n + 1) more rows last h.1
rows-named place n (read ∷ more) rows last (inr (row, next, others, form, is, behind)) =
    subst AreNamedRows (sym is) (row-named row read.tokens form.spelt, rows-named next (n + 1) more others last behind)

without-named : (rows : List Numbered) → AreNamedRows rows → AreNamedRows (without_version rows)
without-named [] h = tt
without-named (r ∷ rows) h = go (is_version r.row)
  where
    go : (b : Bool) → AreNamedRows (if b then rows else r ∷ rows)
    go true = h.1
    go false = h

parts-named : (xs ys : List Numbered) → AreNamedRows (xs ++ ys) → AreNamedRows xs × AreNamedRows ys
parts-named [] ys h = (tt, h)
parts-named (x ∷ xs) ys h = let rest = parts-named xs ys h.1 in ((h.0, rest.0), rest.1)

-- ---- the parts of a circuit

fields-named : (fields : List Field) → AreNamedRows (map field_row fields) → All AreNamesOfField fields
fields-named [] h = All-nil AreNamesOfField
fields-named (f ∷ fields) h = All-cons AreNamesOfField f fields h.0 (fields-named fields h.1)

register-named : (at : ℕ) (name : List ℕ) (ty : GroundType) (clock : Term) (reset : Reset) → AreNamedRows (register_rows at name ty clock (Some reset))
    → IsName name × AreNamesOfTerm clock × AreNamesOfReset reset
register-named at name ty clock reset h = go (reset.line == at) h
  where
    go : (b : Bool)
        → AreNamedRows (if b
        then numbered at (RegisterResetRow name ty clock reset.condition reset.init) ∷ []
        else numbered at (RegisterOpenRow name ty clock) ∷ (numbered reset.line (ResetRow reset.condition reset.init) ∷ []))
        → IsName name × AreNamesOfTerm clock × AreNamesOfReset reset
    go true h = (h.0.0, h.0.1, (h.0.2, h.0.3))
    go false h = (h.0.0, h.0.1, h.1.0)

kind-named : (at : ℕ) (kind : StmtKind) → AreNamedRows (kind_rows at kind) → AreNamesOfKind kind
kind-named at (statement.Wire name ty) h = h.0
kind-named at (statement.Node name value) h = h.0
kind-named at (statement.Register name ty clock None) h = h.0
kind-named at (statement.Register name ty clock (Some reset)) h = register-named at name ty clock reset h
kind-named at (statement.Instance name m) h = h.0
kind-named at (statement.Memory name fields) h = (h.0, fields-named fields h.1)
kind-named at (statement.Connect sink source) h = h.0
kind-named at (statement.Invalid sink) h = h.0
kind-named at statement.Skip h = h.0
kind-named at (statement.Stop clock condition code label) h = h.0
kind-named at (statement.Report word arguments label) h = h.0

statements-named : (ss : List Stmt) → AreNamedRows (rows_of_statements ss) → All AreNamesOfStatement ss
statements-named [] h = All-nil AreNamesOfStatement
statements-named (s ∷ ss) h =
    let parts = parts-named (statement_rows s) (rows_of_statements ss) h in
    All-cons AreNamesOfStatement s ss (kind-named s.line s.kind parts.0) (statements-named ss parts.1)

ports-named : (ports : List Port) → AreNamedRows (map port_row ports) → All IsPortNamed ports
ports-named [] h = All-nil IsPortNamed
ports-named (p ∷ ports) h = All-cons IsPortNamed p ports h.0 (ports-named ports h.1)

module-named : (m : ModuleTree) → AreNamedRows (module_rows m) → AreNamesOfModule m
module-named m h =
    let parts = parts-named (map port_row m.ports) (rows_of_statements m.statements) h.1 in
    record { own = h.0; of_ports = ports-named m.ports parts.0; of_statements = statements-named m.statements parts.1 }

modules-named : (ms : List ModuleTree) → AreNamedRows (rows_of_modules ms) → All AreNamesOfModule ms
modules-named [] h = All-nil AreNamesOfModule
modules-named (m ∷ ms) h =
    let parts = parts-named (module_rows m) (rows_of_modules ms) h in
    All-cons AreNamesOfModule m ms (module-named m parts.0) (modules-named ms parts.1)

pub names-spelt : (text : List ℕ) (circuit : CircuitTree) → Spells text circuit → AreNamesOfCircuit circuit
names-spelt text circuit spelt =
    let h = subst AreNamedRows spelt.circuit_rows (without-named spelt.rows (rows-named AtStart 1 spelt.held spelt.rows spelt.last spelt.read)) in
    record { own = h.0; of_modules = modules-named circuit.modules h.1 }
