-- The names of a circuit that a text spells are names: those of each row are.
use Rattle.std.proofs.Common.{inl, inr, ℕ, ◌+◌, Bool, true, false, List, [], ◌∷◌, ◌++◌, map, Option, Some, None, sym, subst, if◌then◌else◌}
use Rattle.std.specs.Prelude.{All, ◌==◌}
use Rattle.std.proofs.lemmas.List.Elements.{All-cons, All-nil}
use Rattle.gg_ast.specs.declared.module.GroundType.{GroundType}
use Rattle.gg_ast.specs.declared.module.Port.{Port}
use Rattle.gg_ast.specs.declared.statement.Field.{Field}
use Rattle.gg_ast.specs.declared.statement.Reset.{Reset}
use Rattle.gg_ast.specs.declared.statement.Stmt.{Stmt}
use Rattle.gg_ast.specs.declared.statement.StmtKind.{StmtKind}
use Rattle.gg_ast.specs.declared.statement.StmtKind.TheVariants.{Wire, Node, Register, Instance, Memory, Connect, Invalid, Skip, Stop, Report}
use Rattle.gg_ast.specs.inside.Names.{AreNamesOfCircuit, AreNamesOfField, AreNamesOfKind, AreNamesOfMemoryField, AreNamesOfModule, AreNamesOfStatement, AreNamesOfTerm, IsPortNamed}
use Rattle.gg_ast.specs.Names.{IsName}
use Rattle.gg_ast.specs.Row.{Row, Numbered, VersionRow, CircuitRow, ModuleRow, PortRow, WireRow, NodeRow, RegisterRow, RegisterResetRow, RegisterOpenRow, ResetRow, InstanceRow, MemoryRow, FieldRow, ConnectRow, InvalidRow, SkipRow, StopRow, ReportRow}
use Rattle.gg_ast.specs.Rows.{field_row, kind_rows, module_rows, port_row, register_rows, rows_of_modules, rows_of_statements, statement_rows}
use Rattle.gg_ast.specs.Term.{Term}
use Rattle.gg_ast.specs.Tree.{CircuitTree, ModuleTree}
use Rattle.gg_lex.specs.declared.token.Tok.{Tok}
use Rattle.gg_read_row.specs.declared.row.LineRow.TheVariants as line
use Rattle.gg_read_row.specs.Forms.{SpellsRow}
use Rattle.gg_read_row.proofs.NamesSpelt.{line-named}
use Rattle.gg_read.specs.Text.{AreRows, LinePlace, LineTokens, Spells, is_version, without_version}

-- ---- rows

-- the names of a row are names
abbrev AreNamesOfRow : Row → Type 0
AreNamesOfRow (VersionRow a b c) = Unit {0}
AreNamesOfRow (CircuitRow name) = IsName name
AreNamesOfRow (ModuleRow name) = IsName name
AreNamesOfRow (PortRow direction name ty) = IsName name
AreNamesOfRow (WireRow name ty) = AreNamesOfKind (Wire name ty)
AreNamesOfRow (NodeRow name value) = AreNamesOfKind (Node name value)
AreNamesOfRow (RegisterRow name ty clock) = AreNamesOfKind (Register name ty clock None)
AreNamesOfRow (RegisterResetRow name ty clock condition init) = IsName name × AreNamesOfTerm clock × AreNamesOfTerm condition × AreNamesOfTerm init
AreNamesOfRow (RegisterOpenRow name ty clock) = IsName name × AreNamesOfTerm clock
AreNamesOfRow (ResetRow condition init) = AreNamesOfTerm condition × AreNamesOfTerm init
AreNamesOfRow (InstanceRow name m) = AreNamesOfKind (Instance name m)
AreNamesOfRow (MemoryRow name) = IsName name
AreNamesOfRow (FieldRow field) = AreNamesOfMemoryField field
AreNamesOfRow (ConnectRow sink source) = AreNamesOfKind (Connect sink source)
AreNamesOfRow (InvalidRow sink) = AreNamesOfKind (Invalid sink)
AreNamesOfRow SkipRow = Unit {0}
AreNamesOfRow (StopRow clock condition code label) = AreNamesOfKind (Stop clock condition code label)
AreNamesOfRow (ReportRow word arguments label) = AreNamesOfKind (Report word arguments label)

row-named : (row : Row) (ts : List Tok) → SpellsRow row ts → AreNamesOfRow row
row-named (VersionRow a b c) ts h = tt
row-named (CircuitRow name) ts h = line-named (line.Circuit name) ts h
row-named (ModuleRow name) ts h = line-named (line.Module name) ts h
row-named (PortRow direction name ty) ts h = line-named (line.Port direction name ty) ts h
row-named (WireRow name ty) ts h = line-named (line.Statement (Wire name ty)) ts h
row-named (NodeRow name value) ts h = line-named (line.Statement (Node name value)) ts h
row-named (RegisterRow name ty clock) ts h = line-named (line.Statement (Register name ty clock None)) ts h
row-named (RegisterResetRow name ty clock condition init) ts h = line-named (line.RegisterReset name ty clock condition init) ts h
row-named (RegisterOpenRow name ty clock) ts h = line-named (line.RegisterOpen name ty clock) ts h
row-named (ResetRow condition init) ts h = line-named (line.Reset condition init) ts h
row-named (InstanceRow name m) ts h = line-named (line.Statement (Instance name m)) ts h
row-named (MemoryRow name) ts h = line-named (line.Memory name) ts h
row-named (FieldRow field) ts h = line-named (line.Field field) ts h
row-named (ConnectRow sink source) ts h = line-named (line.Statement (Connect sink source)) ts h
row-named (InvalidRow sink) ts h = line-named (line.Statement (Invalid sink)) ts h
row-named SkipRow ts h = tt
row-named (StopRow clock condition code label) ts h = line-named (line.Statement (Stop clock condition code label)) ts h
row-named (ReportRow word arguments label) ts h = line-named (line.Statement (Report word arguments label)) ts h

abbrev AreNamed : List Numbered → Type 0
AreNamed [] = Unit {0}
AreNamed (r ∷ rows) = AreNamesOfRow r.row × AreNamed rows

-- the rows that lines spell
rows-named : (place : LinePlace) (n : ℕ) (lines : List LineTokens) (rows : List Numbered) (last : LinePlace) → AreRows place n lines rows last → AreNamed rows
rows-named place n [] rows last h = subst AreNamed (sym h.0) tt
rows-named place n (one ∷ more) rows last (inl h) = rows-named place (n + 1) more rows last h.1
rows-named place n (one ∷ more) rows last (inr (row, next, others, form, is, rest)) =
    subst AreNamed (sym is) (row-named row one.tokens form.spelt, rows-named next (n + 1) more others last rest)

without-named : (rows : List Numbered) → AreNamed rows → AreNamed (without_version rows)
without-named [] h = tt
without-named (r ∷ rows) h = go (is_version r.row)
  where
    go : (b : Bool) → AreNamed (if b then rows else r ∷ rows)
    go true = h.1
    go false = h

front-named : (xs ys : List Numbered) → AreNamed (xs ++ ys) → AreNamed xs
front-named [] ys h = tt
front-named (x ∷ xs) ys h = (h.0, front-named xs ys h.1)

back-named : (xs ys : List Numbered) → AreNamed (xs ++ ys) → AreNamed ys
back-named [] ys h = h
back-named (x ∷ xs) ys h = back-named xs ys h.1

-- ---- the circuit of the rows

ports-named : (ports : List Port) → AreNamed (map port_row ports) → All IsPortNamed ports
ports-named [] h = All-nil IsPortNamed
ports-named (p ∷ ps) h = All-cons IsPortNamed p ps h.0 (ports-named ps h.1)

fields-named : (fields : List Field) → AreNamed (map field_row fields) → All AreNamesOfField fields
fields-named [] h = All-nil AreNamesOfField
fields-named (f ∷ fs) h = All-cons AreNamesOfField f fs h.0 (fields-named fs h.1)

register-named : (at : ℕ) (name : List ℕ) (ty : GroundType) (clock : Term) (reset : Option Reset) → AreNamed (register_rows at name ty clock reset) → AreNamesOfKind (Register name ty clock reset)
register-named at name ty clock None h = h.0
register-named at name ty clock (Some reset) h = go (reset.line == at) h
  where
    go : (b : Bool) → AreNamed (if b then (record { line = at; row = RegisterResetRow name ty clock reset.condition reset.init }) ∷ [] else (record { line = at; row = RegisterOpenRow name ty clock }) ∷ ((record { line = reset.line; row = ResetRow reset.condition reset.init }) ∷ [])) → AreNamesOfKind (Register name ty clock (Some reset))
    go true ((named, timed, tested, begun), none) = (named, timed, (tested, begun))
    go false ((named, timed), (second, none)) = (named, timed, second)

kind-named : (at : ℕ) (kind : StmtKind) → AreNamed (kind_rows at kind) → AreNamesOfKind kind
kind-named at (Wire name ty) h = h.0
kind-named at (Node name value) h = h.0
kind-named at (Register name ty clock reset) h = register-named at name ty clock reset h
kind-named at (Instance name m) h = h.0
kind-named at (Memory name fields) h = (h.0, fields-named fields h.1)
kind-named at (Connect sink source) h = h.0
kind-named at (Invalid sink) h = h.0
kind-named at Skip h = tt
kind-named at (Stop clock condition code label) h = h.0
kind-named at (Report word arguments label) h = h.0

statements-named : (ss : List Stmt) → AreNamed (rows_of_statements ss) → All AreNamesOfStatement ss
statements-named [] h = All-nil AreNamesOfStatement
statements-named (s ∷ ss) h =
    All-cons AreNamesOfStatement s ss (kind-named s.line s.kind (front-named (statement_rows s) (rows_of_statements ss) h)) (statements-named ss (back-named (statement_rows s) (rows_of_statements ss) h))

module-named : (m : ModuleTree) → AreNamed (module_rows m) → AreNamesOfModule m
module-named m h =
    record {
      own = h.0;
      of_ports = ports-named m.ports (front-named (map port_row m.ports) (rows_of_statements m.statements) h.1);
      of_statements = statements-named m.statements (back-named (map port_row m.ports) (rows_of_statements m.statements) h.1);
    }

modules-named : (ms : List ModuleTree) → AreNamed (rows_of_modules ms) → All AreNamesOfModule ms
modules-named [] h = All-nil AreNamesOfModule
modules-named (m ∷ ms) h = All-cons AreNamesOfModule m ms (module-named m (front-named (module_rows m) (rows_of_modules ms) h)) (modules-named ms (back-named (module_rows m) (rows_of_modules ms) h))

pub circuit-named : (text : List ℕ) (circuit : CircuitTree) → Spells text circuit → AreNamesOfCircuit circuit
circuit-named text circuit spelt =
    let rows = subst AreNamed spelt.circuit_rows (without-named spelt.rows (rows-named _ 1 spelt.held spelt.rows spelt.last spelt.read)) in
    record { own = rows.0; of_modules = modules-named circuit.modules rows.1 }
