-- Each name in a row that the tokens of a line spell is a name.
use Rattle.std.proofs.Common.{List, [], ◌∷◌, Option, Some, None, inl, inr}
use Rattle.std.specs.Prelude.{ℕ, MatchOption, IfSome}
use Rattle.std.specs.List.{All}
use Rattle.std.proofs.lemmas.List.Elements.{All-nil, All-cons}
use Rattle.gg_lex.specs.declared.token.Tok.{Tok}
use Rattle.gg_lex.specs.declared.token.Tok.TheVariants.{Symbol}
use Rattle.gg_lex.specs.declared.token.Symbol.TheVariants.{CloseParen, Comma, Connect}
use Rattle.gg_ast.specs.declared.expression.Reference.{Reference}
use Rattle.gg_ast.specs.declared.expression.Reference.TheVariants as reference
use Rattle.gg_ast.specs.declared.module.GroundType.{GroundType}
use Rattle.gg_ast.specs.declared.statement.Argument.{Argument}
use Rattle.gg_ast.specs.declared.statement.Argument.TheVariants as given
use Rattle.gg_ast.specs.declared.statement.MemoryField.{MemoryField}
use Rattle.gg_ast.specs.declared.statement.MemoryField.TheVariants as field
use Rattle.gg_ast.specs.declared.statement.StmtKind.{StmtKind}
use Rattle.gg_ast.specs.declared.statement.StmtKind.TheVariants as statement
use Rattle.gg_ast.specs.Names.{IsName}
use Rattle.gg_ast.specs.inside.Names.{AreNamesOfReference, AreNamesOfTerm, AreNamesOfArgument, AreNamesOfMemoryField, AreNamesOfKind}
use Rattle.gg_ast.specs.Row.{RegisterResetRow, ConnectRow, InvalidRow}
use Rattle.gg_ast.specs.Term.{Term, NamedTerm, ConstantTerm, UnaryTerm, BinaryTerm, FixedTerm, MuxTerm}
use Rattle.gg_read_row.specs.declared.row.LineRow.{LineRow}
use Rattle.gg_read_row.specs.declared.row.LineRow.TheVariants as line
use Rattle.gg_read_row.specs.Forms.{SpellsReference, SpellsExpr, SpellsReset, SpellsLabel, SpellsArgument, SpellsArguments, SpellsRegister, SpellsMoreNames, SpellsNames, SpellsField, SpellsRow}
use Rattle.gg_read_row.specs.inside.LineRows.{statement_row, row_of, AreNamesOfLine}

reference-named : (r : Reference) (ts rest : List Tok) → SpellsReference r ts rest → AreNamesOfReference r
reference-named (reference.Local a) ts rest h = h.0
reference-named (reference.PortOf a b) ts rest h = (h.0, h.1)
reference-named (reference.FieldOf a b c) ts rest h = (h.0, h.1, h.2)

expr-named : (e : Term) (ts rest : List Tok) → SpellsExpr e ts rest → AreNamesOfTerm e
expr-named (NamedTerm r) ts rest h = reference-named r ts rest h
expr-named (ConstantTerm l) ts rest h = tt
expr-named (UnaryTerm o a) ts rest (t, is, h) = expr-named a t (Symbol CloseParen ∷ rest) h
expr-named (BinaryTerm o a b) ts rest (t, u, is, h, k) = (expr-named a t (Symbol Comma ∷ u) h, expr-named b u (Symbol CloseParen ∷ rest) k)
expr-named (FixedTerm o a n m) ts rest (t, u, is, h, k) = expr-named a t u h
expr-named (MuxTerm c a b) ts rest (t, u, v, is, h, k, l) =
    (expr-named c t (Symbol Comma ∷ u) h, expr-named a u (Symbol Comma ∷ v) k, expr-named b v (Symbol CloseParen ∷ rest) l)

reset-named : (condition init : Term) (ts rest : List Tok) → SpellsReset condition init ts rest → AreNamesOfTerm condition × AreNamesOfTerm init
reset-named condition init ts rest (t, u, is, h, k) = (expr-named condition t (Symbol Comma ∷ u) h, expr-named init u (Symbol CloseParen ∷ rest) k)

label-named : (label : Option (List ℕ)) (ts : List Tok) → SpellsLabel label ts → IfSome label IsName
label-named None ts h = tt
label-named (Some name) ts h = h.0

argument-named : (a : Argument) (ts rest : List Tok) → SpellsArgument a ts rest → AreNamesOfArgument a
argument-named (given.Value e) ts rest h = expr-named e ts rest h
argument-named (given.Text t) ts rest h = tt

arguments-named : (args : List Argument) (ts rest : List Tok) → SpellsArguments args ts rest → All AreNamesOfArgument args
arguments-named [] ts rest h = absurd h
arguments-named (a ∷ []) ts rest h =
    All-cons AreNamesOfArgument a [] (argument-named a ts (Symbol CloseParen ∷ rest) h) (All-nil AreNamesOfArgument)
arguments-named (a ∷ (b ∷ more)) ts rest (t, h, k) =
    All-cons AreNamesOfArgument a (b ∷ more) (argument-named a ts (Symbol Comma ∷ t) h) (arguments-named (b ∷ more) t rest k)

register-named : (word name : List ℕ) (ty : GroundType) (clock : Term) (ts rest : List Tok) → SpellsRegister word name ty clock ts rest → IsName name × AreNamesOfTerm clock
register-named word name ty clock ts rest (t, u, named, is, h, k) = (named, expr-named clock u rest k)

-- a row of two spellings
register_reset-named : (name : List ℕ) (ty : GroundType) (clock condition init : Term) (ts : List Tok) → SpellsRow (RegisterResetRow name ty clock condition init) ts
    → IsName name × AreNamesOfTerm clock × AreNamesOfTerm condition × AreNamesOfTerm init
register_reset-named name ty clock condition init ts (inl h) =
    let r = register-named _ name ty clock ts _ h.1 in
    let s = reset-named condition init h.0 _ h.2 in
    (r.0, r.1, s.0, s.1)
register_reset-named name ty clock condition init ts (inr h) =
    let r = register-named _ name ty clock ts _ h.2 in
    (r.0, r.1, expr-named condition h.0 (Symbol Comma ∷ h.1) h.3, expr-named init h.1 [] h.4)

connect-named : (sink : Reference) (source : Term) (ts : List Tok) → SpellsRow (ConnectRow sink source) ts → AreNamesOfReference sink × AreNamesOfTerm source
connect-named sink source ts (inl (t, r, e)) = (reference-named sink ts (Symbol Connect ∷ t) r, expr-named source t [] e)
connect-named sink source ts (inr (t, u, is, r, e)) = (reference-named sink t (Symbol Comma ∷ u) r, expr-named source u [] e)

invalid-named : (sink : Reference) (ts : List Tok) → SpellsRow (InvalidRow sink) ts → AreNamesOfReference sink
invalid-named sink ts (inl r) = reference-named sink ts _ r
invalid-named sink ts (inr (t, is, r)) = reference-named sink t [] r

more-named : (names : List (List ℕ)) (ts : List Tok) → SpellsMoreNames names ts → All IsName names
more-named [] ts h = All-nil IsName
more-named (n ∷ more) ts (t, named, is, h) = All-cons IsName n more named (more-named more t h)

names-named : (names : List (List ℕ)) (ts : List Tok) → SpellsNames names ts → All IsName names
names-named [] ts h = absurd h
names-named (n ∷ more) ts h = more-named (n ∷ more) ts h

field-named : (f : MemoryField) (ts : List Tok) → SpellsField f ts → AreNamesOfMemoryField f
field-named (field.DataType ty) ts h = tt
field-named (field.Depth n) ts h = tt
field-named (field.ReadLatency n) ts h = tt
field-named (field.WriteLatency n) ts h = tt
field-named (field.Readers names) ts (t, is, h) = names-named names t h
field-named (field.Writers names) ts (t, is, h) = names-named names t h
field-named (field.ReadUnderWrite word) ts h = tt

kind-named : (kind : StmtKind) (ts : List Tok) → MatchOption (statement_row kind) ⊥ (λ row. SpellsRow row ts) → AreNamesOfKind kind
kind-named (statement.Wire name ty) ts h = h.1
kind-named (statement.Node name value) ts h = (h.1, expr-named value h.0 [] h.3)
kind-named (statement.Register name ty clock None) ts h =
    let named = register-named _ name ty clock ts [] h in
    (named.0, named.1, tt)
kind-named (statement.Register name ty clock (Some reset)) ts h = absurd h
kind-named (statement.Instance name m) ts h = (h.0, h.1)
kind-named (statement.Memory name fields) ts h = absurd h
kind-named (statement.Connect sink source) ts h = connect-named sink source ts h
kind-named (statement.Invalid sink) ts h = invalid-named sink ts h
kind-named statement.Skip ts h = tt
kind-named (statement.Stop clock condition code label) ts h =
    let s = h in
    (expr-named clock s.0 (Symbol Comma ∷ s.1) s.5, expr-named condition s.1 _ s.6, label-named label s.3 s.8)
kind-named (statement.Report word arguments label) ts h =
    let s = h in
    (arguments-named arguments s.0 s.1 s.3, label-named label s.1 s.4)

pub line-named : (held : LineRow) (ts : List Tok) → MatchOption (row_of held) ⊥ (λ row. SpellsRow row ts) → AreNamesOfLine held
line-named (line.Version a b c) ts h = tt
line-named (line.Circuit name) ts h = h.0
line-named (line.Module name) ts h = h.0
line-named (line.Port direction name ty) ts h = h.1
line-named (line.Statement kind) ts h = kind-named kind ts h
line-named (line.RegisterReset name ty clock condition init) ts h = register_reset-named name ty clock condition init ts h
line-named (line.RegisterOpen name ty clock) ts h = register-named _ name ty clock ts _ h
line-named (line.Reset condition init) ts h = reset-named condition init ts [] h
line-named (line.Memory name) ts h = h.0
line-named (line.Field f) ts h = field-named f ts h
