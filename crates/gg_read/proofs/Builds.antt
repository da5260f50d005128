-- The rows of a circuit that is built row by row.
use Rattle.std.proofs.Common.{◌≡◌, ℕ, ◌<◌, List, [], ◌∷◌, ◌++◌, Bool, true, false, ◌==◌, Some, None, Result, refl, sym, ap, ◌∙◌, arith, append_assoc}
use Rattle.std.specs.Prelude.{if◌then◌else◌, IfSome}
use Rattle.std.proofs.lemmas.Bool.Decides.{nat_tests}
use Rattle.gg_ast.specs.declared.statement.Reset.{Reset}
use Rattle.gg_ast.specs.declared.statement.StmtKind.{StmtKind}
use Rattle.gg_ast.specs.declared.statement.StmtKind.TheVariants as statement
use Rattle.gg_ast.specs.Row.{Numbered, numbered, VersionRow, CircuitRow, RegisterResetRow}
use Rattle.gg_ast.specs.Rows.{rows_of, register_rows, kind_rows}
use Rattle.gg_ast.specs.declared.module.GroundType.{GroundType}
use Rattle.gg_ast.specs.Term.{Term}
use Rattle.gg_ast.specs.Tree.{CircuitTree}
use Rattle.gg_read_row.specs.declared.cursor.RowFault.{RowFault}
use Rattle.gg_read.specs.declared.stage.OpenRegister.{OpenRegister}
use Rattle.gg_read.specs.declared.stage.Stage.{Stage}
use Rattle.gg_read_row.specs.inside.LineRows.{statement_row}
use Rattle.gg_read.specs.Text.{is_version, without_version, place_after, after_statement}
use Rattle.gg_read.specs.inside.Stages.{stage_place, open_row, reset_row, Advances}

-- once there is a row apart from the version's, more rows are added as they are
without_version-append : (before rows : List Numbered) (x : Numbered) (xs : List Numbered) → without_version before ≡ x ∷ xs → without_version (before ++ rows) ≡ without_version before ++ rows
without_version-append [] rows x xs e = absurd (cc)
without_version-append (b ∷ bs) rows x xs e =
    elim (is_version b.row) as (λ (v : Bool). (if v then (bs ++ rows) else (b ∷ (bs ++ rows))) ≡ (if v then bs else (b ∷ bs)) ++ rows) [ true ↦ refl | false ↦ refl ]

-- rows that are added after the rows of a circuit come after them
pub rows_more : (circuit : CircuitTree) (before rows : List Numbered) → without_version before ≡ rows_of circuit → without_version (before ++ rows) ≡ rows_of circuit ++ rows
rows_more circuit before rows e = without_version-append before rows _ _ e ∙ ap (λ (l : List Numbered). l ++ rows) e

-- with the version's row alone there is no row of a circuit yet
pub version_first : (before : List Numbered) (n a b c : ℕ) → before ≡ [] → without_version (before ++ numbered n (VersionRow a b c) ∷ []) ≡ []
version_first before n a b c e = ap (λ (l : List Numbered). without_version (l ++ numbered n (VersionRow a b c) ∷ [])) e

header_test : (v : Bool) (b : Numbered) (bs : List Numbered) (x : Numbered) → (if v then bs else (b ∷ bs)) ≡ [] → (if v then (bs ++ x ∷ []) else (b ∷ (bs ++ x ∷ []))) ≡ x ∷ []
header_test true b bs x e = ap (λ (l : List Numbered). l ++ x ∷ []) e
header_test false b bs x e = absurd (cc)

-- the circuit's row is the first of the circuit, with a version's row before it or without
pub header_next : (before : List Numbered) (n : ℕ) (name : List ℕ) → without_version before ≡ [] → without_version (before ++ numbered n (CircuitRow name) ∷ []) ≡ numbered n (CircuitRow name) ∷ []
header_next [] n name e = refl
header_next (b ∷ bs) n name e = header_test (is_version b.row) b bs (numbered n (CircuitRow name)) e

pub nothing_first : (before : List Numbered) → before ≡ [] → without_version before ≡ []
nothing_first before e = ap without_version e

if_false : {A : Type 0} (v : Bool) (x y : A) → v ≡ false → (if v then x else y) ≡ y
if_false true x y e = absurd (cc)
if_false false x y e = refl

if_true : {A : Type 0} (v : Bool) (x y : A) → v ≡ true → (if v then x else y) ≡ x
if_true true x y e = refl
if_true false x y e = absurd (cc)

-- a register has one row if its reset is on its line
pub inline_rows : (n : ℕ) (name : List ℕ) (ty : GroundType) (clock : Term) (reset : Reset) → reset.line ≡ n → register_rows n name ty clock (Some reset) ≡ numbered n (RegisterResetRow name ty clock reset.condition reset.init) ∷ []
inline_rows n name ty clock reset same =
    let test : (reset.line == n) ≡ true = grind (arith, nat_tests) in
    if_true _ _ _ test

later_reset : (line at : ℕ) → line < at → (at == line) ≡ false
later_reset line at h = grind (arith, nat_tests)

-- an open register's row and the row of its reset are the rows of the register
pub rows_closed : (circuit next : CircuitTree) (register : OpenRegister) (reset : Reset) (before : List Numbered) → register.line < reset.line → rows_of next ≡ rows_of circuit ++ register_rows register.line register.name register.ty register.clock (Some reset) → without_version before ≡ rows_of circuit ++ open_row register ∷ [] → without_version (before ++ reset_row reset ∷ []) ≡ rows_of next
rows_closed circuit next register reset before later pushed e =
    let test : (reset.line == register.line) ≡ false = later_reset register.line reset.line later in
    let two : register_rows register.line register.name register.ty register.clock (Some reset) ≡ open_row register ∷ (reset_row reset ∷ []) = if_false _ _ _ test in
    without_version-append before (reset_row reset ∷ []) _ _ e
    ∙ ap (λ (l : List Numbered). l ++ reset_row reset ∷ []) e
    ∙ append_assoc (rows_of circuit) (open_row register ∷ []) (reset_row reset ∷ [])
    ∙ ap (λ (l : List Numbered). rows_of circuit ++ l) (sym two)
    ∙ sym pushed

-- a statement other than a memory or a register with a reset has one row, which may come where any statement may
pub statement_advances : (stage : Stage) (n : ℕ) (kind : StmtKind) (result : Result Stage RowFault) → Advances stage (after_statement (stage_place stage)) n (kind_rows n kind) result → IfSome (statement_row kind) (λ held. Advances stage (place_after (stage_place stage) held) n (numbered n held ∷ []) result)
statement_advances stage n (statement.Wire name ty) result h = h
statement_advances stage n (statement.Node name value) result h = h
statement_advances stage n (statement.Register name ty clock None) result h = h
statement_advances stage n (statement.Register name ty clock (Some reset)) result h = tt
statement_advances stage n (statement.Instance name m) result h = h
statement_advances stage n (statement.Memory name fields) result h = tt
statement_advances stage n (statement.Connect sink source) result h = h
statement_advances stage n (statement.Invalid sink) result h = h
statement_advances stage n statement.Skip result h = h
statement_advances stage n (statement.Stop clock condition code label) result h = h
statement_advances stage n (statement.Report word arguments label) result h = h
