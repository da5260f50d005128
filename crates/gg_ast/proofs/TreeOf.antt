-- The circuit that has these rows, found from the last row back to the first.
use Rattle.std.proofs.Common.{Bool, true, false, ◌≡◌, ℕ, ◌==◌, List, [], ◌∷◌, ◌++◌, Option, None, Some, if◌then◌else◌, refl, sym, ap, ◌∙◌}
use Rattle.std.specs.Prelude.{map}
use Rattle.std.specs.Bool.{Decides}
use Rattle.std.proofs.lemmas.Bool.Decides.{Decides-eqb}
use Rattle.gg_ast.specs.declared.module.GroundType.{GroundType}
use Rattle.gg_ast.specs.declared.module.Port.{Port}
use Rattle.gg_ast.specs.declared.statement.Field.{Field}
use Rattle.gg_ast.specs.declared.statement.Reset.{Reset}
use Rattle.gg_ast.specs.declared.statement.Stmt.{Stmt}
use Rattle.gg_ast.specs.declared.statement.StmtKind.{StmtKind}
use Rattle.gg_ast.specs.declared.statement.StmtKind.TheVariants.{Wire, Node, Register, Instance, Memory, Connect, Invalid, Skip, Stop, Report}
use Rattle.gg_ast.specs.Row.{Row, Numbered, numbered, VersionRow, CircuitRow, ModuleRow, PortRow, WireRow, NodeRow, RegisterRow, RegisterResetRow, RegisterOpenRow, ResetRow, InstanceRow, MemoryRow, FieldRow, ConnectRow, InvalidRow, SkipRow, StopRow, ReportRow}
use Rattle.gg_ast.specs.Rows.{port_row, field_row, kind_rows, statement_rows, rows_of_statements, module_rows, rows_of_modules, rows_of}
use Rattle.gg_ast.specs.Term.{Term}
use Rattle.gg_ast.specs.Tree.{ModuleTree, CircuitTree}
use Rattle.gg_ast.specs.inside.Tree.{empty_circuit}

-- what the rows after some place make: fields and a reset of a statement that comes before them, and then the rest
record Behind : Type 0 where
  pub fields : List Field
  pub reset : Option Reset
  pub statements : List Stmt
  pub ports : List Port
  pub modules : List ModuleTree

abbrev whole : List Stmt → List Port → List ModuleTree → Behind
whole ss ps ms = record { fields = []; reset = None; statements = ss; ports = ps; modules = ms }

-- what these rows make with a statement before them
abbrev stated : ℕ → StmtKind → Behind → Behind
stated n kind behind = whole (record { line = n; kind = kind } ∷ behind.statements) behind.ports behind.modules

abbrev reset_at : ℕ → Term → Term → Reset
reset_at n condition init = record { line = n; condition = condition; init = init }

-- what these rows make with one more row before them
abbrev before : ℕ → Row → Behind → Behind
before n (VersionRow a b c) behind = behind
before n (CircuitRow name) behind = behind
before n (ModuleRow name) behind = whole [] [] (record { line = n; name = name; ports = behind.ports; statements = behind.statements } ∷ behind.modules)
before n (PortRow direction name ty) behind =
    whole behind.statements (record { line = n; name = name; direction = direction; ty = ty } ∷ behind.ports) behind.modules
before n (WireRow name ty) behind = stated n (Wire name ty) behind
before n (NodeRow name value) behind = stated n (Node name value) behind
before n (RegisterRow name ty clock) behind = stated n (Register name ty clock None) behind
before n (RegisterResetRow name ty clock condition init) behind = stated n (Register name ty clock (Some (reset_at n condition init))) behind
before n (RegisterOpenRow name ty clock) behind = stated n (Register name ty clock behind.reset) behind
before n (ResetRow condition init) behind = record behind { reset = Some (reset_at n condition init) }
before n (InstanceRow name m) behind = stated n (Instance name m) behind
before n (MemoryRow name) behind = stated n (Memory name behind.fields) behind
before n (FieldRow kind) behind = record behind { fields = record { line = n; kind = kind } ∷ behind.fields }
before n (ConnectRow sink source) behind = stated n (Connect sink source) behind
before n (InvalidRow sink) behind = stated n (Invalid sink) behind
before n SkipRow behind = stated n Skip behind
before n (StopRow clock condition code label) behind = stated n (Stop clock condition code label) behind
before n (ReportRow word arguments label) behind = stated n (Report word arguments label) behind

abbrev all_before : List Numbered → Behind → Behind
all_before [] behind = behind
all_before (r ∷ rows) behind = before r.line r.row (all_before rows behind)

before-append : (xs ys : List Numbered) (behind : Behind) → all_before (xs ++ ys) behind ≡ all_before xs (all_before ys behind)
before-append [] ys behind = refl
before-append (x ∷ xs) ys behind = ap (before x.line x.row) (before-append xs ys behind)

-- the rows of a register with a reset, on the register's line or on another, make this register
before-reset : (line : ℕ) (name : List ℕ) (ty : GroundType) (clock : Term) (reset : Reset) (b : Bool) (ss : List Stmt) (ps : List Port) (ms : List ModuleTree) → Decides b (reset.line ≡ line)
    → all_before (if b then numbered line (RegisterResetRow name ty clock reset.condition reset.init) ∷ [] else numbered line (RegisterOpenRow name ty clock) ∷ (numbered reset.line (ResetRow reset.condition reset.init) ∷ [])) (whole ss ps ms)
    ≡ whole (record { line = line; kind = Register name ty clock (Some reset) } ∷ ss) ps ms
before-reset line name ty clock reset true ss ps ms d =
    ap (λ n. whole (record { line = line; kind = Register name ty clock (Some (reset_at n reset.condition reset.init)) } ∷ ss) ps ms) (sym (d.0 refl))
before-reset line name ty clock reset false ss ps ms d = refl

before-fields : (fields : List Field) (ss : List Stmt) (ps : List Port) (ms : List ModuleTree) → all_before (map field_row fields) (whole ss ps ms) ≡ record (whole ss ps ms) { fields = fields }
before-fields [] ss ps ms = refl
before-fields (f ∷ fields) ss ps ms = ap (before f.line (FieldRow f.kind)) (before-fields fields ss ps ms)

before-kind : (line : ℕ) (kind : StmtKind) (ss : List Stmt) (ps : List Port) (ms : List ModuleTree) → all_before (kind_rows line kind) (whole ss ps ms) ≡ whole (record { line = line; kind = kind } ∷ ss) ps ms
before-kind line (Wire name ty) ss ps ms = refl
before-kind line (Node name value) ss ps ms = refl
before-kind line (Register name ty clock None) ss ps ms = refl
before-kind line (Register name ty clock (Some reset)) ss ps ms =
    before-reset line name ty clock reset (reset.line == line) ss ps ms (Decides-eqb reset.line line)
before-kind line (Instance name m) ss ps ms = refl
before-kind line (Memory name fields) ss ps ms = ap (before line (MemoryRow name)) (before-fields fields ss ps ms)
before-kind line (Connect sink source) ss ps ms = refl
before-kind line (Invalid sink) ss ps ms = refl
before-kind line Skip ss ps ms = refl
before-kind line (Stop clock condition code label) ss ps ms = refl
before-kind line (Report word arguments label) ss ps ms = refl

before-statements : (ss : List Stmt) (ps : List Port) (ms : List ModuleTree) → all_before (rows_of_statements ss) (whole [] ps ms) ≡ whole ss ps ms
before-statements [] ps ms = refl
before-statements (s ∷ ss) ps ms =
    before-append (statement_rows s) (rows_of_statements ss) (whole [] ps ms)
    ∙ ap (all_before (statement_rows s)) (before-statements ss ps ms)
    ∙ before-kind s.line s.kind ss ps ms

before-ports : (ps : List Port) (ss : List Stmt) (ms : List ModuleTree) → all_before (map port_row ps) (whole ss [] ms) ≡ whole ss ps ms
before-ports [] ss ms = refl
before-ports (p ∷ ps) ss ms = ap (before p.line (PortRow p.direction p.name p.ty)) (before-ports ps ss ms)

before-module : (m : ModuleTree) (ms : List ModuleTree) → all_before (module_rows m) (whole [] [] ms) ≡ whole [] [] (m ∷ ms)
before-module m ms =
    ap (before m.line (ModuleRow m.name)) (before-append (map port_row m.ports) (rows_of_statements m.statements) (whole [] [] ms)
    ∙ ap (all_before (map port_row m.ports)) (before-statements m.statements [] ms)
    ∙ before-ports m.ports m.statements ms)

before-modules : (ms : List ModuleTree) → all_before (rows_of_modules ms) (whole [] [] []) ≡ whole [] [] ms
before-modules [] = refl
before-modules (m ∷ ms) =
    before-append (module_rows m) (rows_of_modules ms) (whole [] [] [])
    ∙ ap (all_before (module_rows m)) (before-modules ms)
    ∙ before-module m ms

abbrev circuit_name : Row → List ℕ
circuit_name (CircuitRow name) = name
circuit_name other = []

abbrev tree_of : List Numbered → CircuitTree
tree_of [] = empty_circuit 0 []
tree_of (r ∷ rows) = record { line = r.line; name = circuit_name r.row; modules = (all_before rows (whole [] [] [])).modules }

tree_of-rows_of : (c : CircuitTree) → tree_of (rows_of c) ≡ c
tree_of-rows_of c = ap (λ (behind : Behind). record c { modules = behind.modules }) (before-modules c.modules)

-- circuits with the same rows are equal
pub one_tree-law : (c d : CircuitTree) → rows_of c ≡ rows_of d → c ≡ d
one_tree-law c d same = sym (tree_of-rows_of c) ∙ ap tree_of same ∙ tree_of-rows_of d
