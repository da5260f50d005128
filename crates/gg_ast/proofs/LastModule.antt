-- What a change of the last module does to the modules of a circuit, their names and their rows.
use Rattle.std.proofs.Common.{Bool, true, false, Result, Ok, Err, ◌≡◌, ℕ, zero, suc, ◌<◌, List, [], ◌∷◌, ◌++◌, length, get_or, refl, sym, ap, ◌∙◌, subst, arith, append_assoc}
use Rattle.std.specs.Prelude.{slice_set, map, is_ok, OnOk, if◌then◌else◌}
use Rattle.std.proofs.lemmas.List.{map-append, append-nil}
use Rattle.gg_ast.specs.declared.module.Port.{Port}
use Rattle.gg_ast.specs.declared.statement.Field.{Field}
use Rattle.gg_ast.specs.declared.statement.Stmt.{Stmt}
use Rattle.gg_ast.specs.declared.statement.StmtKind.{StmtKind}
use Rattle.gg_ast.specs.declared.statement.StmtKind.TheVariants.{Wire, Node, Register, Instance, Memory, Connect, Invalid, Skip, Stop, Report}
use Rattle.gg_ast.specs.Row.{Numbered, numbered, CircuitRow, ModuleRow, MemoryRow}
use Rattle.gg_ast.specs.Tree.{ModuleTree, CircuitTree, names_of}
use Rattle.gg_ast.specs.inside.Tree.{on_last, EndsIn, with_port, with_statement, with_field, statement_with_field, module_with_field, IsMemory, IsMemoryStatement, EndsInMemory, IsOpenToPorts, IsOpenToFields}
use Rattle.gg_ast.specs.Rows.{port_row, field_row, kind_rows, statement_rows, rows_of_statements, module_rows, rows_of_modules, rows_of}

-- a write at the last place changes the last element
pub slice_set-on_last : {A : Type 0} (f : A → A) (ms : List A) (n : ℕ) (m : A) → suc n ≡ length ms → m ≡ get_or ms n m → slice_set ms n (f m) ≡ on_last f ms
slice_set-on_last f [] n m size is = absurd (omega arith)
slice_set-on_last f (x ∷ []) zero m size is = ap (λ y. f y ∷ []) is
slice_set-on_last f (x ∷ []) (suc n) m size is = absurd (omega arith)
slice_set-on_last f (x ∷ (y ∷ zs)) zero m size is = absurd (omega arith)
slice_set-on_last f (x ∷ (y ∷ zs)) (suc n) m size is = ap (λ l. x ∷ l) (slice_set-on_last f (y ∷ zs) n m (omega arith) is)

-- the same element written back changes nothing
pub slice_set-same : {A : Type 0} (ms : List A) (n : ℕ) (m : A) → n < length ms → m ≡ get_or ms n m → slice_set ms n m ≡ ms
slice_set-same [] n m within is = absurd (omega arith)
slice_set-same (x ∷ xs) zero m within is = ap (λ y. y ∷ xs) is
slice_set-same (x ∷ xs) (suc n) m within is = ap (λ l. x ∷ l) (slice_set-same xs n m (omega arith) is)

pub length-on_last : {A : Type 0} (f : A → A) (ms : List A) → length (on_last f ms) ≡ length ms
length-on_last f [] = refl
length-on_last f (x ∷ []) = refl
length-on_last f (x ∷ (y ∷ zs)) = let e = length-on_last f (y ∷ zs) in omega arith

-- a list whose last element has a property isn't empty
pub ends-some : {A : Type 0} (P : A → Type 0) (ms : List A) → EndsIn P ms → 0 < length ms
ends-some P [] h = absurd h
ends-some P (x ∷ xs) h = omega arith

pub ends-last : {A : Type 0} (P : A → Type 0) (ms : List A) (n : ℕ) (m : A) → suc n ≡ length ms → m ≡ get_or ms n m → EndsIn P ms → P m
ends-last P [] n m size is h = absurd h
ends-last P (x ∷ []) zero m size is h = subst P (sym is) h
ends-last P (x ∷ []) (suc n) m size is h = absurd (omega arith)
ends-last P (x ∷ (y ∷ zs)) zero m size is h = absurd (omega arith)
ends-last P (x ∷ (y ∷ zs)) (suc n) m size is h = ends-last P (y ∷ zs) n m (omega arith) is h

-- an added element that has the property is the last, so the list ends in it
pub ends-push : {A : Type 0} (P : A → Type 0) (ms : List A) (m : A) → P m → EndsIn P (ms ++ m ∷ [])
ends-push P [] m h = h
ends-push P (x ∷ []) m h = h
ends-push P (x ∷ (y ∷ zs)) m h = ends-push P (y ∷ zs) m h

-- if the change gives Q to each element with P, a list that ends in P ends in Q after its last element is changed
pub ends-on_last : {A : Type 0} (P Q : A → Type 0) (f : A → A) (ms : List A) → ((m : A) → P m → Q (f m)) → EndsIn P ms → EndsIn Q (on_last f ms)
ends-on_last P Q f [] go h = absurd h
ends-on_last P Q f (x ∷ []) go h = go x h
ends-on_last P Q f (x ∷ (y ∷ [])) go h = go y h
ends-on_last P Q f (x ∷ (y ∷ (z ∷ zs))) go h = ends-on_last P Q f (y ∷ (z ∷ zs)) go h

ends-any : {A : Type 0} (ms : List A) → 0 < length ms → EndsIn (λ _. Unit {0}) ms
ends-any [] some = absurd (omega arith)
ends-any (x ∷ []) some = tt
ends-any (x ∷ (y ∷ zs)) some = ends-any (y ∷ zs) (omega arith)

-- a change that keeps the name of a module leaves the list of names as it is
pub names_of-on_last : (f : ModuleTree → ModuleTree) (ms : List ModuleTree) → ((m : ModuleTree) → (f m).name ≡ m.name) → names_of (on_last f ms) ≡ names_of ms
names_of-on_last f [] keeps = refl
names_of-on_last f (x ∷ []) keeps = ap (λ n. n ∷ []) (keeps x)
names_of-on_last f (x ∷ (y ∷ zs)) keeps = ap (λ l. x.name ∷ l) (names_of-on_last f (y ∷ zs) keeps)

-- the rows of the changed last module are its old rows, and then these
abbrev LastRows : (ModuleTree → ModuleTree) → List Numbered → List ModuleTree → Type 0
LastRows f more [] = ⊥
LastRows f more (m ∷ []) = module_rows (f m) ≡ module_rows m ++ more
LastRows f more (m ∷ (n ∷ ms)) = LastRows f more (n ∷ ms)

rows_of_modules-on_last : (f : ModuleTree → ModuleTree) (more : List Numbered) (ms : List ModuleTree) → LastRows f more ms → rows_of_modules (on_last f ms) ≡ rows_of_modules ms ++ more
rows_of_modules-on_last f more [] h = absurd h
rows_of_modules-on_last f more (x ∷ []) h =
    append-nil (module_rows (f x)) ∙ h ∙ ap (λ l. l ++ more) (sym (append-nil (module_rows x)))
rows_of_modules-on_last f more (x ∷ (y ∷ zs)) h =
    ap (λ l. module_rows x ++ l) (rows_of_modules-on_last f more (y ∷ zs) h) ∙ sym (append_assoc (module_rows x) (rows_of_modules (y ∷ zs)) more)

rows_of_statements-push : (ss : List Stmt) (s : Stmt) → rows_of_statements (ss ++ s ∷ []) ≡ rows_of_statements ss ++ statement_rows s
rows_of_statements-push [] s = append-nil (statement_rows s)
rows_of_statements-push (x ∷ xs) s =
    ap (λ l. statement_rows x ++ l) (rows_of_statements-push xs s) ∙ sym (append_assoc (statement_rows x) (rows_of_statements xs) (statement_rows s))

last_statement : (s : Stmt) (ms : List ModuleTree) → 0 < length ms → LastRows (with_statement s) (statement_rows s) ms
last_statement s [] some = absurd (omega arith)
last_statement s (m ∷ []) some =
    ap (λ l. numbered m.line (ModuleRow m.name) ∷ (map port_row m.ports ++ l)) (rows_of_statements-push m.statements s)
    ∙ ap (λ l. numbered m.line (ModuleRow m.name) ∷ l) (sym (append_assoc (map port_row m.ports) (rows_of_statements m.statements) (statement_rows s)))
last_statement s (m ∷ (n ∷ ms)) some = last_statement s (n ∷ ms) (omega arith)

-- the rows of an added statement come after the rows of the modules so far
pub rows_of_modules-with_statement : (s : Stmt) (ms : List ModuleTree) → 0 < length ms → rows_of_modules (on_last (with_statement s) ms) ≡ rows_of_modules ms ++ statement_rows s
rows_of_modules-with_statement s ms some = rows_of_modules-on_last (with_statement s) (statement_rows s) ms (last_statement s ms some)

port_rows : (p : Port) (m : ModuleTree) → m.statements ≡ [] → module_rows (with_port p m) ≡ module_rows m ++ port_row p ∷ []
port_rows p m none =
    let ports = map port_row m.ports in
    let left : map port_row (m.ports ++ p ∷ []) ++ rows_of_statements m.statements ≡ ports ++ port_row p ∷ [] =
    rw none (append-nil (map port_row (m.ports ++ p ∷ [])) ∙ map-append port_row m.ports (p ∷ [])) in
    let right : (ports ++ rows_of_statements m.statements) ++ port_row p ∷ [] ≡ ports ++ port_row p ∷ [] =
    rw none (ap (λ l. l ++ port_row p ∷ []) (append-nil ports)) in
    ap (λ l. numbered m.line (ModuleRow m.name) ∷ l) (left ∙ sym right)

last_port : (p : Port) (ms : List ModuleTree) → IsOpenToPorts ms → LastRows (with_port p) (port_row p ∷ []) ms
last_port p [] h = h
last_port p (m ∷ []) h = port_rows p m h
last_port p (m ∷ (n ∷ ms)) h = last_port p (n ∷ ms) h

-- the row of an added port comes after the rows of the modules so far
pub rows_of_modules-with_port : (p : Port) (ms : List ModuleTree) → IsOpenToPorts ms → rows_of_modules (on_last (with_port p) ms) ≡ rows_of_modules ms ++ port_row p ∷ []
rows_of_modules-with_port p ms h = rows_of_modules-on_last (with_port p) (port_row p ∷ []) ms (last_port p ms h)

-- after a port another port may follow
pub open-with_port : (p : Port) (ms : List ModuleTree) → IsOpenToPorts ms → IsOpenToPorts (on_last (with_port p) ms)
open-with_port p [] h = h
open-with_port p (m ∷ []) h = h
open-with_port p (m ∷ (n ∷ [])) h = h
open-with_port p (m ∷ (n ∷ (o ∷ ms))) h = open-with_port p (n ∷ (o ∷ ms)) h

-- ports may follow a new module, which has no statement
pub open-push : (ms : List ModuleTree) (m : ModuleTree) → m.statements ≡ [] → IsOpenToPorts (ms ++ m ∷ [])
open-push [] m h = h
open-push (x ∷ []) m h = h
open-push (x ∷ (y ∷ zs)) m h = open-push (y ∷ zs) m h

-- the rows of an added module come after the rows of the modules so far
pub rows_of_modules-push : (ms : List ModuleTree) (m : ModuleTree) → rows_of_modules (ms ++ m ∷ []) ≡ rows_of_modules ms ++ module_rows m
rows_of_modules-push [] m = append-nil (module_rows m)
rows_of_modules-push (x ∷ xs) m =
    ap (λ l. module_rows x ++ l) (rows_of_modules-push xs m) ∙ sym (append_assoc (module_rows x) (rows_of_modules xs) (module_rows m))

-- what a call writes back if it changes the last element or leaves it as it is
pub slice_set-if : {A : Type 0} (f : A → A) (ms : List A) (n : ℕ) (m new : A) (b : Bool) → suc n ≡ length ms → m ≡ get_or ms n m → new ≡ (if b then f m else m) → slice_set ms n new ≡ (if b then on_last f ms else ms)
slice_set-if f ms n m new true size is e = rw e (slice_set-on_last f ms n m size is)
slice_set-if f ms n m new false size is e = rw e (slice_set-same ms n m (omega arith) is)

-- the list of names is the same, whether the last module was changed or left as it is
pub names_of-if : (f : ModuleTree → ModuleTree) (ms new : List ModuleTree) (b : Bool) → ((m : ModuleTree) → (f m).name ≡ m.name) → new ≡ (if b then on_last f ms else ms) → names_of new ≡ names_of ms
names_of-if f ms new true keeps e = rw e (names_of-on_last f ms keeps)
names_of-if f ms new false keeps e = rw e refl

pub value-if : (f : ModuleTree → ModuleTree) (t : CircuitTree) (new : List ModuleTree) (b : Bool) → new ≡ (if b then on_last f t.modules else t.modules) → record t { modules = new } ≡ (if b then record t { modules = on_last f t.modules } else t)
value-if f t new true e = ap (λ l. record t { modules = l }) e
value-if f t new false e = ap (λ l. record t { modules = l }) e

-- if the last module was changed, its new rows come after the rows of the circuit so far
pub rows_of-if : (f : ModuleTree → ModuleTree) (more : List Numbered) (t : CircuitTree) (new : List ModuleTree) {E : Type 0} (r : Result (Unit {0}) E) → new ≡ (if is_ok r then on_last f t.modules else t.modules) → rows_of_modules (on_last f t.modules) ≡ rows_of_modules t.modules ++ more → OnOk r (rows_of (record t { modules = new }) ≡ rows_of t ++ more)
rows_of-if f more t new (Ok u) e more_is = ap (λ l. numbered t.line (CircuitRow t.name) ∷ rows_of_modules l) e ∙ ap (λ l. numbered t.line (CircuitRow t.name) ∷ l) more_is
rows_of-if f more t new (Err x) e more_is = tt

pub open-if : (p : Port) (ms new : List ModuleTree) (b : Bool) → new ≡ (if b then on_last (with_port p) ms else ms) → IsOpenToPorts ms → IsOpenToPorts new
open-if p ms new true e h = subst IsOpenToPorts (sym e) (open-with_port p ms h)
open-if p ms new false e h = subst IsOpenToPorts (sym e) h

-- a memory with one more field is still a memory
memory_stays : (field : Field) (kind : StmtKind) → IsMemory kind → IsMemory (with_field field kind)
memory_stays field (Memory name fields) h = tt
memory_stays field (Wire name ty) h = h
memory_stays field (Node name value) h = h
memory_stays field (Register name ty clock reset) h = h
memory_stays field (Instance name m) h = h
memory_stays field (Connect sink source) h = h
memory_stays field (Invalid sink) h = h
memory_stays field Skip h = h
memory_stays field (Stop clock condition code label) h = h
memory_stays field (Report word arguments label) h = h

-- fields may still follow after a field
pub fields-if : (field : Field) (ms new : List ModuleTree) (b : Bool) → new ≡ (if b then on_last (module_with_field field) ms else ms) → IsOpenToFields ms → IsOpenToFields new
fields-if field ms new true e h =
    subst IsOpenToFields (sym e) (ends-on_last EndsInMemory EndsInMemory (module_with_field field) ms
    (λ m. ends-on_last IsMemoryStatement IsMemoryStatement (statement_with_field field) m.statements (λ s. memory_stays field s.kind)) h)
fields-if field ms new false e h = subst IsOpenToFields (sym e) h

-- fields may follow after a memory
pub memory-if : (s : Stmt) (ms new : List ModuleTree) {E : Type 0} (r : Result (Unit {0}) E) → new ≡ (if is_ok r then on_last (with_statement s) ms else ms) → 0 < length ms → IsMemory s.kind → OnOk r (IsOpenToFields new)
memory-if s ms new (Ok u) e some h =
    subst IsOpenToFields (sym e) (ends-on_last (λ _. Unit {0}) EndsInMemory (with_statement s) ms (λ m _. ends-push IsMemoryStatement m.statements s h) (ends-any ms some))
memory-if s ms new (Err x) e some h = tt

kind-field : (field : Field) (line : ℕ) (kind : StmtKind) → IsMemory kind → kind_rows line (with_field field kind) ≡ kind_rows line kind ++ field_row field ∷ []
kind-field field line (Memory name fields) h = ap (λ l. numbered line (MemoryRow name) ∷ l) (map-append field_row fields (field ∷ []))
kind-field field line (Wire name ty) h = absurd h
kind-field field line (Node name value) h = absurd h
kind-field field line (Register name ty clock reset) h = absurd h
kind-field field line (Instance name m) h = absurd h
kind-field field line (Connect sink source) h = absurd h
kind-field field line (Invalid sink) h = absurd h
kind-field field line Skip h = absurd h
kind-field field line (Stop clock condition code label) h = absurd h
kind-field field line (Report word arguments label) h = absurd h

statements-field : (field : Field) (ss : List Stmt) → EndsIn IsMemoryStatement ss → rows_of_statements (on_last (statement_with_field field) ss) ≡ rows_of_statements ss ++ field_row field ∷ []
statements-field field [] h = absurd h
statements-field field (s ∷ []) h =
    append-nil (statement_rows (statement_with_field field s)) ∙ kind-field field s.line s.kind h
    ∙ ap (λ l. l ++ field_row field ∷ []) (sym (append-nil (statement_rows s)))
statements-field field (s ∷ (t ∷ ss)) h =
    ap (λ l. statement_rows s ++ l) (statements-field field (t ∷ ss) h)
    ∙ sym (append_assoc (statement_rows s) (rows_of_statements (t ∷ ss)) (field_row field ∷ []))

last_field : (field : Field) (ms : List ModuleTree) → IsOpenToFields ms → LastRows (module_with_field field) (field_row field ∷ []) ms
last_field field [] h = h
last_field field (m ∷ []) h =
    ap (λ l. numbered m.line (ModuleRow m.name) ∷ (map port_row m.ports ++ l)) (statements-field field m.statements h)
    ∙ ap (λ l. numbered m.line (ModuleRow m.name) ∷ l) (sym (append_assoc (map port_row m.ports) (rows_of_statements m.statements) (field_row field ∷ [])))
last_field field (m ∷ (n ∷ ms)) h = last_field field (n ∷ ms) h

-- the row of an added field comes after the rows of the modules so far
pub rows_of_modules-with_field : (field : Field) (ms : List ModuleTree) → IsOpenToFields ms → rows_of_modules (on_last (module_with_field field) ms) ≡ rows_of_modules ms ++ field_row field ∷ []
rows_of_modules-with_field field ms h = rows_of_modules-on_last (module_with_field field) (field_row field ∷ []) ms (last_field field ms h)

-- if the last statement gets a field or is left as it is, so does the module
pub module-if : (field : Field) (m : ModuleTree) (new : List Stmt) (b : Bool) → new ≡ (if b then on_last (statement_with_field field) m.statements else m.statements) → record m { statements = new } ≡ (if b then module_with_field field m else m)
module-if field m new true e = ap (λ l. record m { statements = l }) e
module-if field m new false e = ap (λ l. record m { statements = l }) e
