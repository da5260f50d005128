-- After each row that is valid at a position there is a next stage, whose circuit has that row too.
use Rattle.std.proofs.Common.{◌≡◌, ℕ, ◌+◌, ◌<◌, List, [], ◌∷◌, ◌++◌, length, true, Some, None, Ok, refl, sym, ap, ◌∙◌, arith, length-append}
use Rattle.std.proofs.lemmas.Option.{same_Some}
use Rattle.gg_ast.specs.declared.module.Port.{Port}
use Rattle.gg_ast.specs.declared.statement.Field.{Field}
use Rattle.gg_ast.specs.declared.statement.Reset.{Reset}
use Rattle.gg_ast.specs.declared.statement.Stmt.{Stmt}
use Rattle.gg_ast.specs.declared.statement.StmtKind.{StmtKind}
use Rattle.gg_ast.specs.declared.statement.StmtKind.TheVariants as statement
use Rattle.gg_ast.specs.Row.{Row, Numbered, numbered, VersionRow, CircuitRow, ModuleRow, PortRow, WireRow, NodeRow, RegisterRow, RegisterResetRow, RegisterOpenRow, ResetRow, InstanceRow, MemoryRow, FieldRow, ConnectRow, InvalidRow, SkipRow, StopRow, ReportRow}
use Rattle.gg_ast.specs.Rows.{rows_of, kind_rows, statement_rows, port_row, field_row}
use Rattle.gg_ast.specs.Tree.{CircuitTree, empty_module}
use Rattle.gg_ast.specs.inside.Tree.{IsOpenToPorts, IsOpenToFields, empty_circuit, add_module, add_port, add_statement, add_field, on_last, with_statement, with_port, module_with_field}
use Rattle.gg_ast.proofs.LastModule.{length-on_last, rows_of_modules-push, rows_of_modules-with_statement, rows_of_modules-with_port, rows_of_modules-with_field, open-with_port, open-push, fields-if, memory-if}
use Rattle.gg_read.specs.declared.stage.OpenRegister.{OpenRegister}
use Rattle.gg_read.specs.declared.stage.Stage.{Stage}
use Rattle.gg_read.specs.declared.stage.Stage.TheVariants.{Start, Version, Header, Ports, Statements, Fields, Open}
use Rattle.gg_read.specs.inside.Stages.{stage_place, open_row, IsBuilt, Holds}
use Rattle.gg_read.specs.Text.{LinePlace, AfterVersion, AfterCircuit, InPorts, InStatements, InFields, AwaitsReset, place_after, after_statement, after_open, after_memory, after_module}
use Rattle.gg_read.proofs.Builds.{rows_more, version_first, header_next, nothing_first, inline_rows, rows_closed}

-- what holds of a stage before line n, apart from what is said of names
abbrev pub GoesOn : Stage → ℕ → Type 0
GoesOn Start n = Unit {0}
GoesOn Version n = Unit {0}
GoesOn (Header c) n = Unit {0}
GoesOn (Ports c) n = (0 < length c.modules) × IsOpenToPorts c.modules
GoesOn (Statements c) n = 0 < length c.modules
GoesOn (Fields c) n = (0 < length c.modules) × IsOpenToFields c.modules
GoesOn (Open c register) n = (0 < length c.modules) × (register.line < n)

pub goes_later : (stage : Stage) (n : ℕ) → GoesOn stage n → GoesOn stage (n + 1)
goes_later Start n goes = tt
goes_later Version n goes = tt
goes_later (Header c) n goes = tt
goes_later (Ports c) n goes = goes
goes_later (Statements c) n goes = goes
goes_later (Fields c) n goes = goes
goes_later (Open c register) n goes = (goes.0, omega (arith, goes.1))

-- the stage after a row on line n
pub record NextStage (stage : Stage) (n : ℕ) (row : Row) (place : LinePlace) : Type 0 where
  pub next : Stage
  pub there : stage_place next ≡ place
  pub goes : GoesOn next (n + 1)
  pub built : (before : List Numbered) → IsBuilt stage before → IsBuilt next (before ++ numbered n row ∷ [])

-- the rows of a statement come after those of the circuit to which it is added
grown : (c : CircuitTree) (s : Stmt) (rows : List Numbered) → 0 < length c.modules → statement_rows s ≡ rows → rows_of c ++ rows ≡ rows_of (add_statement c s)
grown c s rows some same =
    ap (λ (l : List Numbered). rows_of c ++ l) (sym same)
    ∙ sym (ap (λ (l : List Numbered). numbered c.line (CircuitRow c.name) ∷ l) (rows_of_modules-with_statement s c.modules some))

some_left : (c : CircuitTree) (s : Stmt) → 0 < length c.modules → 0 < length (add_statement c s).modules
some_left c s some = omega (arith, some, length-on_last (with_statement s) c.modules)

-- a stage whose circuit may get a statement
record HasBody (stage : Stage) : Type 0 where
  circuit : CircuitTree
  some : 0 < length circuit.modules
  holds : Holds stage circuit
  to_statements : after_statement (stage_place stage) ≡ Some InStatements
  to_open : after_open (stage_place stage) ≡ Some AwaitsReset
  to_fields : after_memory (stage_place stage) ≡ Some InFields

body : (stage : Stage) (n : ℕ) (place : LinePlace) → GoesOn stage n → after_statement (stage_place stage) ≡ Some place → HasBody stage
body Start n place goes there = absurd (cc)
body Version n place goes there = absurd (cc)
body (Header c) n place goes there = absurd (cc)
body (Ports c) n place goes there = record { circuit = c; some = goes.0; holds = λ before b. b; to_statements = refl; to_open = refl; to_fields = refl }
body (Statements c) n place goes there = record { circuit = c; some = goes; holds = λ before b. b; to_statements = refl; to_open = refl; to_fields = refl }
body (Fields c) n place goes there = record { circuit = c; some = goes.0; holds = λ before b. b; to_statements = refl; to_open = refl; to_fields = refl }
body (Open c register) n place goes there = absurd (cc)

-- a statement may come wherever a register of two lines or a memory may
opens-statement : (stage : Stage) (place : LinePlace) → after_open (stage_place stage) ≡ Some place → after_statement (stage_place stage) ≡ Some InStatements
opens-statement Start place there = absurd (cc)
opens-statement Version place there = absurd (cc)
opens-statement (Header c) place there = absurd (cc)
opens-statement (Ports c) place there = refl
opens-statement (Statements c) place there = refl
opens-statement (Fields c) place there = refl
opens-statement (Open c register) place there = absurd (cc)

memory-statement : (stage : Stage) (place : LinePlace) → after_memory (stage_place stage) ≡ Some place → after_statement (stage_place stage) ≡ Some InStatements
memory-statement Start place there = absurd (cc)
memory-statement Version place there = absurd (cc)
memory-statement (Header c) place there = absurd (cc)
memory-statement (Ports c) place there = refl
memory-statement (Statements c) place there = refl
memory-statement (Fields c) place there = refl
memory-statement (Open c register) place there = absurd (cc)

statement-next : (stage : Stage) (n : ℕ) (row : Row) (place : LinePlace) (kind : StmtKind) → kind_rows n kind ≡ numbered n row ∷ [] → GoesOn stage n → after_statement (stage_place stage) ≡ Some place → NextStage stage n row place
statement-next stage n row place kind same goes there =
    let has = body stage n place goes there in
    let s : Stmt = record { line = n; kind = kind } in
    record {
      next = Statements (add_statement has.circuit s);
      there = same_Some InStatements place (sym has.to_statements ∙ there);
      goes = some_left has.circuit s has.some;
      built = λ before b. rows_more has.circuit before (numbered n row ∷ []) (has.holds before b) ∙ grown has.circuit s (numbered n row ∷ []) has.some same;
    }

open-next : (stage : Stage) (n : ℕ) (register : OpenRegister) (row : Row) (place : LinePlace) → register.line ≡ n → open_row register ≡ numbered n row → GoesOn stage n → after_open (stage_place stage) ≡ Some place → NextStage stage n row place
open-next stage n register row place at same goes there =
    let has = body stage n InStatements goes (opens-statement stage place there) in
    record {
      next = Open has.circuit register;
      there = same_Some AwaitsReset place (sym has.to_open ∙ there);
      goes = (has.some, omega (arith, at));
      built = λ before b. rows_more has.circuit before (numbered n row ∷ []) (has.holds before b) ∙ ap (λ (r : Numbered). rows_of has.circuit ++ r ∷ []) (sym same);
    }

memory-next : (stage : Stage) (n : ℕ) (name : List ℕ) (place : LinePlace) → GoesOn stage n → after_memory (stage_place stage) ≡ Some place → NextStage stage n (MemoryRow name) place
memory-next stage n name place goes there =
    let has = body stage n InStatements goes (memory-statement stage place there) in
    let s : Stmt = record { line = n; kind = statement.Memory name [] } in
    let open_ : IsOpenToFields (on_last (with_statement s) has.circuit.modules) = memory-if s has.circuit.modules (on_last (with_statement s) has.circuit.modules) {E = Unit {0}} (Ok tt) refl has.some tt in
    record {
      next = Fields (add_statement has.circuit s);
      there = same_Some InFields place (sym has.to_fields ∙ there);
      goes = (some_left has.circuit s has.some, open_);
      built = λ before b. rows_more has.circuit before (numbered n (MemoryRow name) ∷ []) (has.holds before b) ∙ grown has.circuit s (numbered n (MemoryRow name) ∷ []) has.some refl;
    }

module-on : (stage : Stage) (c : CircuitTree) (n : ℕ) (name : List ℕ) (place : LinePlace) → Holds stage c → InPorts ≡ place → NextStage stage n (ModuleRow name) place
module-on stage c n name place holds there =
    let size : length (c.modules ++ empty_module n name ∷ []) ≡ length c.modules + 1 = length-append c.modules (empty_module n name ∷ []) in
    record {
      next = Ports (add_module c (empty_module n name));
      there = there;
      goes = (omega (arith, size), open-push c.modules (empty_module n name) refl);
      built = λ before b. rows_more c before (numbered n (ModuleRow name) ∷ []) (holds before b)
          ∙ sym (ap (λ (l : List Numbered). numbered c.line (CircuitRow c.name) ∷ l) (rows_of_modules-push c.modules (empty_module n name)));
    }

module-next : (stage : Stage) (n : ℕ) (name : List ℕ) (place : LinePlace) → after_module (stage_place stage) ≡ Some place → NextStage stage n (ModuleRow name) place
module-next Start n name place there = absurd (cc)
module-next Version n name place there = absurd (cc)
module-next (Header c) n name place there = module-on (Header c) c n name place (λ before b. b) (same_Some InPorts place there)
module-next (Ports c) n name place there = module-on (Ports c) c n name place (λ before b. b) (same_Some InPorts place there)
module-next (Statements c) n name place there = module-on (Statements c) c n name place (λ before b. b) (same_Some InPorts place there)
module-next (Fields c) n name place there = module-on (Fields c) c n name place (λ before b. b) (same_Some InPorts place there)
module-next (Open c register) n name place there = absurd (cc)

port-next : (stage : Stage) (port : Port) (place : LinePlace) → GoesOn stage port.line → place_after (stage_place stage) (PortRow port.direction port.name port.ty) ≡ Some place → NextStage stage port.line (PortRow port.direction port.name port.ty) place
port-next Start port place goes there = absurd (cc)
port-next Version port place goes there = absurd (cc)
port-next (Header c) port place goes there = absurd (cc)
port-next (Ports c) port place goes there =
    record {
      next = Ports (add_port c port);
      there = same_Some InPorts place there;
      goes = (omega (arith, goes.0, length-on_last (with_port port) c.modules), open-with_port port c.modules goes.1);
      built = λ before b. rows_more c before (port_row port ∷ []) b
          ∙ sym (ap (λ (l : List Numbered). numbered c.line (CircuitRow c.name) ∷ l) (rows_of_modules-with_port port c.modules goes.1));
    }
port-next (Statements c) port place goes there = absurd (cc)
port-next (Fields c) port place goes there = absurd (cc)
port-next (Open c register) port place goes there = absurd (cc)

field-next : (stage : Stage) (field : Field) (place : LinePlace) → GoesOn stage field.line → place_after (stage_place stage) (FieldRow field.kind) ≡ Some place → NextStage stage field.line (FieldRow field.kind) place
field-next Start field place goes there = absurd (cc)
field-next Version field place goes there = absurd (cc)
field-next (Header c) field place goes there = absurd (cc)
field-next (Ports c) field place goes there = absurd (cc)
field-next (Statements c) field place goes there = absurd (cc)
field-next (Fields c) field place goes there =
    record {
      next = Fields (add_field c field);
      there = same_Some InFields place there;
      goes = (omega (arith, goes.0, length-on_last (module_with_field field) c.modules), fields-if field c.modules (on_last (module_with_field field) c.modules) true refl goes.1);
      built = λ before b. rows_more c before (field_row field ∷ []) b
          ∙ sym (ap (λ (l : List Numbered). numbered c.line (CircuitRow c.name) ∷ l) (rows_of_modules-with_field field c.modules goes.1));
    }
field-next (Open c register) field place goes there = absurd (cc)

closed : CircuitTree → OpenRegister → Reset → CircuitTree
closed c r reset = add_statement c (record { line = r.line; kind = statement.Register r.name r.ty r.clock (Some reset) })

reset-next : (stage : Stage) (reset : Reset) (place : LinePlace) → GoesOn stage reset.line → place_after (stage_place stage) (ResetRow reset.condition reset.init) ≡ Some place → NextStage stage reset.line (ResetRow reset.condition reset.init) place
unfolding closed
reset-next Start reset place goes there = absurd (cc)
reset-next Version reset place goes there = absurd (cc)
reset-next (Header c) reset place goes there = absurd (cc)
reset-next (Ports c) reset place goes there = absurd (cc)
reset-next (Statements c) reset place goes there = absurd (cc)
reset-next (Fields c) reset place goes there = absurd (cc)
reset-next (Open c r) reset place goes there =
    let s : Stmt = record { line = r.line; kind = statement.Register r.name r.ty r.clock (Some reset) } in
    record {
      next = Statements (closed c r reset);
      there = same_Some InStatements place there;
      goes = some_left c s goes.0;
      built = λ before b. rows_closed c (closed c r reset) r reset before goes.1 (sym (grown c s (statement_rows s) goes.0 refl)) b;
    }

version-next : (stage : Stage) (n x y z : ℕ) (place : LinePlace) → place_after (stage_place stage) (VersionRow x y z) ≡ Some place → NextStage stage n (VersionRow x y z) place
version-next Start n x y z place there = record { next = Version; there = same_Some AfterVersion place there; goes = tt; built = λ before b. version_first before n x y z b }
version-next Version n x y z place there = absurd (cc)
version-next (Header c) n x y z place there = absurd (cc)
version-next (Ports c) n x y z place there = absurd (cc)
version-next (Statements c) n x y z place there = absurd (cc)
version-next (Fields c) n x y z place there = absurd (cc)
version-next (Open c register) n x y z place there = absurd (cc)

circuit-next : (stage : Stage) (n : ℕ) (name : List ℕ) (place : LinePlace) → place_after (stage_place stage) (CircuitRow name) ≡ Some place → NextStage stage n (CircuitRow name) place
circuit-next Start n name place there =
    record { next = Header (empty_circuit n name); there = same_Some AfterCircuit place there; goes = tt; built = λ before b. header_next before n name (nothing_first before b) }
circuit-next Version n name place there = record { next = Header (empty_circuit n name); there = same_Some AfterCircuit place there; goes = tt; built = λ before b. header_next before n name b }
circuit-next (Header c) n name place there = absurd (cc)
circuit-next (Ports c) n name place there = absurd (cc)
circuit-next (Statements c) n name place there = absurd (cc)
circuit-next (Fields c) n name place there = absurd (cc)
circuit-next (Open c register) n name place there = absurd (cc)

-- the next stage for each row that is valid at the position
pub next-stage : (stage : Stage) (n : ℕ) (row : Row) (place : LinePlace) → GoesOn stage n → place_after (stage_place stage) row ≡ Some place → NextStage stage n row place
next-stage stage n (VersionRow x y z) place goes there = version-next stage n x y z place there
next-stage stage n (CircuitRow name) place goes there = circuit-next stage n name place there
next-stage stage n (ModuleRow name) place goes there = module-next stage n name place there
next-stage stage n (PortRow direction name ty) place goes there = port-next stage (record { line = n; name = name; direction = direction; ty = ty }) place goes there
next-stage stage n (WireRow name ty) place goes there = statement-next stage n (WireRow name ty) place (statement.Wire name ty) refl goes there
next-stage stage n (NodeRow name value) place goes there = statement-next stage n (NodeRow name value) place (statement.Node name value) refl goes there
next-stage stage n (RegisterRow name ty clock) place goes there = statement-next stage n (RegisterRow name ty clock) place (statement.Register name ty clock None) refl goes there
next-stage stage n (RegisterResetRow name ty clock condition init) place goes there =
    let reset : Reset = record { line = n; condition = condition; init = init } in
    statement-next stage n (RegisterResetRow name ty clock condition init) place (statement.Register name ty clock (Some reset)) (inline_rows n name ty clock reset refl) goes there
next-stage stage n (RegisterOpenRow name ty clock) place goes there =
    open-next stage n (record { line = n; name = name; ty = ty; clock = clock }) (RegisterOpenRow name ty clock) place refl refl goes there
next-stage stage n (ResetRow condition init) place goes there = reset-next stage (record { line = n; condition = condition; init = init }) place goes there
next-stage stage n (InstanceRow name m) place goes there = statement-next stage n (InstanceRow name m) place (statement.Instance name m) refl goes there
next-stage stage n (MemoryRow name) place goes there = memory-next stage n name place goes there
next-stage stage n (FieldRow field) place goes there = field-next stage (record { line = n; kind = field }) place goes there
next-stage stage n (ConnectRow sink source) place goes there = statement-next stage n (ConnectRow sink source) place (statement.Connect sink source) refl goes there
next-stage stage n (InvalidRow sink) place goes there = statement-next stage n (InvalidRow sink) place (statement.Invalid sink) refl goes there
next-stage stage n SkipRow place goes there = statement-next stage n SkipRow place statement.Skip refl goes there
next-stage stage n (StopRow clock condition code label) place goes there =
    statement-next stage n (StopRow clock condition code label) place (statement.Stop clock condition code label) refl goes there
next-stage stage n (ReportRow word arguments label) place goes there =
    statement-next stage n (ReportRow word arguments label) place (statement.Report word arguments label) refl goes there
