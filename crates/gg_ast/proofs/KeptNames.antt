-- If each name in a circuit is a name, this stays so when a port, a statement or a field is added.
use Rattle.std.proofs.Common.{Bool, true, false, ◌≡◌, List, [], ◌∷◌, if◌then◌else◌, sym, subst}
use Rattle.std.specs.List.{All}
use Rattle.std.proofs.lemmas.List.Elements.{All-nil, All-cons, All-head, All-tail, All-push}
use Rattle.gg_ast.specs.declared.module.Port.{Port}
use Rattle.gg_ast.specs.declared.statement.Field.{Field}
use Rattle.gg_ast.specs.declared.statement.Stmt.{Stmt}
use Rattle.gg_ast.specs.declared.statement.StmtKind.{StmtKind}
use Rattle.gg_ast.specs.declared.statement.StmtKind.TheVariants.{Wire, Node, Register, Instance, Memory, Connect, Invalid, Skip, Stop, Report}
use Rattle.gg_ast.specs.inside.Names.{IsPortNamed, AreNamesOfField, AreNamesOfKind, AreNamesOfStatement, AreNamesOfModule, AreNamesOfCircuit}
use Rattle.gg_ast.specs.Tree.{ModuleTree, CircuitTree}
use Rattle.gg_ast.specs.inside.Tree.{on_last, with_port, with_statement, with_field, statement_with_field, module_with_field}

pub named-port : (port : Port) → IsPortNamed port → (m : ModuleTree) → AreNamesOfModule m → AreNamesOfModule (with_port port m)
named-port port h m names = record {
  own = names.own;
  of_ports = All-push IsPortNamed m.ports port names.of_ports h;
  of_statements = names.of_statements;
}

pub named-statement : (s : Stmt) → AreNamesOfStatement s → (m : ModuleTree) → AreNamesOfModule m → AreNamesOfModule (with_statement s m)
named-statement s h m names = record {
  own = names.own;
  of_ports = names.of_ports;
  of_statements = All-push AreNamesOfStatement m.statements s names.of_statements h;
}

-- if all elements have a property that the change keeps, they have it after the last of them is changed
all-on_last : {A : Type 0} (P : A → Type 0) (f : A → A) (ms : List A) → ((m : A) → P m → P (f m)) → All P ms → All P (on_last f ms)
all-on_last P f [] keeps all = all
all-on_last P f (x ∷ []) keeps all = All-cons P (f x) [] (keeps x (All-head P x [] all)) (All-nil P)
all-on_last P f (x ∷ (y ∷ zs)) keeps all =
    All-cons P x (on_last f (y ∷ zs)) (All-head P x (y ∷ zs) all) (all-on_last P f (y ∷ zs) keeps (All-tail P x (y ∷ zs) all))

-- each name in the circuit stays a name, whether the last module is changed or left as it is
pub named-if : (f : ModuleTree → ModuleTree) (t : CircuitTree) (new : List ModuleTree) (b : Bool) → ((m : ModuleTree) → AreNamesOfModule m → AreNamesOfModule (f m)) → new ≡ (if b then on_last f t.modules else t.modules) → AreNamesOfCircuit t → AreNamesOfCircuit (record t { modules = new })
named-if f t new true keeps e names = record {
  own = names.own;
  of_modules = subst (All AreNamesOfModule) (sym e) (all-on_last AreNamesOfModule f t.modules keeps names.of_modules);
}
named-if f t new false keeps e names = record { own = names.own; of_modules = subst (All AreNamesOfModule) (sym e) names.of_modules }

named-kind : (field : Field) (kind : StmtKind) → AreNamesOfField field → AreNamesOfKind kind → AreNamesOfKind (with_field field kind)
named-kind field (Memory name fields) h names = (names.0, All-push AreNamesOfField fields field names.1 h)
named-kind field (Wire name ty) h names = names
named-kind field (Node name value) h names = names
named-kind field (Register name ty clock reset) h names = names
named-kind field (Instance name m) h names = names
named-kind field (Connect sink source) h names = names
named-kind field (Invalid sink) h names = names
named-kind field Skip h names = names
named-kind field (Stop clock condition code label) h names = names
named-kind field (Report word arguments label) h names = names

pub named-field : (field : Field) → AreNamesOfField field → (m : ModuleTree) → AreNamesOfModule m → AreNamesOfModule (module_with_field field m)
named-field field h m names = record {
  own = names.own;
  of_ports = names.of_ports;
  of_statements = all-on_last AreNamesOfStatement (statement_with_field field) m.statements (λ s. named-kind field s.kind h) names.of_statements;
}
