-- More on Tree: what no promise of the program reaches.
use Rattle.std.specs.Prelude.{◌≡◌, ℕ, List, [], ◌∷◌, ◌++◌}
use Rattle.gg_ast.specs.declared.module.Port.{Port}
use Rattle.gg_ast.specs.declared.statement.Field.{Field}
use Rattle.gg_ast.specs.declared.statement.Stmt.{Stmt}
use Rattle.gg_ast.specs.declared.statement.StmtKind.{StmtKind}
use Rattle.gg_ast.specs.declared.statement.StmtKind.TheVariants.{Memory}
use Rattle.gg_ast.specs.Tree.{CircuitTree, ModuleTree}

-- a circuit without modules
abbrev pub empty_circuit : ℕ → List ℕ → CircuitTree
empty_circuit line name = record { line = line; name = name; modules = [] }

-- a module with one more port
abbrev pub with_port : Port → ModuleTree → ModuleTree
with_port port m = record m { ports = m.ports ++ port ∷ [] }

-- a module with one more statement
abbrev pub with_statement : Stmt → ModuleTree → ModuleTree
with_statement statement m = record m { statements = m.statements ++ statement ∷ [] }

-- the list, with the last element changed
abbrev pub on_last : {A : Type 0} → (A → A) → List A → List A
on_last f [] = []
on_last f (m ∷ []) = f m ∷ []
on_last f (m ∷ (n ∷ ms)) = m ∷ on_last f (n ∷ ms)

-- this holds of the last element of the list, and there is one
abbrev pub EndsIn : {A : Type 0} → (A → Type 0) → List A → Type 0
EndsIn P [] = ⊥
EndsIn P (m ∷ []) = P m
EndsIn P (m ∷ (n ∷ ms)) = EndsIn P (n ∷ ms)

-- a memory with one more field; any other statement as it is
abbrev pub with_field : Field → StmtKind → StmtKind
with_field field (Memory name fields) = Memory name (fields ++ field ∷ [])
with_field field other = other

-- the statement with one more field of its memory; a statement of another kind as it was
abbrev pub statement_with_field : Field → Stmt → Stmt
statement_with_field field s = record s { kind = with_field field s.kind }

-- a module with one more field of its last statement
abbrev pub module_with_field : Field → ModuleTree → ModuleTree
module_with_field field m = record m { statements = on_last (statement_with_field field) m.statements }

-- a statement of this kind declares a memory
abbrev pub IsMemory : StmtKind → Type 0
IsMemory (Memory name fields) = Unit {0}
IsMemory other = ⊥

-- the statement declares a memory
abbrev pub IsMemoryStatement : Stmt → Type 0
IsMemoryStatement s = IsMemory s.kind

-- the module has statements, and the last of them declares a memory
abbrev pub EndsInMemory : ModuleTree → Type 0
EndsInMemory m = EndsIn IsMemoryStatement m.statements

-- a circuit with one more module
abbrev pub add_module : CircuitTree → ModuleTree → CircuitTree
add_module circuit m = record circuit { modules = circuit.modules ++ m ∷ [] }

-- a circuit with one more port of its last module
abbrev pub add_port : CircuitTree → Port → CircuitTree
add_port circuit port = record circuit { modules = on_last (with_port port) circuit.modules }

-- a circuit with one more statement of its last module
abbrev pub add_statement : CircuitTree → Stmt → CircuitTree
add_statement circuit statement = record circuit { modules = on_last (with_statement statement) circuit.modules }

-- a circuit with one more field of its last statement
abbrev pub add_field : CircuitTree → Field → CircuitTree
add_field circuit field = record circuit { modules = on_last (module_with_field field) circuit.modules }

-- the last statement of the last module is a memory, so a field may follow
abbrev pub IsOpenToFields : List ModuleTree → Type 0
IsOpenToFields modules = EndsIn EndsInMemory modules

-- the last module has no statements yet, so a port may follow
abbrev pub IsOpenToPorts : List ModuleTree → Type 0
IsOpenToPorts [] = ⊥
IsOpenToPorts (m ∷ []) = m.statements ≡ []
IsOpenToPorts (m ∷ (n ∷ ms)) = IsOpenToPorts (n ∷ ms)
