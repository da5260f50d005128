-- The instances that modules have of each other (FIRRTL Specification, "Instances": a module may not have an instance of itself, directly
-- or through others). Modules are identified by their places in the circuit, counted from 0.
pub use Rattle.gg_ast.specs.Tree.{module_at}
use Rattle.std.specs.Prelude.{ℕ, List, [], Contains, flat_map, option_to_list}
use Rattle.gg_ast.specs.Places.{place_of}
use Rattle.gg_ast.specs.declared.statement.Stmt.{Stmt}
use Rattle.gg_ast.specs.declared.statement.StmtKind as statements
use Rattle.gg_ast.specs.declared.statement.StmtKind.TheVariants as kinds
use Rattle.gg_ast.specs.Tree.{ModuleTree, names_of}

-- the place of the module that a statement makes an instance of
abbrev pub held_by_kind : List ModuleTree → statements.StmtKind → List ℕ
held_by_kind modules (kinds.Instance name of_module) = option_to_list (place_of of_module (names_of modules))
held_by_kind modules (kinds.Wire name ty) = []
held_by_kind modules (kinds.Node name value) = []
held_by_kind modules (kinds.Register name ty clock reset) = []
held_by_kind modules (kinds.Memory name fields) = []
held_by_kind modules (kinds.Connect sink source) = []
held_by_kind modules (kinds.Invalid sink) = []
held_by_kind modules kinds.Skip = []
held_by_kind modules (kinds.Stop clock condition code label) = []
held_by_kind modules (kinds.Report word arguments label) = []

-- `held_by_kind` for a statement with its line
abbrev pub held_by : List ModuleTree → Stmt → List ℕ
held_by modules s = held_by_kind modules s.kind

-- the module at the first place has an instance of the module at the second
abbrev pub Holds : List ModuleTree → ℕ → ℕ → Type 0
Holds modules k j = Contains (flat_map (held_by modules) (module_at modules k).statements) j
