-- How a table grows by what a statement declares.
-- Source: FIRRTL Specification, "Namespaces".
use Rattle.std.specs.Prelude.{◌≡◌, ℕ, List, [], ◌∷◌, ◌++◌}
use Rattle.gg_ast.specs.Places.{place_of}
use Rattle.gg_ast.specs.declared.statement.Field.{Field}
use Rattle.gg_ast.specs.declared.statement.StmtKind as statements
use Rattle.gg_ast.specs.declared.statement.StmtKind.TheVariants as kinds
use Rattle.gg_ast.specs.Tree.{ModuleTree, names_of}
use Rattle.gg_shape_names.specs.declared.role.Role.TheVariants as roles
use Rattle.gg_shape_names.specs.declared.table.Declared.{Declared}
use Rattle.gg_shape_names.specs.declared.table.Declared.TheVariants.{Plain, Instance, Memory}
use Rattle.gg_shape_names.specs.inside.Tables.{HavePorts}

-- the table has one more entry, for this name, and is otherwise the same
abbrev pub Declares : List ℕ → Declared → List (List ℕ × Declared) → List (List ℕ × Declared) → Type 0
Declares name declared old new = new ≡ old ++ (name, declared) ∷ []

-- the table has one more entry: this name, as a memory with the readers and the writers that the fields name
pub record DeclaresMemory (name : List ℕ) (fields : List Field) (old new : List (List ℕ × Declared)) : Type 0 where
  pub readers : List (List ℕ)
  pub writers : List (List ℕ)
  pub ports : HavePorts fields readers writers
  pub declares : Declares name (Memory readers writers) old new

-- What a statement adds to the table: a wire, a node, a register, an instance and a memory their own name, any other statement nothing. An
-- instance of a module that isn't among these has no place with it.
abbrev pub DeclaresBy : List ModuleTree → statements.StmtKind → List (List ℕ × Declared) → List (List ℕ × Declared) → Type 0
DeclaresBy modules (kinds.Wire name ty) old new = Declares name (Plain roles.Wire) old new
DeclaresBy modules (kinds.Node name value) old new = Declares name (Plain roles.Node) old new
DeclaresBy modules (kinds.Register name ty clock reset) old new = Declares name (Plain roles.Register) old new
DeclaresBy modules (kinds.Instance name of_module) old new = Declares name (Instance (place_of of_module (names_of modules))) old new
DeclaresBy modules (kinds.Memory name fields) old new = DeclaresMemory name fields old new
DeclaresBy modules (kinds.Connect sink source) old new = new ≡ old
DeclaresBy modules (kinds.Invalid sink) old new = new ≡ old
DeclaresBy modules kinds.Skip old new = new ≡ old
DeclaresBy modules (kinds.Stop clock condition code label) old new = new ≡ old
DeclaresBy modules (kinds.Report word arguments label) old new = new ≡ old
