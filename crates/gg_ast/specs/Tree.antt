-- What a contract sees of a circuit: a record of plain lists, in the order of the file (FIRRTL Specification,
-- "Circuits and Modules").
use Rattle.std.specs.Prelude.{ℕ, List, [], map, slice_index_or}
use Rattle.gg_ast.specs.declared.module.Port.{Port}
use Rattle.gg_ast.specs.declared.statement.Stmt.{Stmt}

-- a module: the line of its header, its name, its ports and its statements
pub record ModuleTree : Type 0 where
  pub line : ℕ
  pub name : List ℕ
  pub ports : List Port
  pub statements : List Stmt

-- a circuit: the line of its header, its name and its modules
pub record CircuitTree : Type 0 where
  pub line : ℕ
  pub name : List ℕ
  pub modules : List ModuleTree

-- a module without ports and statements
abbrev pub empty_module : ℕ → List ℕ → ModuleTree
empty_module line name = record { line = line; name = name; ports = []; statements = [] }

-- the module at a place of the file; past the end, an empty module without a name
abbrev pub module_at : List ModuleTree → ℕ → ModuleTree
module_at modules k = slice_index_or modules k (empty_module 0 [])

-- the modules' names, in the order of the file
abbrev pub names_of : List ModuleTree → List (List ℕ)
names_of modules = map (λ m. m.name) modules

-- the names of a circuit's modules, in order
abbrev pub module_names : CircuitTree → List (List ℕ)
module_names circuit = names_of circuit.modules
