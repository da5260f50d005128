-- More on Counts: what no promise of the program reaches.
-- Source: FIRRTL Specification, "Instances", "Memories" (depth). The limits are this program's. A count saturates at
-- 2^64 - 1.
use Rattle.std.specs.Prelude.{ℕ, suc, ◌-◌, ◌^◌, List, [], ◌∷◌, Option, None, length, nat_lt, is_some, if◌then◌else◌}
use Rattle.gg_ast.specs.declared.statement.Stmt.{Stmt}
use Rattle.gg_ast.specs.Tree.{ModuleTree}
use Rattle.gg_elab_sites.specs.Sites.{module_at}
use Rattle.gg_elab_sites.specs.Counts.{deep_in}

-- ---- which module has the first memory that is too deep

-- the place of a module if it has a memory that is too deep, otherwise a number that isn't a place
abbrev pub deep_place : ℕ → List Stmt → ℕ
deep_place k statements = if is_some (deep_in statements) then k else 2 ^ 64 - 1

-- `deep_place` for each of these modules; the first is at place k
abbrev pub deep_places : ℕ → List ModuleTree → List ℕ
deep_places k [] = []
deep_places k (m ∷ ms) = deep_place k m.statements ∷ deep_places (suc k) ms

-- the depth of the first memory that is too deep in the module at a place; none past the end
abbrev pub deep_at : List ModuleTree → ℕ → Option ℕ
deep_at modules k = if nat_lt k (length modules) then deep_in (module_at modules k).statements else None
