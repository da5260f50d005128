-- More on Namespace: what no promise of the program reaches.
use Rattle.std.specs.Prelude.{◌≡◌, ℕ, List, Option, length, take}
use Rattle.gg_ast.specs.declared.expression.Reference.{Reference}
use Rattle.gg_ast.specs.declared.statement.StmtKind as statements
use Rattle.gg_ast.specs.Tree.{ModuleTree}
use Rattle.gg_shape_names.specs.declared.role.Role.{Role}
use Rattle.gg_shape_names.specs.Namespace.{meaning_of, names_after, scope_after}

-- ---- declared names only

-- all names that a module declares, in the order of the file
abbrev pub names_in : ModuleTree → List (List ℕ)
names_in m = names_after m.ports m.statements

-- What a reference names where only the first `count` names of a module are declared.
abbrev pub IsMeaningBefore : (modules : List ModuleTree) (m : ModuleTree) (count : ℕ) (reference : Reference) → Option Role → Type 0
IsMeaningBefore modules m count reference role =
    -- The ports and the first n statements declare these names.
    (n : ℕ) → count ≡ length (names_after m.ports (take n m.statements))
    -- The role is what the reference names in the scope after these statements.
    → role ≡ meaning_of (scope_after modules m.ports (take n m.statements)) reference
