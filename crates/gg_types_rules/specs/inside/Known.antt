-- What is known of the names of a module while its statements are read one after another.
use Rattle.std.specs.Prelude.{ℕ, Bool, List, Option}
use Rattle.gg_ast.specs.declared.expression.Reference.{Reference}
use Rattle.gg_ast.specs.Tree.{ModuleTree}
use Rattle.gg_shape_names.specs.declared.role.Role.{Role}
use Rattle.gg_shape_names.specs.Modules.{module_at}
use Rattle.gg_shape_names.specs.inside.Namespace.{names_in}
use Rattle.gg_shape_names.specs.Namespace.{scope_of}
use Rattle.gg_types.specs.declared.sort.Own.{Own}
use Rattle.gg_types_rules.specs.declared.known.Known.{Known}
use Rattle.gg_types.specs.inside.Named.{owned, flagged}

-- the module, its declared names, and the roles of all that can be written in it
abbrev pub module_seen : Known → ModuleTree
module_seen k = module_at k.names.now.modules k.number

-- the names that the module declares, in the order of the file
abbrev pub names_seen : Known → List (List ℕ)
names_seen k = names_in (module_seen k)

-- all that can be written in the module, each with its role
abbrev pub roles_seen : Known → List (Reference × Role)
roles_seen k = scope_of k.names.now.modules (module_seen k)

-- which names lead to an input port
abbrev pub traced_seen : Known → List ℕ → Bool
traced_seen k = flagged (names_seen k) k.traced.items

-- the type data of the names that are declared so far
abbrev pub owned_seen : Known → List (List ℕ × Option Own)
owned_seen k = owned (names_seen k) k.own.items
