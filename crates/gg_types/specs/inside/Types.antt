-- More on Types: what no promise of the program reaches.
-- Sources: FIRRTL Specification, "Ground Types" (F10), "Primitive Operations" (F9 to F11), "Expressions" (F12), "Connects",
-- "Registers", "Memories" (F9, F13), "Clock Type" (F14).
use Rattle.std.specs.Prelude.{List, Option}
use Rattle.gg_ast.specs.Term.{Term}
use Rattle.gg_ast.specs.Tree.{ModuleTree}
use Rattle.gg_shape_names.specs.Namespace.{scope_of}
use Rattle.gg_types.specs.Clocks.{leads_to_input}
use Rattle.gg_types.specs.declared.sort.Sort.{Sort}
use Rattle.gg_types.specs.Types.{known_in, sort_in}

-- ---- types of a whole module

-- the type of an expression in a module
abbrev pub sort_within : List ModuleTree → ModuleTree → Term → Option Sort
sort_within modules m e = sort_in (scope_of modules m) (leads_to_input m) (known_in modules m) e
