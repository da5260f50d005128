-- What `types` returns: a circuit without faults, with an order of its modules.
-- Sources: FIRRTL Specification, "Ground Types", "Instances".
use Rattle.std.specs.Prelude.{◌≡◌, ℕ, ◌<◌, List, [], Option, length, slice_index_or}
use Rattle.gg_bits.specs.Shape.{shape}
use Rattle.gg_ast.specs.Places.{place_of}
use Rattle.gg_ast.specs.Tree.{CircuitTree, ModuleTree}
use Rattle.gg_shape_names.specs.Modules.{module_at, Holds}
use Rattle.gg_shape_names.specs.inside.Namespace.{names_in}
use Rattle.gg_shape.specs.Judged.{IsShaped}
use Rattle.gg_graph.specs.inside.Graph.{IsOrderOf}
use Rattle.gg_types.specs.declared.sort.Own.{Own}
use Rattle.gg_types.specs.declared.sort.Sort.{Sort}
use Rattle.gg_types.specs.declared.sort.Sort.TheVariants as sorts
use Rattle.gg_types.specs.declared.sort.Typing.{Typing}
use Rattle.gg_types.specs.declared.sort.Typing.TheVariants.{Ground, Clock}
use Rattle.gg_types.specs.Clocks.{clock_named, root_of}
use Rattle.gg_types.specs.inside.Named.{number_at, owned}
use Rattle.gg_types.specs.Sorts.{bits}
use Rattle.gg_types.specs.Types.{known_in, type_faults}

-- a circuit and an order of its modules
pub record TypedTree : Type 0 where
  pub circuit : CircuitTree
  pub order : List ℕ

-- a type of a circuit without faults, as a written type
abbrev pub sort : Typing → Sort
sort (Ground ty) = bits (shape ty)
sort Clock = sorts.Clock

-- the list has the type data of each declared name of a module
pub record TellsOwn (modules : List ModuleTree) (m : ModuleTree) (own : List Own) : Type 0 where
  pub one_each : length own ≡ length (names_in m)
  pub told : owned (names_in m) own ≡ known_in modules m

-- `TellsOwn` for each of the first n modules
pub record TellModules (modules : List ModuleTree) (n : ℕ) (lists : List (List Own)) : Type 0 where
  pub count : length lists ≡ n
  pub each : (k : ℕ) → k < n → TellsOwn modules (module_at modules k) (slice_index_or lists k [])

-- the list has, for each declared name of a module, the number of the Clock input that the name leads to
abbrev pub TellsClocks : ModuleTree → List (Option ℕ) → Type 0
TellsClocks m clocks = (name : List ℕ) → number_at clocks (place_of name (names_in m)) ≡ clock_named m.ports (root_of m name)

-- `TellsClocks` for each of the first n modules
pub record TellAllClocks (modules : List ModuleTree) (n : ℕ) (lists : List (List (Option ℕ))) : Type 0 where
  pub count : length lists ≡ n
  pub each : (k : ℕ) → k < n → TellsClocks (module_at modules k) (slice_index_or lists k [])

-- The circuit has none of the faults F1 to F14. The order has each of its modules after all that it has instances of.
-- The lists have the type data of its names, and the Clock inputs that they lead to.
pub record IsTyped (circuit : CircuitTree) (order : List ℕ) (lists : List (List Own)) (clocks : List (List (Option ℕ))) : Type 0 where
  pub shaped : IsShaped circuit
  pub faultless : type_faults circuit ≡ []
  pub ordered : IsOrderOf (Holds circuit.modules) (length circuit.modules) order
  pub tells : TellModules circuit.modules (length circuit.modules) lists
  pub clocked : TellAllClocks circuit.modules (length circuit.modules) clocks
