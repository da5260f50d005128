-- The instances of a circuit: the top and, below it, the instances that each module holds.
-- Source: FIRRTL Specification, "Circuits and Modules" (the module of the circuit's name is the top), "Instances".
pub use Rattle.gg_ast.specs.Tree.{module_at}
use Rattle.std.specs.Prelude.{ℕ, zero, suc, List, [], ◌∷◌, Option, Some, None, length}
use Rattle.std.specs.List.{flat_map, filter_map}
use Rattle.std.specs.Option.{option_map}
use Rattle.gg_ast.specs.declared.statement.Stmt.{Stmt}
use Rattle.gg_ast.specs.declared.statement.StmtKind.{StmtKind}
use Rattle.gg_ast.specs.declared.statement.StmtKind.TheVariants as says
use Rattle.gg_ast.specs.Places.{place_of}
use Rattle.gg_ast.specs.Tree.{ModuleTree, CircuitTree, names_of, module_names}
use Rattle.gg_flat_tree.specs.Tree.{joined}

-- ---- the instances that a module holds

-- an instance that a module holds: its name, and its module's place
pub record Held : Type 0 where
  pub name : List ℕ
  pub number : ℕ

-- an instance with this name, of the module at this place
abbrev pub held : List ℕ → ℕ → Held
held name number = record { name = name; number = number }

-- The instance that a statement makes, if it makes one and its module exists.
abbrev pub held_by_kind : List ModuleTree → StmtKind → Option Held
held_by_kind modules (says.Wire name ty) = None
held_by_kind modules (says.Node name value) = None
held_by_kind modules (says.Register name ty clock reset) = None
held_by_kind modules (says.Instance name of_module) = option_map (held name) (place_of of_module (names_of modules))
held_by_kind modules (says.Memory name fields) = None
held_by_kind modules (says.Connect sink source) = None
held_by_kind modules (says.Invalid sink) = None
held_by_kind modules says.Skip = None
held_by_kind modules (says.Stop clock condition code label) = None
held_by_kind modules (says.Report word arguments label) = None

-- the instances that statements make, in the order of the file
abbrev pub held_by : List ModuleTree → List Stmt → List Held
held_by modules statements = filter_map (λ (s : Stmt). held_by_kind modules s.kind) statements

-- the instances that the module at a place holds
abbrev pub held_at : List ModuleTree → ℕ → List Held
held_at modules k = held_by modules (module_at modules k).statements

-- ---- sites

-- the site that holds an instance: its path, its module's place, and the name of the instance there
pub record Outer : Type 0 where
  pub path : List ℕ
  pub number : ℕ
  pub name : List ℕ

-- a step from an instance to the site that holds it: the place of the module there, and the name of the instance in it
pub record Step : Type 0 where
  pub number : ℕ
  pub name : List ℕ

-- A place of a module in the circuit: the top, or an instance. Its path has the names of the instances from the top down, with dots between
-- them. The top's path is empty. `number` is its module's place in the file, `depth` the number of sites above it, and `steps` lead from it
-- up to the top.
pub record Site : Type 0 where
  pub path : List ℕ
  pub number : ℕ
  pub depth : ℕ
  -- the site that holds the instance; none for the top
  pub outer : Option Outer
  pub steps : List Step

-- the module at this place of the file, as the top
abbrev pub top_site : ℕ → Site
top_site k = record { path = []; number = k; depth = 0; outer = None; steps = [] }

-- an instance that a site's module holds, as a site
abbrev pub site_below : Site → Held → Site
site_below here h =
    record {
      path = joined here.path h.name;
      number = h.number;
      depth = suc here.depth;
      outer = Some (record { path = here.path; number = here.number; name = h.name });
      steps = record { number = here.number; name = h.name } ∷ here.steps;
    }

-- A site and all sites below it, down to this many levels: the site itself first, then each instance that its module
-- holds, in the order of the file, with all sites below that instance.
abbrev pub sites : ℕ → List ModuleTree → Site → List Site
sites zero modules here = here ∷ []
sites (suc levels) modules here = here ∷ flat_map (λ h. sites levels modules (site_below here h)) (held_at modules here.number)

-- The sites of the module at a place as the top. If no modules hold each other in a ring, each site has fewer sites
-- above it than there are modules.
abbrev pub all_sites : List ModuleTree → ℕ → List Site
all_sites modules k = sites (length modules) modules (top_site k)

-- the sites, if there is a top
abbrev pub sites_from : List ModuleTree → Option ℕ → List Site
sites_from modules None = []
sites_from modules (Some k) = all_sites modules k

-- the sites of a circuit; its top is the first module of its name
abbrev pub sites_of : CircuitTree → List Site
sites_of circuit = sites_from circuit.modules (place_of circuit.name (module_names circuit))
