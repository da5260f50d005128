-- More on Sites: what no promise of the program reaches.
-- Source: FIRRTL Specification, "Circuits and Modules" (the module of the circuit's name is the top), "Instances".
use Rattle.std.specs.Prelude.{ℕ, List, map, Contains}
use Rattle.gg_ast.specs.Tree.{ModuleTree}
use Rattle.gg_elab_sites.specs.Sites.{held_at}

-- ---- the instances that a module holds

-- the module at place s holds an instance of the module at place t
abbrev pub HoldsModule : List ModuleTree → ℕ → ℕ → Type 0
HoldsModule modules s t = Contains (map (λ h. h.number) (held_at modules s)) t
