-- More on Modules: what no promise of the program reaches.
pub use Rattle.gg_ast.specs.Tree.{module_at}
use Rattle.std.proofs.Math.Nat.{not-suc-le-zero}
use Rattle.std.specs.Prelude.{ℕ, List, Contains, flat_map, take}
use Rattle.gg_ast.specs.Tree.{ModuleTree}
use Rattle.gg_shape_names.specs.Modules.{held_by}

-- `Holds` by one of the first n statements of the first module
abbrev pub HoldsBelow : List ModuleTree → ℕ → ℕ → ℕ → Type 0
HoldsBelow modules k n j = Contains (flat_map (held_by modules) (take n (module_at modules k).statements)) j

-- no module has an instance in its first 0 statements
pub none_held : (modules : List ModuleTree) (k j : ℕ) → HoldsBelow modules k 0 j → ⊥
none_held modules k j h = not-suc-le-zero h.1
