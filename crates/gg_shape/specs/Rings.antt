-- Rings of modules, F7: modules that have instances of each other in a ring.
-- Source: FIRRTL Specification, "Instances": a module may not have an instance of itself, directly or through others.
use Rattle.std.specs.Prelude.{◌≡◌, ℕ, List, [], ◌∷◌, ◌++◌, length, map}
use Rattle.gg_ast.specs.Tree.{CircuitTree}
use Rattle.gg_shape_names.specs.Modules.{Holds, module_at}
use Rattle.gg_shape.specs.declared.fault.Fault.{Fault}
use Rattle.gg_shape.specs.declared.fault.Fault.TheVariants.{ModuleRing}
use Rattle.gg_graph.specs.Graph.{IsRing}

-- distinct modules, by their places; each has an instance of the next, and the last of the first
abbrev pub IsRingOf : CircuitTree → List ℕ → Type 0
IsRingOf circuit ring = IsRing (Holds circuit.modules) (length circuit.modules) ring

-- no modules have instances of each other in a ring
abbrev pub HasNoRing : CircuitTree → Type 0
HasNoRing circuit = (ring : List ℕ) → ¬ IsRingOf circuit ring

-- the first of the names as a list; none if there are no names
abbrev pub front : List (List ℕ) → List (List ℕ)
front [] = []
front (name ∷ _) = name ∷ []

-- the names, and the first of them once more at the end
abbrev pub closed : List (List ℕ) → List (List ℕ)
closed names = names ++ front names

-- the modules' names, the first repeated at the end
abbrev pub ring_names : CircuitTree → List ℕ → List (List ℕ)
ring_names circuit ring = closed (map (λ k. (module_at circuit.modules k).name) ring)

-- the fault reports a ring of the circuit; any one ring may be reported
pub record TellsRing (circuit : CircuitTree) (fault : Fault) : Type 0 where
  pub ring : List ℕ
  pub is_ring : IsRingOf circuit ring
  pub fault_is : fault ≡ ModuleRing (ring_names circuit ring)
