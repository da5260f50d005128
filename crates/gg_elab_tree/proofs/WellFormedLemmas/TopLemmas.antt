-- A circuit without faults has a top.
use Rattle.std.proofs.Common.{◌≡◌, ◌≢◌, ℕ, ◌+◌, Bool, true, false, not, ◌||◌, List, [], ◌∷◌, ◌++◌, Option, Some, None, refl, sym, ap, true≢false, if◌then◌else◌}
use Rattle.std.specs.Prelude.{option_map, IsSome}
use Rattle.std.specs.List.{list_any}
use Rattle.std.specs.Str.{bytes_eq}
use Rattle.gg_ast.specs.Places.{place_of}
use Rattle.gg_ast.specs.Tree.{ModuleTree, CircuitTree, names_of, module_names}
use Rattle.gg_shape.specs.declared.fault.Fault.{Fault}
use Rattle.gg_shape.specs.declared.fault.Fault.TheVariants.{MissingTop}
use Rattle.gg_shape.specs.Faults.{fault_if}
use Rattle.gg_shape.specs.Shape.{named_faults, missing_top, repeated_names, in_modules, unknown_names, second_connections, unconnected_sinks, connected_sources}
use Rattle.gg_elab_tree.proofs.NamesLemmas.DeclaredLemmas.{append-none}

abbrev is_none : {A : Type 0} → List A → Bool
is_none [] = true
is_none (x ∷ xs) = false

-- a test whose failure is a fault is true if there is no fault
no-fault : (b : Bool) (fault : Fault) → fault_if (not b) fault ≡ [] → b ≡ true
no-fault true fault h = cc
no-fault false fault h = absurd (true≢false (sym (ap is_none h)))

named-place : (name : List ℕ) (modules : List ModuleTree) → list_any (λ (m : ModuleTree). bytes_eq name m.name) modules ≡ true → place_of name (names_of modules) ≢ None
named-place name [] h e = absurd (true≢false (sym h))
named-place name (m ∷ ms) h e = go (bytes_eq name m.name) (place_of name (names_of ms)) (named-place name ms) h e
  where
    go : (b : Bool) (o : Option ℕ) → (list_any (λ (m : ModuleTree). bytes_eq name m.name) ms ≡ true → o ≢ None) → (b || list_any (λ (m : ModuleTree). bytes_eq name m.name) ms) ≡ true → (if b then Some 0 else option_map (λ i. i + 1) o) ≡ None → ⊥
    go true o next h e = absurd (cc)
    go false None next h e = next h e
    go false (Some k) next h e = absurd (cc)

pub has-top : (circuit : CircuitTree) → named_faults circuit ≡ [] → place_of circuit.name (module_names circuit) ≢ None
has-top circuit h =
    named-place circuit.name circuit.modules
    (no-fault (list_any (λ (m : ModuleTree). bytes_eq circuit.name m.name) circuit.modules) (MissingTop circuit.name)
    (append-none (missing_top circuit) (repeated_names circuit ++ (in_modules unknown_names circuit ++ (in_modules second_connections circuit ++ (in_modules unconnected_sinks circuit ++ in_modules connected_sources circuit)))) h).0)

pub some-there : (o : Option ℕ) → o ≢ None → IsSome o
some-there None h = absurd (h refl)
some-there (Some k) h = refl
