-- The circuit's outputs are the top's, and then the stops.
use Rattle.std.proofs.Common.{◌≡◌, ℕ, List, [], ◌∷◌, ◌++◌, map, refl, sym, ap, ap₂, ◌∙◌}
use Rattle.std.specs.Prelude.{flat_map}
use Rattle.std.proofs.lemmas.List.{map-append}
use Rattle.std.proofs.lemmas.Simd.{map-map}
use Rattle.gg_ast.specs.declared.module.Direction.TheVariants as direction
use Rattle.gg_ast.specs.Places.{place_of}
use Rattle.gg_ast.specs.Tree.{ModuleTree, CircuitTree, module_names}
use Rattle.gg_flat.specs.Circuit.{FlatCircuit}
use Rattle.gg_flat_tree.specs.declared.tree.StopInstance.{StopInstance}
use Rattle.gg_flat_tree.specs.Scoped.{output_signals, stop_signals}
use Rattle.gg_flat_tree.specs.Tree.{InstanceTree, instance_at, joined}
use Rattle.gg_elab_sites.specs.Sites.{Site, module_at, sites_of}
use Rattle.gg_elab_sites.specs.Flat.{stop_paths}
use Rattle.gg_elab_sites.specs.IsFlat.{IsFlat, number_of, port_names, top_ports}
use Rattle.gg_elab_sites.specs.Signals.{own_stops}
use Rattle.gg_elab_tree.specs.IsTreeOf.{HeldStop, IsStopFor, IsTreeOf, Pairwise, held_stop, held_stops, signal_paths}
use Rattle.gg_elab_tree.proofs.ScopeOfTreeLemmas.{number-at}

paths-listed : (modules : List ModuleTree) (all : List Site) → map (λ (h : HeldStop). joined h.site.path h.said.name) (flat_map (held_stops modules) all) ≡ stop_paths modules all
paths-listed modules [] = refl
paths-listed modules (x ∷ xs) =
    map-append (λ (h : HeldStop). joined h.site.path h.said.name) (held_stops modules x) (flat_map (held_stops modules) xs)
    ∙ ap₂ (λ (ps qs : List (List ℕ)). ps ++ qs) (map-map (λ (h : HeldStop). joined h.site.path h.said.name) (held_stop x) (own_stops (module_at modules x.number).statements)) (paths-listed modules xs)

module _ (circuit : CircuitTree) where
  numbers-listed : (all : List HeldStop) (stops : List StopInstance) → Pairwise (λ (h : HeldStop) (stop : StopInstance). IsStopFor circuit h.site h.said stop) all stops → map (λ (stop : StopInstance). stop.signal) stops ≡ map (λ (h : HeldStop). number_of (signal_paths circuit) (joined h.site.path h.said.name)) all
  numbers-listed [] [] h = refl
  numbers-listed [] (y ∷ ys) h = absurd h
  numbers-listed (x ∷ xs) [] h = absurd h
  numbers-listed (x ∷ xs) (y ∷ ys) h = ap₂ (λ n l. n ∷ l) (sym (number-at (signal_paths circuit) (joined x.site.path x.said.name) y.signal h.0.signal.is)) (numbers-listed xs ys h.1)

  -- the signals of the stops are numbered by their paths
  pub stop-numbers : (tree : InstanceTree) → IsTreeOf circuit tree → stop_signals tree ≡ map (number_of (signal_paths circuit)) (stop_paths circuit.modules (sites_of circuit))
  stop-numbers tree is =
      numbers-listed (flat_map (held_stops circuit.modules) (sites_of circuit)) tree.stops is.stops
      ∙ sym (map-map (number_of (signal_paths circuit)) (λ (h : HeldStop). joined h.site.path h.said.name) (flat_map (held_stops circuit.modules) (sites_of circuit)))
      ∙ ap (map (number_of (signal_paths circuit))) (paths-listed circuit.modules (sites_of circuit))

-- the circuit's outputs are the top's, and then the stops
pub outs-with-stops : (circuit : CircuitTree) (flat : FlatCircuit) (tree : InstanceTree) → IsFlat circuit flat → IsTreeOf circuit tree → output_signals (instance_at tree 0).ports ≡ map (number_of (signal_paths circuit)) (port_names direction.Output (top_ports circuit.modules (place_of circuit.name (module_names circuit)))) → output_signals (instance_at tree 0).ports ++ stop_signals tree ≡ flat.outs
outs-with-stops circuit flat tree is_flat is_tree ports =
    ap₂ (λ (xs ys : List ℕ). xs ++ ys) ports (stop-numbers circuit tree is_tree)
    ∙ sym (map-append (number_of (signal_paths circuit)) (port_names direction.Output (top_ports circuit.modules (place_of circuit.name (module_names circuit)))) (stop_paths circuit.modules (sites_of circuit)))
    ∙ sym is_flat.outs
