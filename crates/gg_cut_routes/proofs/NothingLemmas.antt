-- Where no channels are to be direct, the channels are those of the cut, and no signal leaves.
use Rattle.std.proofs.Common.{◌≡◌, ℕ, List, [], ◌∷◌, Bool, false, not, Option, Some, None, map, refl, ◌∙◌, ap}
use Rattle.std.specs.Prelude.{◌&&◌, cond, filter}
use Rattle.std.specs.List.{list_any}
use Rattle.std.proofs.lemmas.List.{map-id}
use Rattle.gg_flat.specs.Circuit.{FlatCircuit}
use Rattle.gg_flat_tree.specs.Tree.{InstanceTree}
use Rattle.gg_flat.proofs.ListLemmas.{map-same}
use Rattle.gg_partfile.specs.declared.request.BridgeEntry.{BridgeEntry}
use Rattle.gg_cut_plan.specs.declared.listed.Listed.{Listed}
use Rattle.gg_cut_plan.specs.declared.wires.Wire.{Wire}
use Rattle.gg_cut_plan.specs.Channels.{wires_of}
use Rattle.gg_cut_plan.specs.Direct.{Hub, hub_of, named_by, kept, origin, is_number, direct_of, left_by, is_gone, route, routes}

module _ (circuit : FlatCircuit) (tree : InstanceTree) (listed : Listed) (piped : ℕ → Bool) (entries : List BridgeEntry) where
  abbrev hub : Hub
  hub = hub_of circuit tree listed piped entries false

  abbrev wires : List Wire
  wires = wires_of circuit tree listed entries

  none-direct : (x : ℕ) (ws : List Wire) → list_any (λ (w : Wire). is_number x (direct_of hub w)) ws ≡ false
  none-direct x [] = refl
  none-direct x (w ∷ ws) = none-direct x ws

  pub nothing-gone : (s : ℕ) → is_gone (hub_of circuit tree listed piped entries false) s ≡ false
  nothing-gone s = by (origin hub s)
    where
      by : (o : Option ℕ) → left_by hub o ≡ false
      by None = refl
      by (Some x) = ap (λ b. b && not (list_any (λ t. is_number x (origin hub t)) (named_by hub (kept hub)))) (none-direct x wires)

  all-stay : (ws : List Wire) → filter (λ (w : Wire). not (is_gone hub w.signal)) ws ≡ ws
  all-stay [] = refl
  all-stay (w ∷ ws) = by (is_gone hub w.signal) (nothing-gone w.signal) (all-stay ws)
    where
      by : (b : Bool) → b ≡ false → filter (λ (v : Wire). not (is_gone hub v.signal)) ws ≡ ws → cond (not b) (w ∷ filter (λ (v : Wire). not (is_gone hub v.signal)) ws) (filter (λ (v : Wire). not (is_gone hub v.signal)) ws) ≡ w ∷ ws
      by b e rest = ap (λ c. cond (not c) (w ∷ filter (λ (v : Wire). not (is_gone hub v.signal)) ws) (filter (λ (v : Wire). not (is_gone hub v.signal)) ws)) e ∙ ap (λ l. w ∷ l) rest

  pub plain-routes : routes (hub_of circuit tree listed piped entries false) ≡ wires_of circuit tree listed entries
  plain-routes = ap (map (route hub)) (all-stay wires) ∙ map-same (route hub) (λ w. w) wires (λ w. refl) ∙ map-id wires
