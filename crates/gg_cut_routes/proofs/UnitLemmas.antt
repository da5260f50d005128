-- Another machine than the hub takes by the routed channels what it took, in the same order, and gives by the same signals.
use Rattle.std.proofs.Common.{◌≡◌, ◌≢◌, ℕ, List, [], ◌∷◌, Bool, true, false, not, map, refl, sym, ◌∙◌, ap, ap₂, subst, inl, inr, ◌⊎◌, arith}
use Rattle.std.specs.Prelude.{◌↔◌, ◌==◌, cond, Contains, filter}
use Rattle.std.proofs.lemmas.Bool.{cases_eq, ne_eqb}
use Rattle.gg_flat.proofs.ListLemmas.{further}
use Rattle.gg_cut_plan.specs.declared.wires.Wire.{Wire}
use Rattle.gg_cut_plan.specs.Direct.{Hub, is_gone, route, routes}
use Rattle.gg_cut_plan.specs.Plan.{channels_to, channels_from, signals_of, givens_of}
use Rattle.gg_cut_plan.proofs.OriginLemmas.{clash}
use Rattle.gg_cut_plan.proofs.WireLemmas.{signals-to}
use Rattle.gg_cut_routes.proofs.RouteLemmas.{IsBase, port-stays, route-signal, route-consumer}
use Rattle.gg_cut_routes.proofs.ChoiceLemmas.{From, Same, Origin, gives-out, gives-all, given-wire, wire-made}

module _ (hub : Hub) (base : IsBase hub) (m : ℕ) (other : m ≢ 0) where
  abbrev taken : List Wire → List ℕ
  taken wires = map (λ (w : Wire). w.signal) (filter (λ w. w.consumer == m) wires)

  abbrev left : List Wire → List Wire
  left wires = map (route hub) (filter (λ w. not (is_gone hub w.signal)) wires)

  -- one channel before others
  next : (w : Wire) (wires : List Wire) → Contains hub.base w → taken (left wires) ≡ taken wires → taken (left (w ∷ wires)) ≡ taken (w ∷ wires)
  next w wires h rest = by (cases_eq w.consumer m)
    where
      own : (b : Bool) → is_gone hub w.signal ≡ b → (to : Bool) → (w.consumer == m) ≡ to → (b ≡ true → to ≡ false) → taken (left (w ∷ wires)) ≡ taken (w ∷ wires)
      own true e to f free =
          ap (λ b. taken (map (route hub) (cond (not b) (w ∷ filter (λ w. not (is_gone hub w.signal)) wires) (filter (λ w. not (is_gone hub w.signal)) wires)))) e
          ∙ rest
          ∙ ap (λ b. map (λ (w : Wire). w.signal) (cond b (w ∷ filter (λ w. w.consumer == m) wires) (filter (λ w. w.consumer == m) wires))) (sym (f ∙ free refl))
      own false e to f free =
          ap (λ b. taken (map (route hub) (cond (not b) (w ∷ filter (λ w. not (is_gone hub w.signal)) wires) (filter (λ w. not (is_gone hub w.signal)) wires)))) e
          ∙ ap (λ n. map (λ (w : Wire). w.signal) (cond (n == m) (route hub w ∷ filter (λ w. w.consumer == m) (left wires)) (filter (λ w. w.consumer == m) (left wires)))) (route-consumer hub base w)
          ∙ both (w.consumer == m)
        where
          both : (to : Bool) → map (λ (w : Wire). w.signal) (cond to (route hub w ∷ filter (λ w. w.consumer == m) (left wires)) (filter (λ w. w.consumer == m) (left wires))) ≡ map (λ (w : Wire). w.signal) (cond to (w ∷ filter (λ w. w.consumer == m) wires) (filter (λ w. w.consumer == m) wires))
          both true = ap₂ (λ s l. s ∷ l) (route-signal hub base w) rest
          both false = rest

      by : (w.consumer ≡ m) ⊎ (w.consumer ≡ m → ⊥) → taken (left (w ∷ wires)) ≡ taken (w ∷ wires)
      by (inl to) = own (is_gone hub w.signal) refl (w.consumer == m) refl (λ e. absurd (clash (is_gone hub w.signal) e (port-stays hub base w h (λ z. other (sym to ∙ z)))))
      by (inr away) = own (is_gone hub w.signal) refl (w.consumer == m) refl (λ e. ne_eqb w.consumer m away)

  each : (wires : List Wire) → ((w : Wire) → Contains wires w → Contains hub.base w) → taken (left wires) ≡ taken wires
  each [] among = refl
  each (w ∷ wires) among = next w wires (among w (0, omega arith, refl)) (each wires (λ v h. among v (further w wires v h)))

  -- the signals that it takes
  pub ins-still : signals_of (routes hub) (channels_to (routes hub) m) ≡ signals_of hub.base (channels_to hub.base m)
  ins-still = signals-to (routes hub) m ∙ each hub.base (λ w h. h) ∙ sym (signals-to hub.base m)

  -- the signals by which it gives
  pub givens-still : (s : ℕ) → Contains (givens_of (routes hub) (channels_from (routes hub) m)) s ↔ Contains (givens_of hub.base (channels_from hub.base m)) s
  givens-still s = (λ h. by (gives-out hub base m s h), λ h. (let w = wire-made hub base m s h in subst (λ t. Contains (givens_of (routes hub) (channels_from (routes hub) m)) t) w.is (gives-all hub base m w.wire other w.among w.producer)))
    where
      by : From hub base m s → Contains (givens_of hub.base (channels_from hub.base m)) s
      by (Same w stays plain) = given-wire hub base m s w.wire w.among w.producer w.is
      by (Origin w into) = given-wire hub base m s w.wire w.among w.producer w.is
