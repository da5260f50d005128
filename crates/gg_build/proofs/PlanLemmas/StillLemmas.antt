-- A listed memory gives by the routed channels what it gave before, in the same order: no direct channel has it as its giver.
use Rattle.std.proofs.Common.{◌≡◌, ◌≢◌, ℕ, List, [], ◌∷◌, Bool, true, false, not, Option, None, Some, length, map, eq-eqb, refl, sym, ◌∙◌, ap, ap₂, inl, inr, ◌⊎◌}
use Rattle.std.specs.Prelude.{◌==◌, cond, Contains, filter}
use Rattle.std.specs.List.{list_any}
use Rattle.std.proofs.lemmas.Bool.{and_parts, cases_Bool, cases_eq, ne_eqb}
use Rattle.std.proofs.lemmas.List.Elements.{Contains-get_or}
use Rattle.gg_flat.proofs.ListLemmas.{further, here}
use Rattle.gg_cut_plan.specs.declared.wires.Wire.{Wire as Link}
use Rattle.gg_cut_plan.specs.Channels.{wire}
use Rattle.gg_cut_plan.specs.Direct.{Hub, named_by, kept, is_number, origin, direct_of, giver, has_left, left_by, is_gone, route, routes}
use Rattle.gg_cut_plan.specs.Plan.{wire_at as link_at, channels_from, signals_of, givens_of}
use Rattle.gg_cut_plan.proofs.WireLemmas.{signals-from}
use Rattle.gg_cut_plan.proofs.OriginLemmas.{any-finds, clash, Chain, Here, Copy, chain}
use Rattle.gg_cut_plan.proofs.DirectLemmas.{direct-is}
use Rattle.gg_cut_routes.proofs.RouteLemmas.{number-is, IsBase, giver-is, own-no-wire, Routing, Plain, Direct, routing, route-signal, plain-given, plain-producer, direct-producer, IsRoute, out-routes}
use Rattle.gg_build.proofs.PlanLemmas.ListedLemmas.{IsGivenBy, given-is}

module _ (hub : Hub) (base : IsBase hub) (m : ℕ) (silent : hub.silent m ≡ true) (other : m ≢ 0) where
  -- what the memory gives is no origin of a direct channel
  no-origin : (w : Link) (x : ℕ) → Contains hub.base w → w.producer ≡ m → w.signal ≡ x → hub.silent (giver hub x) ≡ false → ⊥
  no-origin w x h from is plain = clash (hub.silent m) silent (ap hub.silent (sym (ap (giver hub) (sym is) ∙ giver-is hub base w h ∙ from)) ∙ plain)

  -- so a channel that it gives isn't gone
  stays : (w : Link) → Contains hub.base w → w.producer ≡ m → is_gone hub w.signal ≡ false
  stays w h from = by (origin hub w.signal) refl
    where
      left : (x : ℕ) → w.signal ≡ x → (has_left hub x ≡ true) ⊎ (has_left hub x ≡ false) → has_left hub x ≡ false
      left x is (inr e) = e
      left x is (inl e) =
          let some = (and_parts (list_any (λ (v : Link). is_number x (direct_of hub v)) hub.base) (not (list_any (λ t. is_number x (origin hub t)) (named_by hub (kept hub)))) e).0 in
          let found = any-finds (λ (v : Link). is_number x (direct_of hub v)) hub.base some in
          absurd (no-origin w x h from is (direct-is hub found.item x (number-is x (direct_of hub found.item) found.passes)).plain)

      at : (x : ℕ) → origin hub w.signal ≡ Some x → Chain hub (length hub.circuit.signals) w.signal x → is_gone hub w.signal ≡ false
      at x e (Here more same taken plain is) = ap (left_by hub) e ∙ left x is (cases_Bool (has_left hub x))
      at x e (Copy more t same taken own to rest) = absurd (own-no-wire hub base w h own)

      by : (o : Option ℕ) → origin hub w.signal ≡ o → is_gone hub w.signal ≡ false
      by None e = ap (left_by hub) e
      by (Some x) e = at x e (chain hub (length hub.circuit.signals) w.signal x e)

  -- it gives such a channel as before
  own : (w : Link) → w.producer ≡ m → (route hub w).producer ≡ m
  own w from = by (routing hub base w)
    where
      by : Routing hub base w → (route hub w).producer ≡ m
      by (Plain e) = plain-producer hub base w e ∙ from
      by (Direct x e d into) = absurd (other (sym from ∙ d.may.producer))

  -- it gives no other channel
  away : (w : Link) → (w.producer ≡ m → ⊥) → (route hub w).producer ≡ m → ⊥
  away w another is = by (routing hub base w)
    where
      by : Routing hub base w → ⊥
      by (Plain e) = another (sym (plain-producer hub base w e) ∙ is)
      by (Direct x e d into) = no-origin into.wire x into.among (sym (direct-producer hub base w x e into) ∙ is) into.is d.plain

  -- ---- all that it gives

  abbrev given : List Link → List ℕ
  given wires = map (λ (w : Link). w.signal) (filter (λ w. w.producer == m) wires)

  abbrev left : List Link → List Link
  left wires = map (route hub) (filter (λ w. not (is_gone hub w.signal)) wires)

  next : (w : Link) (wires : List Link) → Contains hub.base w → given (left wires) ≡ given wires → given (left (w ∷ wires)) ≡ given (w ∷ wires)
  next w wires h rest = by (cases_eq w.producer m)
    where
      dropped : (b : Bool) → ((route hub w).producer == m) ≡ false → given (map (route hub) (cond (not b) (w ∷ filter (λ w. not (is_gone hub w.signal)) wires) (filter (λ w. not (is_gone hub w.signal)) wires))) ≡ given (left wires)
      dropped true e = refl
      dropped false e = ap (λ b. map (λ (w : Link). w.signal) (cond b (route hub w ∷ filter (λ w. w.producer == m) (left wires)) (filter (λ w. w.producer == m) (left wires)))) e

      by : (w.producer ≡ m) ⊎ (w.producer ≡ m → ⊥) → given (left (w ∷ wires)) ≡ given (w ∷ wires)
      by (inl from) =
          ap (λ b. given (map (route hub) (cond (not b) (w ∷ filter (λ w. not (is_gone hub w.signal)) wires) (filter (λ w. not (is_gone hub w.signal)) wires)))) (stays w h from)
          ∙ ap (λ b. map (λ (w : Link). w.signal) (cond b (route hub w ∷ filter (λ w. w.producer == m) (left wires)) (filter (λ w. w.producer == m) (left wires)))) (eq-eqb (route hub w).producer m (own w from))
          ∙ ap₂ (λ s l. s ∷ l) (route-signal hub base w) rest
          ∙ ap (λ b. map (λ (w : Link). w.signal) (cond b (w ∷ filter (λ w. w.producer == m) wires) (filter (λ w. w.producer == m) wires))) (sym (eq-eqb w.producer m from))
      by (inr another) =
          dropped (is_gone hub w.signal) (ne_eqb (route hub w).producer m (away w another))
          ∙ rest
          ∙ ap (λ b. map (λ (w : Link). w.signal) (cond b (w ∷ filter (λ w. w.producer == m) wires) (filter (λ w. w.producer == m) wires))) (sym (ne_eqb w.producer m another))

  each : (wires : List Link) → ((w : Link) → Contains wires w → Contains hub.base w) → given (left wires) ≡ given wires
  each [] among = refl
  each (w ∷ wires) among = next w wires (among w (here w wires)) (each wires (λ v h. among v (further w wires v h)))

  -- the signals of the channels that it gives
  pub words-still : signals_of (routes hub) (channels_from (routes hub) m) ≡ signals_of hub.base (channels_from hub.base m)
  words-still = signals-from (routes hub) m ∙ each hub.base (λ w h. h) ∙ sym (signals-from hub.base m)

  -- ---- by which signals it gives

  given-own : (r : Link) → Contains (routes hub) r → r.producer ≡ m → r.given ≡ r.signal
  given-own r h from = by (out-routes hub base r h)
    where
      of : (w : IsRoute hub base r) → Routing hub base w.wire → r.given ≡ r.signal
      of w (Plain e) = ap (λ (q : Link). q.given) (sym w.is) ∙ plain-given hub base w.wire w.among e ∙ sym (route-signal hub base w.wire) ∙ ap (λ (q : Link). q.signal) w.is
      of w (Direct x e d into) = absurd (no-origin into.wire x into.among (sym (direct-producer hub base w.wire x e into) ∙ ap (λ (q : Link). q.producer) w.is ∙ from) into.is d.plain)

      by : IsRoute hub base r → r.given ≡ r.signal
      by w = of w (routing hub base w.wire)

  givens-own : (channels : List ℕ) → ((c : ℕ) → Contains channels c → IsGivenBy (routes hub) m c) → givens_of (routes hub) channels ≡ signals_of (routes hub) channels
  givens-own [] each = refl
  givens-own (c ∷ channels) each =
      let is = each c (here c channels) in
      ap₂ (λ s l. s ∷ l) (given-own (link_at (routes hub) c) (Contains-get_or (routes hub) c (wire 0 0 0) is.known) is.producer) (givens-own channels (λ d h. each d (further c channels d h)))

  -- it gives each channel by the channel's own signal
  pub memory-plain : givens_of (routes hub) (channels_from (routes hub) m) ≡ signals_of (routes hub) (channels_from (routes hub) m)
  memory-plain = givens-own (channels_from (routes hub) m) (given-is (routes hub) m)
