-- The channels of a plan, and what its machines have.
use Rattle.std.proofs.Common.{◌≡◌, ◌≢◌, ◌<◌, ℕ, List, Bool, true, false, not, length, get_or, sym, ◌∙◌, ap, subst, inl, inr, ◌⊎◌, None, refl, eq-eqb, arith}
use Rattle.std.specs.Prelude.{◌↔◌, ◌&&◌, ◌==◌, Contains, AllPairs, filter, is_some}
use Rattle.std.specs.List.{list_any}
use Rattle.std.proofs.lemmas.Bool.{and_parts, and_from, cases_Bool, eqb-true, ne_eqb, not-true, not_from_false}
use Rattle.std.proofs.lemmas.List.Elements.{All-contains, Contains-get_or}
use Rattle.std.proofs.lemmas.List.Kept.{AllPairs-filter}
use Rattle.gg_flat.proofs.ListLemmas.{IsKept, Contains-map, Contains-filter, filter-cases}
use Rattle.gg_part.specs.KeepsToTree.{KeepsToTree}
use Rattle.gg_order.specs.Design.{Ordered, IsDesign}
use Rattle.gg_order.specs.Marks.{is_marked}
use Rattle.gg_flat.specs.inside.InOrder.{Precedes, IsAlong}
use Rattle.gg_partfile.specs.declared.request.BridgeEntry.{BridgeEntry}
use Rattle.gg_cut_plan.specs.declared.listed.Listed.{Listed}
use Rattle.gg_cut_plan.specs.declared.wires.Wire.{Wire}
use Rattle.gg_cut_plan.specs.Channels.{wires_of}
use Rattle.gg_cut_plan.specs.Direct.{Hub, hub_of, is_direct, is_gone, direct_of, route, routes}
use Rattle.gg_cut_plan.specs.Plan.{channels_to, channels_from, MakesBy, Takes, HasMemory}
use Rattle.gg_cut_plan.proofs.OriginLemmas.{any-finds, finds-any, clash}
use Rattle.gg_cut_split.specs.inside.Apart.{AreApart}
use Rattle.gg_cut_split.proofs.ClosedLemmas.ChoiceLemmas.{pairs-once}
use Rattle.gg_cut_split.proofs.ClosedLemmas.EndLemmas.{ends}
use Rattle.gg_cut_split.proofs.ClosedLemmas.ListLemmas.{map-cases}
use Rattle.gg_cut_split.specs.inside.Share.{IsShareOf}
use Rattle.gg_cut_split.proofs.ShareLemmas.{along-once}
use Rattle.gg_cut_routes.specs.inside.Routes.{AreRoutes}
use Rattle.gg_cut_routes.specs.inside.Share.{IsPlanShare, is_past_hub, past_hub, stays_by}
use Rattle.gg_cut_routes.proofs.CutLemmas.{base-of}
use Rattle.gg_cut_routes.proofs.GoneLemmas.{Stays}
use Rattle.gg_cut_routes.proofs.RouteLemmas.{IsBase, IsRoute, Routing, Plain, Direct, routing, same-wire, apart-at, in-routes, out-routes, route-signal, route-consumer, plain-producer, direct-producer}
use Rattle.gg_cut_routes.proofs.ChoiceLemmas.{Made, Taken, had, hub-stays, hub-has, has-still, wire-made, wire-taken, wire-plain, inner-item, any-wire}

-- ---- what stays of the hub's signals

module _ (hub : Hub) (base : IsBase hub) where
  -- a channel with the hub at no end carries this signal
  pub record IsPast (s : ℕ) : Type 0 where
    pub wire : Wire
    pub among : Contains (routes hub) wire
    pub past : is_past_hub wire ≡ true
    pub is : wire.signal ≡ s

  past-found : (s : ℕ) → list_any (λ t. s == t) (past_hub (routes hub)) ≡ true → IsPast s
  past-found s e =
      let at = any-finds (λ t. s == t) (past_hub (routes hub)) e in
      let from = map-cases (λ (w : Wire). w.signal) (filter is_past_hub (routes hub)) at.item at.among in
      let w = get_or (filter is_past_hub (routes hub)) from.place any-wire in
      let kept = filter-cases is_past_hub (routes hub) w (Contains-get_or (filter is_past_hub (routes hub)) from.place any-wire from.within) in
      record { wire = w; among = kept.among; past = kept.passes; is = from.holds any-wire ∙ sym (eqb-true s at.item at.passes) }

  -- the channel that passes the hub is that of a signal that the hub gave, so it is direct
  past-direct : (s : ℕ) → is_gone hub s ≡ false → Made hub base 0 s ⊎ Taken hub base 0 s → IsPast s → is_direct hub s ≡ true
  past-direct s stays had past = by (out-routes hub base past.wire past.among)
    where
      ends : (a b : ℕ) → (not (a == 0) && not (b == 0)) ≡ true → (a ≢ 0) × (b ≢ 0)
      ends a b e = let parts = and_parts (not (a == 0)) (not (b == 0)) e in (λ z. other a z parts.0, λ z. other b z parts.1)
        where
          other : (n : ℕ) → n ≡ 0 → not (n == 0) ≡ true → ⊥
          other n z t = clash (n == 0) (eq-eqb n 0 z) (not-true (n == 0) t)

      by : IsRoute hub base past.wire → is_direct hub s ≡ true
      by r = at (cases_Bool (is_direct hub s))
        where
          signal : r.wire.signal ≡ s
          signal = sym (route-signal hub base r.wire) ∙ ap (λ (q : Wire). q.signal) r.is ∙ past.is

          not-ends : (past.wire.producer ≢ 0) × (past.wire.consumer ≢ 0)
          not-ends = ends past.wire.producer past.wire.consumer past.past

          consumer : r.wire.consumer ≢ 0
          consumer z = not-ends.1 (ap (λ (q : Wire). q.consumer) (sym r.is) ∙ route-consumer hub base r.wire ∙ z)

          at : (is_direct hub s ≡ true) ⊎ (is_direct hub s ≡ false) → is_direct hub s ≡ true
          at (inl e) = e
          at (inr e) = absurd (none had)
            where
              plain : direct_of hub r.wire ≡ None
              plain = wire-plain hub base r.wire r.among (subst (λ t. is_direct hub t ≡ false) (sym signal) e)

              producer : r.wire.producer ≢ 0
              producer z = not-ends.0 (ap (λ (q : Wire). q.producer) (sym r.is) ∙ plain-producer hub base r.wire plain ∙ z)

              none : Made hub base 0 s ⊎ Taken hub base 0 s → ⊥
              none (inl (inl own)) = inner-item hub base s own.2 r.wire r.among signal
              none (inl (inr h)) = let w = wire-made hub base 0 s h in producer (ap (λ (q : Wire). q.producer) (same-wire hub base r.wire w.wire r.among w.among (signal ∙ sym w.is)) ∙ w.producer)
              none (inr h) = let w = wire-taken hub base 0 s h in consumer (ap (λ (q : Wire). q.consumer) (same-wire hub base r.wire w.wire r.among w.among (signal ∙ sym w.is)) ∙ w.consumer)

  -- a direct channel that stays passes the hub
  direct-past : (s : ℕ) → is_gone hub s ≡ false → is_direct hub s ≡ true → list_any (λ t. s == t) (past_hub (routes hub)) ≡ true
  direct-past s stays e =
      let at = any-finds (λ (w : Wire). (w.signal == s) && is_some (direct_of hub w)) hub.base e in
      let parts = and_parts (at.item.signal == s) (is_some (direct_of hub at.item)) at.passes in
      by at.item at.among (eqb-true at.item.signal s parts.0) parts.1 (routing hub base at.item)
    where
      some : (n : ℕ) → n ≢ 0 → not (n == 0) ≡ true
      some n other = ap not (ne_eqb n 0 other)

      by : (w : Wire) → Contains hub.base w → w.signal ≡ s → is_some (direct_of hub w) ≡ true → Routing hub base w → list_any (λ t. s == t) (past_hub (routes hub)) ≡ true
      by w h is there (Plain f) = absurd (clash false (sym (ap is_some f) ∙ there) refl)
      by w h is there (Direct x f d v) =
          let r = in-routes hub base w h (subst (λ t. is_gone hub t ≡ false) (sym is) stays) in
          let producer = λ (z : (route hub w).producer ≡ 0). apart-at hub base v.wire v.among (sym (direct-producer hub base w x f v) ∙ z ∙ sym v.consumer) in
          let consumer = λ (z : (route hub w).consumer ≡ 0). apart-at hub base w h (d.may.producer ∙ sym z ∙ route-consumer hub base w) in
          let among = Contains-map (λ (q : Wire). q.signal) (filter is_past_hub (routes hub)) (route hub w) (Contains-filter is_past_hub (routes hub) (route hub w) r (and_from (not ((route hub w).producer == 0)) (not ((route hub w).consumer == 0)) (some (route hub w).producer producer) (some (route hub w).consumer consumer))) in
          finds-any (λ t. s == t) (past_hub (routes hub)) (route hub w).signal among (eq-eqb s (route hub w).signal (sym is ∙ sym (route-signal hub base w)))

  -- the hub's signals
  pub hub-signals : (gone : List Bool) (globals : List ℕ) → ((s : ℕ) → Contains globals s → is_marked gone s ≡ is_gone hub s) → ((s : ℕ) → Contains globals s ↔ (Made hub base 0 s ⊎ Taken hub base 0 s))
      → (s : ℕ) → Contains (filter (stays_by (routes hub) gone) globals) s ↔ (MakesBy hub 0 s ⊎ Takes (routes hub) 0 s)
  hub-signals gone globals marks signals s = (to, from)
    where
      to : Contains (filter (stays_by (routes hub) gone) globals) s → MakesBy hub 0 s ⊎ Takes (routes hub) 0 s
      to h = hub-has hub base s ((signals s).0 kept.among) (record { direct = plain (cases_Bool (is_direct hub s)); gone = stays })
        where
          kept : IsKept (stays_by (routes hub) gone) globals s
          kept = filter-cases (stays_by (routes hub) gone) globals s h

          parts : (not (is_marked gone s) ≡ true) × (not (list_any (λ t. s == t) (past_hub (routes hub))) ≡ true)
          parts = and_parts (not (is_marked gone s)) (not (list_any (λ t. s == t) (past_hub (routes hub)))) kept.passes

          stays : is_gone hub s ≡ false
          stays = sym (marks s kept.among) ∙ not-true (is_marked gone s) parts.0

          plain : (is_direct hub s ≡ true) ⊎ (is_direct hub s ≡ false) → is_direct hub s ≡ false
          plain (inr e) = e
          plain (inl e) = absurd (clash (list_any (λ t. s == t) (past_hub (routes hub))) (direct-past s stays e) (not-true (list_any (λ t. s == t) (past_hub (routes hub))) parts.1))

      from : MakesBy hub 0 s ⊎ Takes (routes hub) 0 s → Contains (filter (stays_by (routes hub) gone) globals) s
      from has =
          let stay = hub-stays hub base s has in
          let before = had hub base 0 s has in
          let among = (signals s).1 before in
          Contains-filter (stays_by (routes hub) gone) globals s among
          (and_from (not (is_marked gone s)) (not (list_any (λ t. s == t) (past_hub (routes hub)))) (not_from_false (is_marked gone s) (marks s among ∙ stay.gone))
          (not_from_false (list_any (λ t. s == t) (past_hub (routes hub))) (at stay before (cases_Bool (list_any (λ t. s == t) (past_hub (routes hub)))))))
        where
          at : Stays hub s → Made hub base 0 s ⊎ Taken hub base 0 s → (list_any (λ t. s == t) (past_hub (routes hub)) ≡ true) ⊎ (list_any (λ t. s == t) (past_hub (routes hub)) ≡ false) → list_any (λ t. s == t) (past_hub (routes hub)) ≡ false
          at stay before (inr e) = e
          at stay before (inl e) = absurd (clash (is_direct hub s) (past-direct s stay.gone before (past-found s e)) stay.direct)

-- ---- what machines have

-- the channels before, of a cut whose units lie apart
pub plan-base : (design : Ordered) (listed : Listed) (piped : ℕ → Bool) (entries : List BridgeEntry) (direct : Bool) → IsDesign design → KeepsToTree design.circuit design.tree → AreApart design.tree listed → IsBase (hub_of design.circuit design.tree listed piped entries direct)
plan-base design listed piped entries direct is keeps apart =
    base-of design.circuit design.tree listed piped entries direct is.formed keeps.fitting keeps.scoped apart (pairs-once design.circuit design.tree listed entries is.formed keeps.fitting keeps.scoped apart) (ends design.circuit design.tree listed entries keeps.fitting apart)

module _ (design : Ordered) (listed : Listed) (piped : ℕ → Bool) (entries : List BridgeEntry) (direct : Bool) (is : IsDesign design) (keeps : KeepsToTree design.circuit design.tree) (apart : AreApart design.tree listed) (are : AreRoutes design listed entries (hub_of design.circuit design.tree listed piped entries direct)) where
  abbrev hub : Hub
  hub = hub_of design.circuit design.tree listed piped entries direct

  abbrev base : IsBase (hub_of design.circuit design.tree listed piped entries direct)
  base = plan-base design listed piped entries direct is keeps apart

  plan-share : (m : ℕ) (globals memories : List ℕ) → ((s : ℕ) → Contains globals s ↔ (MakesBy hub m s ⊎ Takes (routes hub) m s)) → IsAlong design.order globals → ((k : ℕ) → Contains memories k ↔ HasMemory design.tree listed m k) → AllPairs (λ a b. a < b) memories
      → IsPlanShare design listed hub m (channels_to (routes hub) m) (channels_from (routes hub) m) globals memories
  plan-share m globals memories signals along banks ascend =
      record {
        takes = refl;
        gives = refl;
        signals = signals;
        along = along;
        banks = banks;
        ascend = ascend;
        choice = λ low. are.choice m globals memories low signals (along-once design.order globals is.ordered.once along) banks (λ i j d less lt same. absurd (omega (arith, ascend i j d less lt, same)));
      }

  -- the hub has what stays of what it had
  pub hub-plan-share : (gone : List Bool) (ins outs globals memories : List ℕ) → ((s : ℕ) → s < length design.circuit.signals → is_marked gone s ≡ is_gone hub s) → IsShareOf design listed (wires_of design.circuit design.tree listed entries) 0 ins outs globals memories
      → IsPlanShare design listed hub 0 (channels_to (routes hub) 0) (channels_from (routes hub) 0) (filter (stays_by (routes hub) gone) globals) memories
  hub-plan-share gone ins outs globals memories marks own =
      plan-share 0 (filter (stays_by (routes hub) gone) globals) memories
      (hub-signals hub base gone globals (λ s h. marks s (known s ((own.signals s).0 h))) own.signals)
      (AllPairs-filter (λ a b. Precedes design.order a b) (stays_by (routes hub) gone) globals own.along) own.banks own.ascend
    where
      known : (s : ℕ) → Made hub base 0 s ⊎ Taken hub base 0 s → s < length design.circuit.signals
      known s (inl (inl inner)) = inner.0
      known s (inl (inr h)) = let w = wire-made hub base 0 s h in subst (λ t. t < length design.circuit.signals) w.is (All-contains (λ (v : Wire). v.signal < length design.circuit.signals) hub.base w.wire base.known w.among)
      known s (inr h) = let w = wire-taken hub base 0 s h in subst (λ t. t < length design.circuit.signals) w.is (All-contains (λ (v : Wire). v.signal < length design.circuit.signals) hub.base w.wire base.known w.among)

  -- every other machine has what it had
  pub other-plan-share : (m : ℕ) (ins outs globals memories : List ℕ) → m ≢ 0 → IsShareOf design listed (wires_of design.circuit design.tree listed entries) m ins outs globals memories
      → IsPlanShare design listed hub m (channels_to (routes hub) m) (channels_from (routes hub) m) globals memories
  other-plan-share m ins outs globals memories other own =
      plan-share m globals memories (λ s. (λ h. has-still hub base m s other ((own.signals s).0 h), λ has. (own.signals s).1 (had hub base m s has))) own.along own.banks own.ascend
