-- The routed channels of a machine, with what it makes and takes, are a choice: of the choice for the plain channels what stays.
use Rattle.std.proofs.Common.{◌≡◌, ◌≢◌, ℕ, ◌<◌, List, Bool, true, false, not, Option, Some, None, length, get_or, is_some, sym, ◌∙◌, ap, subst, inl, inr, ◌⊎◌, refl, eq-eqb, arith}
use Rattle.std.specs.Prelude.{◌↔◌, ◌&&◌, ◌||◌, ◌==◌, Contains, AllPairs, filter}
use Rattle.std.specs.List.{list_any, range_with_len}
use Rattle.std.proofs.lemmas.Bool.{cases_Bool, and_parts, and_from, or_cases, or_left, or_right, eqb-true, not-true, not_from_false}
use Rattle.std.proofs.lemmas.List.{get_or_default}
use Rattle.std.proofs.lemmas.List.Elements.{All-contains, Contains-get_or}
use Rattle.gg_flat_tree.specs.Scoped.{memory_fields}
use Rattle.gg_flat.proofs.ListLemmas.{Contains-filter, filter-cases, in-range, range-below, numbers-up}
use Rattle.gg_cut_plan.specs.declared.wires.Wire.{Wire}
use Rattle.gg_cut_plan.specs.Channels.{wire}
use Rattle.gg_cut_plan.specs.Plan.{wire_at, channels_to, channels_from, signals_of, givens_of, IsInner, Takes, MakesBy}
use Rattle.gg_cut_plan.specs.Direct.{Hub, made, named_by, kept, is_own, is_taken, is_given, is_gone, is_direct, left_by, is_number, origin, direct_of, route, routes}
use Rattle.gg_cut_plan.proofs.OriginLemmas.{Finds, any-finds, finds-any, clash, Chain, Here, Copy, chain}
use Rattle.gg_cut_plan.proofs.DirectLemmas.{IsFromBase, direct-is}
use Rattle.gg_cut_routes.proofs.GoneLemmas.{Stays, held-stays, named-stays}
use Rattle.gg_cut_routes.proofs.RouteLemmas.{chosen-in, chosen-out, chosen-once, number-is, IsBase, same-wire, apart-at, given-at, IsInto, own-no-wire, port-stays, Routing, Plain, Direct, routing, route-signal, route-consumer, plain-given, plain-producer, direct-given, direct-producer, in-routes, IsRoute, out-routes, routes-once}
use Rattle.gg_cut_routes.proofs.SubLemmas.{IsSub}

abbrev pub any-wire : Wire
any-wire = wire 0 0 0

module _ (hub : Hub) (base : IsBase hub) where
  -- ---- a machine's channels, as items

  gives-in : (w : Wire) (m s : ℕ) → Contains (routes hub) (route hub w) → (route hub w).producer ≡ m → (route hub w).given ≡ s → Contains (givens_of (routes hub) (channels_from (routes hub) m)) s
  gives-in w m s h producer given =
      subst (λ t. Contains (givens_of (routes hub) (channels_from (routes hub) m)) t) given
      (chosen-in (routes hub) any-wire (λ (r : Wire). r.producer == m) (λ (r : Wire). r.given) (route hub w) h (eq-eqb (route hub w).producer m producer))

  -- a channel that the machine takes
  pub record IsTo (m s : ℕ) : Type 0 where
    pub wire : Wire
    pub among : Contains hub.base wire
    pub stays : is_gone hub wire.signal ≡ false
    pub consumer : wire.consumer ≡ m
    pub is : wire.signal ≡ s

  pub takes-out : (m s : ℕ) → Takes (routes hub) m s → IsTo m s
  takes-out m s h =
      let r = chosen-out (routes hub) any-wire (λ (r : Wire). r.consumer == m) (λ (r : Wire). r.signal) s h in
      let w = out-routes hub base r.item r.among in
      record {
        wire = w.wire;
        among = w.among;
        stays = w.stays;
        consumer = sym (route-consumer hub base w.wire) ∙ ap (λ (q : Wire). q.consumer) w.is ∙ eqb-true r.item.consumer m r.passes;
        is = sym (route-signal hub base w.wire) ∙ ap (λ (q : Wire). q.signal) w.is ∙ r.is;
      }

  pub takes-in : (w : Wire) (m : ℕ) → Contains hub.base w → is_gone hub w.signal ≡ false → w.consumer ≡ m → Takes (routes hub) m w.signal
  takes-in w m h stays consumer =
      subst (λ s. Takes (routes hub) m s) (route-signal hub base w)
      (chosen-in (routes hub) any-wire (λ (r : Wire). r.consumer == m) (λ (r : Wire). r.signal) (route hub w) (in-routes hub base w h stays) (eq-eqb (route hub w).consumer m (route-consumer hub base w ∙ consumer)))

  -- a channel that the machine gives: it was so before, and it stays, or it is the origin of a direct one, and another machine's
  pub data From (m s : ℕ) : Type 0 where
    Same : (w : IsFromBase hub m s) → is_gone hub w.wire.signal ≡ false → direct_of hub w.wire ≡ None → From m s
    Origin : (w : IsFromBase hub m s) → w.wire.consumer ≡ 0 → From m s

  pub gives-out : (m s : ℕ) → Contains (givens_of (routes hub) (channels_from (routes hub) m)) s → From m s
  gives-out m s h =
      let r = chosen-out (routes hub) any-wire (λ (r : Wire). r.producer == m) (λ (r : Wire). r.given) s h in
      let w = out-routes hub base r.item r.among in
      by w (ap (λ (q : Wire). q.producer) w.is ∙ eqb-true r.item.producer m r.passes) (ap (λ (q : Wire). q.given) w.is ∙ r.is) (routing hub base w.wire)
    where
      by : {r : Wire} (w : IsRoute hub base r) → (route hub w.wire).producer ≡ m → (route hub w.wire).given ≡ s → Routing hub base w.wire → From m s
      by w producer given (Plain e) =
          Same
          (record { wire = w.wire; among = w.among; producer = sym (plain-producer hub base w.wire e) ∙ producer; is = sym (plain-given hub base w.wire w.among e) ∙ given })
          w.stays e
      by w producer given (Direct x e d v) =
          Origin
          (record { wire = v.wire; among = v.among; producer = sym (direct-producer hub base w.wire x e v) ∙ producer; is = v.is ∙ sym (direct-given hub base w.wire x e) ∙ given })
          v.consumer

  -- ---- a unit or a memory: it gives what it gave

  -- another machine than the hub gives each signal that it gave, also one that leaves: then by the direct channels
  pub gives-all : (m : ℕ) (w : Wire) → m ≢ 0 → Contains hub.base w → w.producer ≡ m → Contains (givens_of (routes hub) (channels_from (routes hub) m)) w.signal
  gives-all m w other h producer = by (cases_Bool (is_gone hub w.signal))
    where
      left : (o : Option ℕ) → origin hub w.signal ≡ o → left_by hub o ≡ true → Contains (givens_of (routes hub) (channels_from (routes hub) m)) w.signal
      left None e gone = absurd (clash false gone refl)
      left (Some x) e gone = at (chain hub (length hub.circuit.signals) w.signal x e)
        where
          at : Chain hub (length hub.circuit.signals) w.signal x → Contains (givens_of (routes hub) (channels_from (routes hub) m)) w.signal
          at (Copy more t same taken own to rest) = absurd (own-no-wire hub base w h own)
          at (Here more same taken plain is) =
              let some =
              any-finds (λ v. is_number x (direct_of hub v)) hub.base
              (and_parts (list_any (λ v. is_number x (direct_of hub v)) hub.base) (not (list_any (λ t. is_number x (origin hub t)) (named_by hub (kept hub)))) gone).0 in
              let direct = number-is x (direct_of hub some.item) some.passes in
              let d = direct-is hub some.item x direct in
              let into : IsInto hub base x = record { wire = w; among = h; is = is; consumer = taker taken } in
              gives-in some.item m w.signal
              (in-routes hub base some.item some.among (port-stays hub base some.item some.among (λ e. apart-at hub base some.item some.among (d.may.producer ∙ sym e))))
              (direct-producer hub base some.item x direct into ∙ producer)
              (direct-given hub base some.item x direct ∙ sym is)
            where
              taker : is_taken hub w.signal ≡ true → w.consumer ≡ 0
              taker e =
                  let v = any-finds (λ (v : Wire). (v.consumer == 0) && (v.signal == w.signal)) hub.base e in
                  let parts = and_parts (v.item.consumer == 0) (v.item.signal == w.signal) v.passes in
                  ap (λ (u : Wire). u.consumer) (same-wire hub base w v.item h v.among (sym (eqb-true v.item.signal w.signal parts.1))) ∙ eqb-true v.item.consumer 0 parts.0

      by : (is_gone hub w.signal ≡ true) ⊎ (is_gone hub w.signal ≡ false) → Contains (givens_of (routes hub) (channels_from (routes hub) m)) w.signal
      by (inl gone) = left (origin hub w.signal) refl gone
      by (inr stays) = at (routing hub base w)
        where
          at : Routing hub base w → Contains (givens_of (routes hub) (channels_from (routes hub) m)) w.signal
          at (Plain e) = gives-in w m w.signal (in-routes hub base w h stays) (plain-producer hub base w e ∙ producer) (plain-given hub base w h e)
          at (Direct x e d v) = absurd (other (sym producer ∙ d.may.producer))

  -- what no channel carries and belongs to another machine stays
  pub inner-stays : (m s : ℕ) → m ≢ 0 → hub.owner s ≡ m → IsInner hub.base s → is_gone hub s ≡ false
  inner-stays m s other owner inner = by (origin hub s) refl
    where
      no-chain : (x : ℕ) → Chain hub (length hub.circuit.signals) s x → ⊥
      no-chain x (Here more same taken plain is) =
          let v = any-finds (λ (v : Wire). (v.consumer == 0) && (v.signal == s)) hub.base taken in
          let parts = and_parts (v.item.consumer == 0) (v.item.signal == s) v.passes in
          inner-none v.item v.among (eqb-true v.item.signal s parts.1)
        where
          inner-none : (v : Wire) → Contains hub.base v → v.signal ≡ s → ⊥
          inner-none v h e = inner h.0 h.1 (ap (λ (u : Wire). u.signal) (get h.0 h.1 ∙ h.2) ∙ e)
            where
              get : (c : ℕ) → c < length hub.base → wire_at hub.base c ≡ get_or hub.base c v
              get c lt = get_or_default hub.base c any-wire v lt
      no-chain x (Copy more t same taken own to rest) = other (sym owner ∙ eqb-true (hub.owner s) 0 (and_parts (hub.owner s == 0) (not (list_any (λ (w : Wire). w.signal == s) hub.base)) own).0)

      by : (o : Option ℕ) → origin hub s ≡ o → is_gone hub s ≡ false
      by None e = ap (left_by hub) e
      by (Some x) e = absurd (no-chain x (chain hub (length hub.circuit.signals) s x e))

  -- the signal of a channel that isn't direct has no direct channel
  pub plain-wire : (w : Wire) → Contains hub.base w → direct_of hub w ≡ None → is_direct hub w.signal ≡ false
  plain-wire w h plain = by (cases_Bool (is_direct hub w.signal))
    where
      by : (is_direct hub w.signal ≡ true) ⊎ (is_direct hub w.signal ≡ false) → is_direct hub w.signal ≡ false
      by (inr e) = e
      by (inl e) =
          let v = any-finds (λ (v : Wire). (v.signal == w.signal) && is_some (direct_of hub v)) hub.base e in
          let parts = and_parts (v.item.signal == w.signal) (is_some (direct_of hub v.item)) v.passes in
          let same = same-wire hub base v.item w v.among h (eqb-true v.item.signal w.signal parts.0) in
          absurd (clash (is_some (direct_of hub w)) (subst (λ u. is_some (direct_of hub u) ≡ true) same parts.1) (ap is_some plain))

  -- a channel that the hub takes isn't direct
  pub taken-plain : (w : Wire) → Contains hub.base w → w.consumer ≡ 0 → direct_of hub w ≡ None
  taken-plain w h consumer = by (routing hub base w)
    where
      by : Routing hub base w → direct_of hub w ≡ None
      by (Plain e) = e
      by (Direct x e d v) = absurd (apart-at hub base w h (d.may.producer ∙ sym consumer))

  -- a channel whose signal has no direct channel isn't direct
  pub wire-plain : (w : Wire) → Contains hub.base w → is_direct hub w.signal ≡ false → direct_of hub w ≡ None
  wire-plain w h none = by (direct_of hub w) refl
    where
      by : (o : Option ℕ) → direct_of hub w ≡ o → direct_of hub w ≡ None
      by None e = e
      by (Some x) e = absurd (clash (is_direct hub w.signal) (finds-any (λ (v : Wire). (v.signal == w.signal) && is_some (direct_of hub v)) hub.base w h (and_from (w.signal == w.signal) (is_some (direct_of hub w)) (eq-eqb w.signal w.signal refl) (ap is_some e))) none)

  -- no channel of the base carries an inner signal, by items
  pub inner-item : (s : ℕ) → IsInner hub.base s → (v : Wire) → Contains hub.base v → v.signal ≡ s → ⊥
  inner-item s inner v h e = inner h.0 h.1 (ap (λ (u : Wire). u.signal) (get_or_default hub.base h.0 any-wire v h.1 ∙ h.2) ∙ e)

  pub inner-none : (s : ℕ) → IsInner hub.base s → list_any (λ (w : Wire). w.signal == s) hub.base ≡ false
  inner-none s inner = by (cases_Bool (list_any (λ (w : Wire). w.signal == s) hub.base))
    where
      by : (list_any (λ (w : Wire). w.signal == s) hub.base ≡ true) ⊎ (list_any (λ (w : Wire). w.signal == s) hub.base ≡ false) → list_any (λ (w : Wire). w.signal == s) hub.base ≡ false
      by (inr e) = e
      by (inl e) = let v = any-finds (λ (w : Wire). w.signal == s) hub.base e in absurd (inner-item s inner v.item v.among (eqb-true v.item.signal s v.passes))

  pub item-inner : (s : ℕ) → list_any (λ (w : Wire). w.signal == s) hub.base ≡ false → IsInner hub.base s
  item-inner s none c lt e =
      clash (list_any (λ (w : Wire). w.signal == s) hub.base)
      (finds-any (λ (w : Wire). w.signal == s) hub.base (wire_at hub.base c) (Contains-get_or hub.base c any-wire lt) (eq-eqb (wire_at hub.base c).signal s e)) none

  -- ---- what a machine had before, and what it has

  abbrev pub Made : ℕ → ℕ → Type 0
  Made m s = ((s < length hub.circuit.signals) × (hub.owner s ≡ m) × IsInner hub.base s) ⊎ Contains (givens_of hub.base (channels_from hub.base m)) s

  abbrev pub Taken : ℕ → ℕ → Type 0
  Taken m s = Contains (signals_of hub.base (channels_to hub.base m)) s

  pub given-wire : (m s : ℕ) (w : Wire) → Contains hub.base w → w.producer ≡ m → w.signal ≡ s → Contains (givens_of hub.base (channels_from hub.base m)) s
  given-wire m s w h producer is =
      subst (λ t. Contains (givens_of hub.base (channels_from hub.base m)) t) (given-at hub base w h ∙ is) (chosen-in hub.base any-wire (λ (v : Wire). v.producer == m) (λ (v : Wire). v.given) w h (eq-eqb w.producer m producer))

  pub made-wire : (m s : ℕ) (w : Wire) → Contains hub.base w → w.producer ≡ m → w.signal ≡ s → Made m s
  made-wire m s w h producer is = inr (given-wire m s w h producer is)

  pub taken-wire : (m s : ℕ) (w : Wire) → Contains hub.base w → w.consumer ≡ m → w.signal ≡ s → Taken m s
  taken-wire m s w h consumer is =
      subst (λ t. Contains (signals_of hub.base (channels_to hub.base m)) t) is (chosen-in hub.base any-wire (λ (v : Wire). v.consumer == m) (λ (v : Wire). v.signal) w h (eq-eqb w.consumer m consumer))

  pub wire-made : (m s : ℕ) → Contains (givens_of hub.base (channels_from hub.base m)) s → IsFromBase hub m s
  wire-made m s h =
      let w = chosen-out hub.base any-wire (λ (v : Wire). v.producer == m) (λ (v : Wire). v.given) s h in
      record { wire = w.item; among = w.among; producer = eqb-true w.item.producer m w.passes; is = sym (given-at hub base w.item w.among) ∙ w.is }

  pub record IsToBase (m s : ℕ) : Type 0 where
    pub wire : Wire
    pub among : Contains hub.base wire
    pub consumer : wire.consumer ≡ m
    pub is : wire.signal ≡ s

  pub wire-taken : (m s : ℕ) → Taken m s → IsToBase m s
  wire-taken m s h =
      let w = chosen-out hub.base any-wire (λ (v : Wire). v.consumer == m) (λ (v : Wire). v.signal) s h in
      record { wire = w.item; among = w.among; consumer = eqb-true w.item.consumer m w.passes; is = w.is }

  -- what a machine has, it had
  pub had : (m s : ℕ) → MakesBy hub m s ⊎ Takes (routes hub) m s → Made m s ⊎ Taken m s
  had m s (inl (inl own)) = inl (inl (own.0, own.1, own.2))
  had m s (inl (inr h)) = inl (by (gives-out m s h))
    where
      by : From m s → Made m s
      by (Same w stays plain) = made-wire m s w.wire w.among w.producer w.is
      by (Origin w into) = made-wire m s w.wire w.among w.producer w.is
  had m s (inr h) = let w = takes-out m s h in inr (taken-wire m s w.wire w.among w.consumer w.is)

  -- another machine than the hub has all that it had
  pub has-still : (m s : ℕ) → m ≢ 0 → Made m s ⊎ Taken m s → MakesBy hub m s ⊎ Takes (routes hub) m s
  has-still m s other (inl (inl own)) = inl (inl (own.0, own.1, own.2, inner-stays m s other own.1 own.2))
  has-still m s other (inl (inr h)) =
      let w = wire-made m s h in
      inl (inr (subst (λ t. Contains (givens_of (routes hub) (channels_from (routes hub) m)) t) w.is (gives-all m w.wire other w.among w.producer)))
  has-still m s other (inr h) =
      let w = wire-taken m s h in
      inr (subst (λ t. Takes (routes hub) m t) w.is (takes-in w.wire m w.among (port-stays hub base w.wire w.among (λ e. other (sym w.consumer ∙ e))) w.consumer))

  -- what the hub has stays
  pub hub-stays : (s : ℕ) → MakesBy hub 0 s ⊎ Takes (routes hub) 0 s → Stays hub s
  hub-stays s (inl (inl own)) = record { direct = no-direct; gone = own.3 }
    where
      no-direct : is_direct hub s ≡ false
      no-direct = by (cases_Bool (is_direct hub s))
        where
          by : (is_direct hub s ≡ true) ⊎ (is_direct hub s ≡ false) → is_direct hub s ≡ false
          by (inr e) = e
          by (inl e) =
              let v = any-finds (λ (w : Wire). (w.signal == s) && is_some (direct_of hub w)) hub.base e in
              absurd (inner-item s own.2 v.item v.among (eqb-true v.item.signal s (and_parts (v.item.signal == s) (is_some (direct_of hub v.item)) v.passes).0))
  hub-stays s (inl (inr h)) = by (gives-out 0 s h)
    where
      by : From 0 s → Stays hub s
      by (Same w stays plain) = record { direct = subst (λ t. is_direct hub t ≡ false) w.is (plain-wire w.wire w.among plain); gone = subst (λ t. is_gone hub t ≡ false) w.is stays }
      by (Origin w into) = absurd (apart-at hub base w.wire w.among (w.producer ∙ sym into))
  hub-stays s (inr h) =
      let w = takes-out 0 s h in
      record { direct = subst (λ t. is_direct hub t ≡ false) w.is (plain-wire w.wire w.among (taken-plain w.wire w.among w.consumer)); gone = subst (λ t. is_gone hub t ≡ false) w.is w.stays }

  -- what stays of what the hub had, it has
  pub hub-has : (s : ℕ) → Made 0 s ⊎ Taken 0 s → Stays hub s → MakesBy hub 0 s ⊎ Takes (routes hub) 0 s
  hub-has s (inl (inl own)) stays = inl (inl (own.0, own.1, own.2, stays.gone))
  hub-has s (inl (inr h)) stays =
      let w = wire-made 0 s h in
      let plain = wire-plain w.wire w.among (subst (λ t. is_direct hub t ≡ false) (sym w.is) stays.direct) in
      inl (inr (gives-in w.wire 0 s (in-routes hub base w.wire w.among (subst (λ t. is_gone hub t ≡ false) (sym w.is) stays.gone)) (plain-producer hub base w.wire plain ∙ w.producer) (plain-given hub base w.wire w.among plain ∙ w.is)))
  hub-has s (inr h) stays =
      let w = wire-taken 0 s h in
      inr (subst (λ t. Takes (routes hub) 0 t) w.is (takes-in w.wire 0 w.among (subst (λ t. is_gone hub t ≡ false) (sym w.is) stays.gone) w.consumer))

  -- what the hub had and doesn't take, it makes
  pub made-by : (s : ℕ) → Made 0 s ⊎ Taken 0 s → ¬ Taken 0 s → Contains (made hub) s
  made-by s (inl (inl own)) free =
      Contains-filter (λ t. is_own hub t || is_given hub t) (range_with_len 0 (length hub.circuit.signals)) s (in-range (length hub.circuit.signals) s own.0)
      (or_left (is_own hub s) (is_given hub s) (and_from (hub.owner s == 0) (not (list_any (λ (w : Wire). w.signal == s) hub.base)) (eq-eqb (hub.owner s) 0 own.1) (not_from_false (list_any (λ (w : Wire). w.signal == s) hub.base) (inner-none s own.2))))
  made-by s (inl (inr h)) free =
      let w = wire-made 0 s h in
      Contains-filter (λ t. is_own hub t || is_given hub t) (range_with_len 0 (length hub.circuit.signals)) s
      (in-range (length hub.circuit.signals) s (subst (λ t. t < length hub.circuit.signals) w.is (All-contains (λ (v : Wire). v.signal < length hub.circuit.signals) hub.base w.wire base.known w.among)))
      (or_right (is_own hub s) (is_given hub s)
      (finds-any (λ (v : Wire). (v.producer == 0) && (v.signal == s)) hub.base w.wire w.among (and_from (w.wire.producer == 0) (w.wire.signal == s) (eq-eqb w.wire.producer 0 w.producer) (eq-eqb w.wire.signal s w.is))))
  made-by s (inr h) free = absurd (free h)

  -- ---- the choice

  ins-once : (m : ℕ) → AllPairs (λ a b. a ≢ b) (signals_of (routes hub) (channels_to (routes hub) m))
  ins-once m = chosen-once (routes hub) any-wire (λ (r : Wire). r.consumer == m) (λ (r : Wire). r.signal) (routes-once hub base)

  pub ins-before : (m s : ℕ) → Takes (routes hub) m s → Taken m s
  ins-before m s h = let w = takes-out m s h in taken-wire m s w.wire w.among w.consumer w.is

  module _ (m : ℕ) (globals memories mine : List ℕ) (signals : (s : ℕ) → Contains globals s ↔ (Made m s ⊎ Taken m s)) (has : (s : ℕ) → Contains mine s ↔ (MakesBy hub m s ⊎ Takes (routes hub) m s)) (once : AllPairs (λ a b. a ≢ b) mine) where
    -- another machine than the hub
    pub other-sub : m ≢ 0 → IsSub hub.circuit globals (signals_of hub.base (channels_to hub.base m)) memories mine (signals_of (routes hub) (channels_to (routes hub) m)) (givens_of (routes hub) (channels_from (routes hub) m))
    other-sub other =
        record {
          within = λ s h. (signals s).1 (had m s ((has s).0 h));
          once = once;
          taken = λ s h. (has s).1 (inr h);
          entered = λ s h. ins-before m s h;
          ins_once = ins-once m;
          outside = λ s h e. taken s e;
          exits = λ s h. (has s).1 (inl (inr h));
          closed = λ s t h free named among. (has t).1 (has-still m t other ((signals t).0 among));
          fields = λ k s h field among. (has s).1 (has-still m s other ((signals s).0 among));
        }
      where
        taken : (s : ℕ) → Taken m s → Takes (routes hub) m s
        taken s e = let w = wire-taken m s e in subst (λ t. Takes (routes hub) m t) w.is (takes-in w.wire m w.among (port-stays hub base w.wire w.among (λ z. other (sym w.consumer ∙ z))) w.consumer)

  module _ (globals memories mine : List ℕ) (signals : (s : ℕ) → Contains globals s ↔ (Made 0 s ⊎ Taken 0 s)) (has : (s : ℕ) → Contains mine s ↔ (MakesBy hub 0 s ⊎ Takes (routes hub) 0 s)) (once : AllPairs (λ a b. a ≢ b) mine) (held : (k s : ℕ) → Contains memories k → Contains (memory_fields hub.circuit k) s → Contains hub.held s) where
    -- the hub
    pub hub-sub : IsSub hub.circuit globals (signals_of hub.base (channels_to hub.base 0)) memories mine (signals_of (routes hub) (channels_to (routes hub) 0)) (givens_of (routes hub) (channels_from (routes hub) 0))
    hub-sub =
        record {
          within = λ s h. (signals s).1 (had 0 s ((has s).0 h));
          once = once;
          taken = λ s h. (has s).1 (inr h);
          entered = λ s h. ins-before 0 s h;
          ins_once = ins-once 0;
          outside = λ s h e. taken s e (hub-stays s ((has s).0 h));
          exits = λ s h. (has s).1 (inl (inr h));
          closed = λ s t h free named among.
              let stays = hub-stays s ((has s).0 h) in
              (has t).1 (hub-has t ((signals t).0 among) (named-stays hub s t (made-by s (had 0 s ((has s).0 h)) free) stays named));
          fields = λ k s h field among. (has s).1 (hub-has s ((signals s).0 among) (held-stays hub s (held k s h field)));
        }
      where
        taken : (s : ℕ) → Taken 0 s → Stays hub s → Takes (routes hub) 0 s
        taken s e stays = let w = wire-taken 0 s e in subst (λ t. Takes (routes hub) 0 t) w.is (takes-in w.wire 0 w.among (subst (λ t. is_gone hub t ≡ false) (sym w.is) stays.gone) w.consumer)

  -- the signals that a machine had before
  abbrev pub before : ℕ → List ℕ
  before m = filter (λ s. ((hub.owner s == m) && not (list_any (λ (w : Wire). w.signal == s) hub.base)) || list_any (λ (w : Wire). ((w.producer == m) || (w.consumer == m)) && (w.signal == s)) hub.base) (range_with_len 0 (length hub.circuit.signals))

  pub before-is : (m s : ℕ) → Contains (before m) s ↔ (Made m s ⊎ Taken m s)
  before-is m s = (out, back)
    where
      test : ℕ → Bool
      test t = ((hub.owner t == m) && not (list_any (λ (w : Wire). w.signal == t) hub.base)) || list_any (λ (w : Wire). ((w.producer == m) || (w.consumer == m)) && (w.signal == t)) hub.base

      carried : (t : ℕ) → Finds (λ (w : Wire). ((w.producer == m) || (w.consumer == m)) && (w.signal == t)) hub.base → Made m t ⊎ Taken m t
      carried t v = ends (or_cases (v.item.producer == m) (v.item.consumer == m) parts.0)
        where
          parts : (((v.item.producer == m) || (v.item.consumer == m)) ≡ true) × ((v.item.signal == t) ≡ true)
          parts = and_parts ((v.item.producer == m) || (v.item.consumer == m)) (v.item.signal == t) v.passes

          ends : ((v.item.producer == m) ≡ true) ⊎ ((v.item.consumer == m) ≡ true) → Made m t ⊎ Taken m t
          ends (inl e) = inl (made-wire m t v.item v.among (eqb-true v.item.producer m e) (eqb-true v.item.signal t parts.1))
          ends (inr e) = inr (taken-wire m t v.item v.among (eqb-true v.item.consumer m e) (eqb-true v.item.signal t parts.1))

      out : Contains (before m) s → Made m s ⊎ Taken m s
      out h =
          let kept = filter-cases test (range_with_len 0 (length hub.circuit.signals)) s h in
          by (range-below (length hub.circuit.signals) s kept.among) (or_cases ((hub.owner s == m) && not (list_any (λ (w : Wire). w.signal == s) hub.base)) (list_any (λ (w : Wire). ((w.producer == m) || (w.consumer == m)) && (w.signal == s)) hub.base) kept.passes)
        where
          by : s < length hub.circuit.signals → (((hub.owner s == m) && not (list_any (λ (w : Wire). w.signal == s) hub.base)) ≡ true) ⊎ (list_any (λ (w : Wire). ((w.producer == m) || (w.consumer == m)) && (w.signal == s)) hub.base ≡ true) → Made m s ⊎ Taken m s
          by lt (inl e) =
              let parts = and_parts (hub.owner s == m) (not (list_any (λ (w : Wire). w.signal == s) hub.base)) e in
              inl (inl (lt, eqb-true (hub.owner s) m parts.0, item-inner s (not-true (list_any (λ (w : Wire). w.signal == s) hub.base) parts.1)))
          by lt (inr e) = carried s (any-finds (λ (w : Wire). ((w.producer == m) || (w.consumer == m)) && (w.signal == s)) hub.base e)

      put : s < length hub.circuit.signals → test s ≡ true → Contains (before m) s
      put lt e = Contains-filter test (range_with_len 0 (length hub.circuit.signals)) s (in-range (length hub.circuit.signals) s lt) e

      wire : (w : Wire) → Contains hub.base w → ((w.producer == m) || (w.consumer == m)) ≡ true → w.signal ≡ s → Contains (before m) s
      wire w h e is =
          put (subst (λ t. t < length hub.circuit.signals) is (All-contains (λ (v : Wire). v.signal < length hub.circuit.signals) hub.base w base.known h))
          (or_right ((hub.owner s == m) && not (list_any (λ (w : Wire). w.signal == s) hub.base)) (list_any (λ (w : Wire). ((w.producer == m) || (w.consumer == m)) && (w.signal == s)) hub.base)
          (finds-any (λ (v : Wire). ((v.producer == m) || (v.consumer == m)) && (v.signal == s)) hub.base w h (and_from ((w.producer == m) || (w.consumer == m)) (w.signal == s) e (eq-eqb w.signal s is))))

      back : Made m s ⊎ Taken m s → Contains (before m) s
      back (inl (inl own)) =
          put own.0
          (or_left ((hub.owner s == m) && not (list_any (λ (w : Wire). w.signal == s) hub.base)) (list_any (λ (w : Wire). ((w.producer == m) || (w.consumer == m)) && (w.signal == s)) hub.base)
          (and_from (hub.owner s == m) (not (list_any (λ (w : Wire). w.signal == s) hub.base)) (eq-eqb (hub.owner s) m own.1) (not_from_false (list_any (λ (w : Wire). w.signal == s) hub.base) (inner-none s own.2))))
      back (inl (inr h)) = let w = wire-made m s h in wire w.wire w.among (or_left (w.wire.producer == m) (w.wire.consumer == m) (eq-eqb w.wire.producer m w.producer)) w.is
      back (inr h) = let w = wire-taken m s h in wire w.wire w.among (or_right (w.wire.producer == m) (w.wire.consumer == m) (eq-eqb w.wire.consumer m w.consumer)) w.is

  pub before-once : (m : ℕ) → AllPairs (λ a b. a ≢ b) (before m)
  before-once m i j d less lt same =
      let up = numbers-up (λ s. ((hub.owner s == m) && not (list_any (λ (w : Wire). w.signal == s) hub.base)) || list_any (λ (w : Wire). ((w.producer == m) || (w.consumer == m)) && (w.signal == s)) hub.base) (length hub.circuit.signals) i j d less lt in
      omega (arith, up, same)
