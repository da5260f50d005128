-- What is among the routed channels.
use Rattle.std.proofs.Common.{◌≡◌, ◌≢◌, ℕ, ◌+◌, ◌<◌, List, Bool, true, false, not, Option, Some, None, length, map, get_or, sym, ◌∙◌, ap, subst, refl, eq-eqb, arith}
use Rattle.std.specs.Prelude.{◌&&◌, ◌==◌, Contains, All, AllPairs, filter}
use Rattle.std.specs.List.{list_any, range_with_len}
use Rattle.std.proofs.lemmas.Bool.{and_parts, eqb-true, not-true}
use Rattle.std.proofs.lemmas.List.{get_or-map, get_or_default, length-map}
use Rattle.std.proofs.lemmas.List.Elements.{All-contains, All-filter, All-map, Contains-get_or}
use Rattle.std.proofs.lemmas.List.Kept.{AllPairs-filter}
use Rattle.std.proofs.lemmas.List.FromFn.{get_or-range_with_len, length-range_with_len}
use Rattle.gg_flat.proofs.ListLemmas.{Contains-map, Contains-filter, filter-cases, in-range, range-below, once-apart}
use Rattle.gg_cut_plan.specs.declared.wires.Wire.{Wire}
use Rattle.gg_cut_plan.specs.Channels.{wire}
use Rattle.gg_cut_split.proofs.ClosedLemmas.ListLemmas.{map-cases, AllPairs-map}
use Rattle.gg_cut_plan.specs.Direct.{Hub, is_own, is_taken, is_gone, left_by, is_number, origin, direct_of, giver, giver_or, route, route_by, routes}
use Rattle.gg_cut_plan.proofs.OriginLemmas.{any-finds, finds-any, clash, Chain, Here, Copy, chain, chain-end, own-free}
use Rattle.gg_cut_plan.proofs.DirectLemmas.{find-some, IsDirect, direct-is}

-- ---- the items of a list that pass a test, by number

module _ {A : Type 0} (xs : List A) (any : A) (test : A → Bool) (f : A → ℕ) where
  pub record HasItem (s : ℕ) : Type 0 where
    pub item : A
    pub among : Contains xs item
    pub passes : test item ≡ true
    pub is : f item ≡ s

  pub chosen-in : (x : A) → Contains xs x → test x ≡ true → Contains (map (λ c. f (get_or xs c any)) (filter (λ c. test (get_or xs c any)) (range_with_len 0 (length xs)))) (f x)
  chosen-in x h e =
      let at : get_or xs h.0 any ≡ x = get_or_default xs h.0 any x h.1 ∙ h.2 in
      subst (λ s. Contains (map (λ c. f (get_or xs c any)) (filter (λ c. test (get_or xs c any)) (range_with_len 0 (length xs)))) s) (ap f at)
      (Contains-map (λ c. f (get_or xs c any)) (filter (λ c. test (get_or xs c any)) (range_with_len 0 (length xs))) h.0
      (Contains-filter (λ c. test (get_or xs c any)) (range_with_len 0 (length xs)) h.0 (in-range (length xs) h.0 h.1) (ap test at ∙ e)))

  pub chosen-out : (s : ℕ) → Contains (map (λ c. f (get_or xs c any)) (filter (λ c. test (get_or xs c any)) (range_with_len 0 (length xs)))) s → HasItem s
  chosen-out s h =
      let numbers = filter (λ c. test (get_or xs c any)) (range_with_len 0 (length xs)) in
      let at = map-cases (λ c. f (get_or xs c any)) numbers s h in
      let c = get_or numbers at.place 0 in
      let kept = filter-cases (λ c. test (get_or xs c any)) (range_with_len 0 (length xs)) c (Contains-get_or numbers at.place 0 at.within) in
      record { item = get_or xs c any; among = Contains-get_or xs c any (range-below (length xs) c kept.among); passes = kept.passes; is = at.holds 0 }

  pub chosen-once : AllPairs (λ a b. f a ≢ f b) xs → AllPairs (λ a b. a ≢ b) (map (λ c. f (get_or xs c any)) (filter (λ c. test (get_or xs c any)) (range_with_len 0 (length xs))))
  chosen-once once =
      AllPairs-map (λ a b. a ≢ b) (λ c. f (get_or xs c any)) (filter (λ c. test (get_or xs c any)) (range_with_len 0 (length xs)))
      (AllPairs-filter (λ c d. f (get_or xs c any) ≢ f (get_or xs d any)) (λ c. test (get_or xs c any)) (range_with_len 0 (length xs)) pairs)
    where
      number : (i d : ℕ) → i < length xs → get_or (range_with_len 0 (length xs)) i d ≡ i
      number i d lt = get_or-range_with_len 0 (length xs) i d lt ∙ (let same : 0 + i ≡ i = omega arith in same)

      pairs : AllPairs (λ c d. f (get_or xs c any) ≢ f (get_or xs d any)) (range_with_len 0 (length xs))
      pairs i j d less lt same =
          let inside : j < length xs = omega (arith, lt, length-range_with_len 0 (length xs)) in
          let low : i < length xs = omega (arith, less, inside) in
          once i j any less inside (ap (λ c. f (get_or xs c any)) (sym (number i d low)) ∙ same ∙ ap (λ c. f (get_or xs c any)) (number j d inside))

pub number-is : (x : ℕ) (o : Option ℕ) → is_number x o ≡ true → o ≡ Some x
number-is x None e = absurd (clash false e refl)
number-is x (Some y) e = ap Some (sym (eqb-true x y e))

-- ---- the channels before

-- No two channels carry one signal. The ends of each are two machines, its signal is known, and its producer gives it by that
-- signal.
pub record IsBase (hub : Hub) : Type 0 where
  pub once : AllPairs (λ v w. v.signal ≢ w.signal) hub.base
  pub apart : All (λ w. w.producer ≢ w.consumer) hub.base
  pub known : All (λ w. w.signal < length hub.circuit.signals) hub.base
  pub plain : All (λ w. w.given ≡ w.signal) hub.base

module _ (hub : Hub) (base : IsBase hub) where
  pub same-wire : (v w : Wire) → Contains hub.base v → Contains hub.base w → v.signal ≡ w.signal → v ≡ w
  same-wire v w h k e =
      let long = length-map hub.base (λ (u : Wire). u.signal) in
      let first : h.0 < length (map (λ (u : Wire). u.signal) hub.base) = omega (arith, h.1, long) in
      let second : k.0 < length (map (λ (u : Wire). u.signal) hub.base) = omega (arith, k.1, long) in
      let there = get_or_default hub.base k.0 v w k.1 ∙ k.2 in
      let place =
      once-apart (map (λ (u : Wire). u.signal) hub.base) 0 (AllPairs-map (λ a b. a ≢ b) (λ (u : Wire). u.signal) hub.base base.once) h.0 k.0 first second
      (get_or-map (λ (u : Wire). u.signal) hub.base h.0 v 0 h.1 ∙ ap (λ (u : Wire). u.signal) h.2 ∙ e ∙ sym (get_or-map (λ (u : Wire). u.signal) hub.base k.0 v 0 k.1 ∙ ap (λ (u : Wire). u.signal) there)) in
      sym h.2 ∙ ap (λ i. get_or hub.base i v) place ∙ there

  pub apart-at : (w : Wire) → Contains hub.base w → w.producer ≢ w.consumer
  apart-at w h = All-contains (λ (v : Wire). v.producer ≢ v.consumer) hub.base w base.apart h

  pub giver-is : (v : Wire) → Contains hub.base v → giver hub v.signal ≡ v.producer
  giver-is v h =
      let f = find-some (λ (w : Wire). w.signal == v.signal) hub.base (finds-any (λ (w : Wire). w.signal == v.signal) hub.base v h (eq-eqb v.signal v.signal refl)) in
      ap giver_or f.is ∙ ap (λ (w : Wire). w.producer) (same-wire f.item v f.among h (eqb-true f.item.signal v.signal f.passes))

  -- the channel of a signal that the hub takes
  pub record IsInto (x : ℕ) : Type 0 where
    pub wire : Wire
    pub among : Contains hub.base wire
    pub is : wire.signal ≡ x
    pub consumer : wire.consumer ≡ 0

  pub into : (x : ℕ) → is_taken hub x ≡ true → IsInto x
  into x e =
      let w = any-finds (λ (w : Wire). (w.consumer == 0) && (w.signal == x)) hub.base e in
      let parts = and_parts (w.item.consumer == 0) (w.item.signal == x) w.passes in
      record { wire = w.item; among = w.among; is = eqb-true w.item.signal x parts.1; consumer = eqb-true w.item.consumer 0 parts.0 }

  pub own-no-wire : (w : Wire) → Contains hub.base w → is_own hub w.signal ≡ true → ⊥
  own-no-wire w h own = clash (list_any (λ (v : Wire). v.signal == w.signal) hub.base) (finds-any (λ (v : Wire). v.signal == w.signal) hub.base w h (eq-eqb w.signal w.signal refl)) (own-free hub w.signal own)

  -- a channel that the hub doesn't take isn't gone
  pub port-stays : (w : Wire) → Contains hub.base w → w.consumer ≢ 0 → is_gone hub w.signal ≡ false
  port-stays w h other = by (origin hub w.signal) refl
    where
      no-chain : (x : ℕ) → Chain hub (length hub.circuit.signals) w.signal x → ⊥
      no-chain x (Here more same taken plain is) = let v = into w.signal taken in other (ap (λ (u : Wire). u.consumer) (same-wire w v.wire h v.among (sym v.is)) ∙ v.consumer)
      no-chain x (Copy more t same taken own to rest) = own-no-wire w h own

      by : (o : Option ℕ) → origin hub w.signal ≡ o → is_gone hub w.signal ≡ false
      by None e = ap (left_by hub) e
      by (Some x) e = absurd (no-chain x (chain hub (length hub.circuit.signals) w.signal x e))

  -- ---- how a channel is routed

  pub data Routing (w : Wire) : Type 0 where
    Plain : direct_of hub w ≡ None → Routing w
    Direct : (x : ℕ) → direct_of hub w ≡ Some x → IsDirect hub w x → IsInto x → Routing w

  pub routing : (w : Wire) → Routing w
  routing w = by (direct_of hub w) refl
    where
      by : (o : Option ℕ) → direct_of hub w ≡ o → Routing w
      by None e = Plain e
      by (Some x) e = let d = direct-is hub w x e in Direct x e d (into x (chain-end hub (length hub.circuit.signals) d.next x d.from).taken)

  pub route-signal : (w : Wire) → (route hub w).signal ≡ w.signal
  route-signal w = by (direct_of hub w)
    where
      by : (o : Option ℕ) → (route_by hub w o).signal ≡ w.signal
      by None = refl
      by (Some x) = refl

  pub route-consumer : (w : Wire) → (route hub w).consumer ≡ w.consumer
  route-consumer w = by (direct_of hub w)
    where
      by : (o : Option ℕ) → (route_by hub w o).consumer ≡ w.consumer
      by None = refl
      by (Some x) = refl

  pub given-at : (w : Wire) → Contains hub.base w → w.given ≡ w.signal
  given-at w h = All-contains (λ (v : Wire). v.given ≡ v.signal) hub.base w base.plain h

  pub plain-given : (w : Wire) → Contains hub.base w → direct_of hub w ≡ None → (route hub w).given ≡ w.signal
  plain-given w h e = ap (λ o. (route_by hub w o).given) e ∙ given-at w h

  pub plain-producer : (w : Wire) → direct_of hub w ≡ None → (route hub w).producer ≡ w.producer
  plain-producer w e = ap (λ o. (route_by hub w o).producer) e

  pub direct-given : (w : Wire) (x : ℕ) → direct_of hub w ≡ Some x → (route hub w).given ≡ x
  direct-given w x e = ap (λ o. (route_by hub w o).given) e

  -- a direct channel's producer is that of its origin
  pub direct-producer : (w : Wire) (x : ℕ) → direct_of hub w ≡ Some x → (v : IsInto x) → (route hub w).producer ≡ v.wire.producer
  direct-producer w x e v = ap (λ o. (route_by hub w o).producer) e ∙ ap (giver hub) (sym v.is) ∙ giver-is v.wire v.among

  -- ---- what is left

  pub in-routes : (w : Wire) → Contains hub.base w → is_gone hub w.signal ≡ false → Contains (routes hub) (route hub w)
  in-routes w h e =
      Contains-map (route hub) (filter (λ (w : Wire). not (is_gone hub w.signal)) hub.base) w
      (Contains-filter (λ (w : Wire). not (is_gone hub w.signal)) hub.base w h (ap not e))

  pub record IsRoute (r : Wire) : Type 0 where
    pub wire : Wire
    pub among : Contains hub.base wire
    pub stays : is_gone hub wire.signal ≡ false
    pub is : route hub wire ≡ r

  pub out-routes : (r : Wire) → Contains (routes hub) r → IsRoute r
  out-routes r h =
      let left = filter (λ (w : Wire). not (is_gone hub w.signal)) hub.base in
      let at = map-cases (route hub) left r h in
      let any : Wire = wire 0 0 0 in
      let w = get_or left at.place any in
      let kept = filter-cases (λ (w : Wire). not (is_gone hub w.signal)) hub.base w (Contains-get_or left at.place any at.within) in
      record { wire = w; among = kept.among; stays = not-true (is_gone hub w.signal) kept.passes; is = at.holds any }

  pub routes-once : AllPairs (λ (r s : Wire). r.signal ≢ s.signal) (routes hub)
  routes-once =
      AllPairs-map (λ (r s : Wire). r.signal ≢ s.signal) (route hub) (filter (λ (w : Wire). not (is_gone hub w.signal)) hub.base)
      (AllPairs-filter (λ v w. (route hub v).signal ≢ (route hub w).signal) (λ (w : Wire). not (is_gone hub w.signal)) hub.base
      (λ i j d less lt same. base.once i j d less lt (sym (route-signal (get_or hub.base i d)) ∙ same ∙ route-signal (get_or hub.base j d))))

  pub routes-known : All (λ (r : Wire). r.signal < length hub.circuit.signals) (routes hub)
  routes-known =
      All-map (λ (r : Wire). r.signal < length hub.circuit.signals) (route hub) (filter (λ (w : Wire). not (is_gone hub w.signal)) hub.base)
      (All-filter (λ (w : Wire). not (is_gone hub w.signal)) (λ (w : Wire). (route hub w).signal < length hub.circuit.signals) hub.base
      (λ k d lt. subst (λ s. s < length hub.circuit.signals) (sym (route-signal (get_or hub.base k d))) (base.known k d lt)))

  -- what a machine gives it doesn't take
  pub no-echo : (r s : Wire) → Contains (routes hub) r → Contains (routes hub) s → r.producer ≡ s.consumer → r.given ≢ s.signal
  no-echo r s h k ends same =
      let v = out-routes r h in
      let w = out-routes s k in
      let consumer : s.consumer ≡ w.wire.consumer = ap (λ (q : Wire). q.consumer) (sym w.is) ∙ route-consumer w.wire in
      let signal : s.signal ≡ w.wire.signal = ap (λ (q : Wire). q.signal) (sym w.is) ∙ route-signal w.wire in
      by v w consumer signal (routing v.wire)
    where
      by : (v : IsRoute r) (w : IsRoute s) → s.consumer ≡ w.wire.consumer → s.signal ≡ w.wire.signal → Routing v.wire → ⊥
      by v w consumer signal (Plain e) =
          let given : r.given ≡ v.wire.signal = ap (λ (q : Wire). q.given) (sym v.is) ∙ plain-given v.wire v.among e in
          let producer : r.producer ≡ v.wire.producer = ap (λ (q : Wire). q.producer) (sym v.is) ∙ plain-producer v.wire e in
          let one = same-wire v.wire w.wire v.among w.among (sym given ∙ same ∙ signal) in
          apart-at v.wire v.among (sym producer ∙ ends ∙ consumer ∙ ap (λ (u : Wire). u.consumer) (sym one))
      by v w consumer signal (Direct x e d into) =
          let given : r.given ≡ x = ap (λ (q : Wire). q.given) (sym v.is) ∙ direct-given v.wire x e in
          let producer : r.producer ≡ into.wire.producer = ap (λ (q : Wire). q.producer) (sym v.is) ∙ direct-producer v.wire x e into in
          let one = same-wire into.wire w.wire into.among w.among (into.is ∙ sym given ∙ same ∙ signal) in
          apart-at into.wire into.among (sym producer ∙ ends ∙ consumer ∙ ap (λ (u : Wire). u.consumer) (sym one))
