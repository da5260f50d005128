-- What stays of the hub is closed: a signal that the hub makes and that stays names only what stays.
use Rattle.std.proofs.Common.{◌≡◌, ℕ, zero, suc, List, [], ◌∷◌, true, false, not, Option, Some, None, length, is_some, sym, ◌∙◌, ap, subst, inl, inr, ◌⊎◌, refl, eq-eqb, arith}
use Rattle.std.specs.Prelude.{◌&&◌, ◌==◌, ◌++◌, Contains, flat_map}
use Rattle.std.specs.List.{list_any}
use Rattle.std.proofs.lemmas.Bool.{cases_Bool, and_parts, and_right, eqb-true, not_from_true}
use Rattle.std.proofs.lemmas.List.Elements.{Contains-append_left, Contains-append_right}
use Rattle.gg_flat.specs.Circuit.{driver_at}
use Rattle.gg_flat.proofs.ListLemmas.{Contains-filter}
use Rattle.gg_cut_plan.specs.declared.wires.Wire.{Wire}
use Rattle.gg_cut_plan.specs.Direct.{Hub, made, named_by, kept, is_own, is_taken, is_direct, is_gone, left_by, is_number, origin, direct_of, driver_names}
use Rattle.gg_cut_plan.proofs.DirectLemmas.{direct-is}
use Rattle.gg_cut_routes.proofs.NameLemmas.{flat-in}
use Rattle.gg_cut_plan.proofs.OriginLemmas.{any-finds, finds-any, clash, copied-is, copy-names, Chain, Here, Copy, chain, own-untaken, origin-copy}

module _ (hub : Hub) where
  -- the signal has no direct channel, and it isn't gone
  pub record Stays (s : ℕ) : Type 0 where
    pub direct : is_direct hub s ≡ false
    pub gone : is_gone hub s ≡ false

  -- what is named in the hub has no direct channel
  pub named-plain : (t : ℕ) → Contains (named_by hub (made hub)) t → is_direct hub t ≡ false
  named-plain t h = by (cases_Bool (is_direct hub t))
    where
      at : (w : Wire) → w.signal ≡ t → (o : Option ℕ) → direct_of hub w ≡ o → is_some o ≡ true → ⊥
      at w is None e some = clash false some refl
      at w is (Some x) e some =
          clash (list_any (λ u. w.signal == u) (named_by hub (made hub) ++ hub.stops))
          (finds-any (λ u. w.signal == u) (named_by hub (made hub) ++ hub.stops) t (Contains-append_left (named_by hub (made hub)) hub.stops t h) (eq-eqb w.signal t is)) (direct-is hub w x e).may.unnamed

      by : (is_direct hub t ≡ true) ⊎ (is_direct hub t ≡ false) → is_direct hub t ≡ false
      by (inl e) =
          let w = any-finds (λ (w : Wire). (w.signal == t) && is_some (direct_of hub w)) hub.base e in
          let parts = and_parts (w.item.signal == t) (is_some (direct_of hub w.item)) w.passes in
          absurd (at w.item (eqb-true w.item.signal t parts.0) (direct_of hub w.item) refl parts.1)
      by (inr e) = e

  -- what is named by what is kept isn't gone
  pub kept-stays : (t : ℕ) → Contains (named_by hub (kept hub)) t → is_gone hub t ≡ false
  kept-stays t h = by (origin hub t) refl
    where
      by : (o : Option ℕ) → origin hub t ≡ o → is_gone hub t ≡ false
      by None e = ap (left_by hub) e
      by (Some x) e =
          let at = finds-any (λ u. is_number x (origin hub u)) (named_by hub (kept hub)) t h (ap (is_number x) e ∙ eq-eqb x x refl) in
          ap (left_by hub) e
          ∙ and_right (list_any (λ (w : Wire). is_number x (direct_of hub w)) hub.base) (not (list_any (λ u. is_number x (origin hub u)) (named_by hub (kept hub))))
          (not_from_true (list_any (λ u. is_number x (origin hub u)) (named_by hub (kept hub))) at)

  -- a field of the hub's memories stays
  pub held-stays : (t : ℕ) → Contains hub.held t → Stays t
  held-stays t h =
      record {
        direct = named-plain t (Contains-append_right (flat_map (λ s. driver_names hub.circuit (driver_at hub.circuit s)) (made hub)) hub.held t h);
        gone = kept-stays t (Contains-append_right (flat_map (λ s. driver_names hub.circuit (driver_at hub.circuit s)) (kept hub)) hub.held t h);
      }

  pub named-in : (signals : List ℕ) (s t : ℕ) → Contains signals s → Contains (driver_names hub.circuit (driver_at hub.circuit s)) t → Contains (named_by hub signals) t
  named-in signals s t among h =
      Contains-append_left (flat_map (λ s. driver_names hub.circuit (driver_at hub.circuit s)) signals) hub.held t
      (flat-in (λ s. driver_names hub.circuit (driver_at hub.circuit s)) signals s t among h)

  only-one : (u t : ℕ) → Contains (u ∷ []) t → u ≡ t
  only-one u t (zero, lt, e) = e
  only-one u t (suc k, lt, e) = absurd (omega (arith, lt))

  -- what a signal names that the hub makes and that stays
  pub named-stays : (s t : ℕ) → Contains (made hub) s → Stays s → Contains (driver_names hub.circuit (driver_at hub.circuit s)) t → Stays t
  named-stays s t among stays h = record { direct = named-plain t (named-in (made hub) s t among h); gone = by (cases_Bool (is_own hub s && is_some (origin hub s))) }
    where
      copy : (o : Option ℕ) → is_own hub s ≡ true → origin hub s ≡ o → is_some o ≡ true → is_gone hub t ≡ false
      copy None own e some = absurd (clash false some refl)
      copy (Some y) own e some = at (chain hub (length hub.circuit.signals) s y e)
        where
          at : Chain hub (length hub.circuit.signals) s y → is_gone hub t ≡ false
          at (Here more same taken plain is) = absurd (clash (is_taken hub s) taken (own-untaken hub s own))
          at (Copy more u same taken own to rest) =
              let is : u ≡ t = only-one u t (subst (λ (l : List ℕ). Contains l t) (copy-names hub.circuit s u (copied-is hub.circuit s u to)) h) in
              let from = subst (λ v. origin hub v ≡ Some y) is (origin-copy hub s u y own to e) in
              ap (left_by hub) (from ∙ sym e) ∙ stays.gone

      by : ((is_own hub s && is_some (origin hub s)) ≡ true) ⊎ ((is_own hub s && is_some (origin hub s)) ≡ false) → is_gone hub t ≡ false
      by (inl e) = let parts = and_parts (is_own hub s) (is_some (origin hub s)) e in copy (origin hub s) parts.0 refl parts.1
      by (inr e) =
          kept-stays t
          (named-in (kept hub) s t
          (Contains-filter (λ u. not (is_own hub u && is_some (origin hub u)) && not (is_direct hub u)) (made hub) s among (ap (λ b. not b && not (is_direct hub s)) e ∙ ap not stays.direct))
          h)
