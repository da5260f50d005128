-- Who makes a signal, and by which number a machine sees it.
use Rattle.std.proofs.Common.{◌≡◌, ◌≢◌, ℕ, suc, ◌+◌, ◌<◌, List, [], ◌∷◌, Bool, true, false, Option, Some, None, length, get_or, sym, ◌∙◌, ap, subst, inl, inr, ◌⊎◌, refl, eq-eqb, arith}
use Rattle.std.specs.Prelude.{◌&&◌, ◌==◌, if◌then◌else◌, cond, Contains, AllPairs, find}
use Rattle.std.specs.List.{list_any, range_with_len}
use Rattle.std.proofs.lemmas.Bool.{cases_Bool, and_parts, and_from, eqb-true, ne_eqb}
use Rattle.std.proofs.lemmas.List.Elements.{All-contains, Contains-get_or}
use Rattle.gg_flat.specs.Line.{value_at}
use Rattle.gg_flat.proofs.ListLemmas.{Contains-filter, filter-cases, in-range, range-below, numbers-up}
use Rattle.gg_cut_plan.specs.declared.wires.Wire.{Wire}
use Rattle.gg_cut_plan.specs.Listed.{first_place}
use Rattle.gg_cut_plan.proofs.PathLemmas.{first_place-Some}
use Rattle.gg_cut_split.proofs.ClosedLemmas.PlaceLemmas.{place-none}
use Rattle.gg_cut_plan.specs.Plan.{Takes, MakesBy}
use Rattle.gg_cut_plan.specs.Direct.{Hub, is_own, routes, origin_within}
use Rattle.gg_cut_reference.specs.inside.Reference.{IsSeen, IsPiped}
use Rattle.gg_cut_reference.specs.Links.{is_carried, pipes_of, taken_as, seen_by, maker_or, maker_of}
use Rattle.gg_bits.specs.Lists.{number_or}
use Rattle.gg_cut_plan.proofs.OriginLemmas.{any-finds, finds-any, clash, Chain, Here, Copy, chain}
use Rattle.gg_cut_routes.proofs.RouteLemmas.{IsBase, routes-known, same-wire, own-no-wire, chosen-in, chosen-out, no-echo}
use Rattle.gg_cut_plan.proofs.DirectLemmas.{find-some, IsFromBase}
use Rattle.gg_cut_routes.proofs.ChoiceLemmas.{takes-out, From, Same, Origin, gives-out, inner-none, any-wire}

find-none : {A : Type 0} (test : A → Bool) (xs : List A) → list_any test xs ≡ false → find test xs ≡ None
find-none test [] e = refl
find-none test (x ∷ xs) e = by (cases_Bool (test x)) (λ h. find-none test xs h)
  where
    by : (test x ≡ true) ⊎ (test x ≡ false) → (list_any test xs ≡ false → find test xs ≡ None) → find test (x ∷ xs) ≡ None
    by (inl p) rest = absurd (clash (list_any test (x ∷ xs)) (finds-any test (x ∷ xs) x (0, omega arith, refl) p) e)
    by (inr p) rest = ap (λ b. cond b (Some x) (find test xs)) p ∙ rest (none (cases_Bool (list_any test xs)))
      where
        none : (list_any test xs ≡ true) ⊎ (list_any test xs ≡ false) → list_any test xs ≡ false
        none (inr f) = f
        none (inl f) =
            let g = any-finds test xs f in
            absurd (clash (list_any test (x ∷ xs)) (finds-any test (x ∷ xs) g.item (suc g.among.0, omega (arith, g.among.1), g.among.2) g.passes) e)

module _ (hub : Hub) (base : IsBase hub) where
  -- ---- makers

  pub maker-inner : (s : ℕ) → list_any (λ (w : Wire). w.signal == s) hub.base ≡ false → maker_of hub s ≡ hub.owner s
  maker-inner s none = ap (maker_or (hub.owner s)) (find-none (λ (w : Wire). w.signal == s) hub.base none)

  pub maker-wire : (m s : ℕ) → IsFromBase hub m s → maker_of hub s ≡ m
  maker-wire m s w =
      let f = find-some (λ (v : Wire). v.signal == s) hub.base (finds-any (λ (v : Wire). v.signal == s) hub.base w.wire w.among (eq-eqb w.wire.signal s w.is)) in
      ap (maker_or (hub.owner s)) f.is ∙ ap (λ (v : Wire). v.producer) (same-wire hub base f.item w.wire f.among w.among (eqb-true f.item.signal s f.passes ∙ sym w.is)) ∙ w.producer

  -- what a machine makes, has its driver there
  pub maker-is : (m s : ℕ) → MakesBy hub m s → maker_of hub s ≡ m
  maker-is m s (inl own) = maker-inner s (inner-none hub base s own.2) ∙ own.1
  maker-is m s (inr h) = by (gives-out hub base m s h)
    where
      by : From hub base m s → maker_of hub s ≡ m
      by (Same w stays plain) = maker-wire m s w
      by (Origin w into) = maker-wire m s w

  -- ---- pipes

  -- signal s is that of a piped channel
  pub record HasPipe (s : ℕ) : Type 0 where
    pub known : s < length hub.circuit.signals
    pub piped : hub.piped s ≡ true
    pub wire : Wire
    pub among : Contains (routes hub) wire
    pub is : wire.signal ≡ s

  pub pipe-out : (s : ℕ) → Contains (pipes_of hub) s → HasPipe s
  pipe-out s h =
      let kept = filter-cases (λ t. hub.piped t && is_carried hub t) (range_with_len 0 (length hub.circuit.signals)) s h in
      let parts = and_parts (hub.piped s) (is_carried hub s) kept.passes in
      let w = any-finds (λ (r : Wire). r.signal == s) (routes hub) parts.1 in
      record { known = range-below (length hub.circuit.signals) s kept.among; piped = parts.0; wire = w.item; among = w.among; is = eqb-true w.item.signal s w.passes }

  pub pipe-in : (r : Wire) → Contains (routes hub) r → hub.piped r.signal ≡ true → Contains (pipes_of hub) r.signal
  pipe-in r h p =
      Contains-filter (λ t. hub.piped t && is_carried hub t) (range_with_len 0 (length hub.circuit.signals)) r.signal
      (in-range (length hub.circuit.signals) r.signal (All-contains (λ (v : Wire). v.signal < length hub.circuit.signals) (routes hub) r (routes-known hub base) h))
      (and_from (hub.piped r.signal) (is_carried hub r.signal) p (finds-any (λ (v : Wire). v.signal == r.signal) (routes hub) r h (eq-eqb r.signal r.signal refl)))

  pub pipes-once : AllPairs (λ a b. a ≢ b) (pipes_of hub)
  pipes-once i j d less lt same =
      let up = numbers-up (λ t. hub.piped t && is_carried hub t) (length hub.circuit.signals) i j d less lt in
      absurd (omega (arith, up, same))

  -- ---- by which number a signal is seen

  pub unpiped : (s : ℕ) → hub.piped s ≡ false → taken_as hub s ≡ s
  unpiped s plain = ap (number_or (length hub.circuit.signals) s) (place-none (λ p. p == s) (pipes_of hub) (λ i d lt. none (get_or (pipes_of hub) i d) (Contains-get_or (pipes_of hub) i d lt)))
    where
      none : (p : ℕ) → Contains (pipes_of hub) p → (p == s) ≡ false
      none p h =
          ne_eqb p s (λ same. clash (hub.piped s) (subst (λ t. hub.piped t ≡ true) same (pipe-out p h).piped) plain)

  pub piped-as : (s k : ℕ) → first_place (λ p. p == s) (pipes_of hub) ≡ Some k → IsPiped hub.circuit (pipes_of hub) s (taken_as hub s)
  piped-as s k e =
      let at = first_place-Some (λ p. p == s) (pipes_of hub) k e in
      record { pipe = k; known = at.within; of = eqb-true (value_at (pipes_of hub) k) s (at.passes 0); is = ap (number_or (length hub.circuit.signals) s) e }

  -- the place of a signal among the pipes
  pub record IsPipeAt (s k : ℕ) : Type 0 where
    pub known : k < length (pipes_of hub)
    pub of : value_at (pipes_of hub) k ≡ s
    pub is : taken_as hub s ≡ length hub.circuit.signals + k

  pub place-of : (s k : ℕ) → first_place (λ p. p == s) (pipes_of hub) ≡ Some k → IsPipeAt s k
  place-of s k e =
      let at = first_place-Some (λ p. p == s) (pipes_of hub) k e in
      record { known = at.within; of = eqb-true (value_at (pipes_of hub) k) s (at.passes 0); is = ap (number_or (length hub.circuit.signals) s) e }

  pub taken-seen : (s : ℕ) → (taken_as hub s ≡ s) ⊎ IsPiped hub.circuit (pipes_of hub) s (taken_as hub s)
  taken-seen s = by (first_place (λ p. p == s) (pipes_of hub)) refl
    where
      by : (o : Option ℕ) → first_place (λ p. p == s) (pipes_of hub) ≡ o → (taken_as hub s ≡ s) ⊎ IsPiped hub.circuit (pipes_of hub) s (taken_as hub s)
      by None e = inl (ap (number_or (length hub.circuit.signals) s) e)
      by (Some k) e = inr (piped-as s k e)

  pub seen-takes : (m t : ℕ) → list_any (λ (r : Wire). (r.consumer == m) && (r.signal == t)) (routes hub) ≡ true → seen_by hub m t ≡ taken_as hub t
  seen-takes m t e = ap (λ b. if b then taken_as hub t else t) e

  pub seen-plain : (m t : ℕ) → list_any (λ (r : Wire). (r.consumer == m) && (r.signal == t)) (routes hub) ≡ false → seen_by hub m t ≡ t
  seen-plain m t e = ap (λ b. if b then taken_as hub t else t) e

  pub all-seen : (m : ℕ) → IsSeen hub.circuit (pipes_of hub) (seen_by hub m)
  all-seen m t = by (list_any (λ (r : Wire). (r.consumer == m) && (r.signal == t)) (routes hub))
    where
      by : (b : Bool) → ((if b then taken_as hub t else t) ≡ t) ⊎ IsPiped hub.circuit (pipes_of hub) t (if b then taken_as hub t else t)
      by true = taken-seen t
      by false = inl refl

  pub takes-any : (m t : ℕ) → list_any (λ (r : Wire). (r.consumer == m) && (r.signal == t)) (routes hub) ≡ true → Takes (routes hub) m t
  takes-any m t e =
      let r = any-finds (λ (r : Wire). (r.consumer == m) && (r.signal == t)) (routes hub) e in
      let parts = and_parts (r.item.consumer == m) (r.item.signal == t) r.passes in
      subst (λ s. Takes (routes hub) m s) (eqb-true r.item.signal t parts.1) (chosen-in (routes hub) any-wire (λ (q : Wire). q.consumer == m) (λ (q : Wire). q.signal) r.item r.among parts.0)

  -- what a machine doesn't take it sees as it is
  pub seen-own : (m t : ℕ) → ¬ Takes (routes hub) m t → seen_by hub m t ≡ t
  seen-own m t free = by (cases_Bool (list_any (λ (r : Wire). (r.consumer == m) && (r.signal == t)) (routes hub)))
    where
      by : (list_any (λ (r : Wire). (r.consumer == m) && (r.signal == t)) (routes hub) ≡ true) ⊎ (list_any (λ (r : Wire). (r.consumer == m) && (r.signal == t)) (routes hub) ≡ false) → seen_by hub m t ≡ t
      by (inl e) = absurd (free (takes-any m t e))
      by (inr e) = seen-plain m t e

  -- the consumer of a channel sees its signal as the channel's
  pub takes-seen : (r : Wire) → Contains (routes hub) r → seen_by hub r.consumer r.signal ≡ taken_as hub r.signal
  takes-seen r h = seen-takes r.consumer r.signal (finds-any (λ (q : Wire). (q.consumer == r.consumer) && (q.signal == r.signal)) (routes hub) r h (and_from (r.consumer == r.consumer) (r.signal == r.signal) (eq-eqb r.consumer r.consumer refl) (eq-eqb r.signal r.signal refl)))

  -- its producer sees what it gives as it is
  pub gives-seen : (r : Wire) → Contains (routes hub) r → seen_by hub r.producer r.given ≡ r.given
  gives-seen r h =
      seen-own r.producer r.given (λ k.
      let t = chosen-out (routes hub) any-wire (λ (q : Wire). q.consumer == r.producer) (λ (q : Wire). q.signal) r.given k in
      no-echo hub base r t.item h t.among (sym (eqb-true t.item.consumer r.producer t.passes)) (sym t.is))

  -- the hub sees a signal that has an origin as it is
  pub seen-origin : (n t x : ℕ) → origin_within hub n t ≡ Some x → seen_by hub 0 t ≡ t
  seen-origin n t x e = by (cases_Bool (list_any (λ (r : Wire). (r.consumer == 0) && (r.signal == t)) (routes hub))) (chain hub n t x e)
    where
      by : (list_any (λ (r : Wire). (r.consumer == 0) && (r.signal == t)) (routes hub) ≡ true) ⊎ (list_any (λ (r : Wire). (r.consumer == 0) && (r.signal == t)) (routes hub) ≡ false) → Chain hub n t x → seen_by hub 0 t ≡ t
      by (inr f) c = seen-plain 0 t f
      by (inl f) (Here more same taken plain is) = seen-takes 0 t f ∙ unpiped t plain
      by (inl f) (Copy more u same taken own to rest) =
          let w = takes-out hub base 0 t (takes-any 0 t f) in
          absurd (own-no-wire hub base w.wire w.among (subst (λ s. is_own hub s ≡ true) (sym w.is) own))

  -- a pipe's signal is one of the circuit
  pub pipes-known : (k : ℕ) → k < length (pipes_of hub) → value_at (pipes_of hub) k < length hub.circuit.signals
  pipes-known k lt = (pipe-out (value_at (pipes_of hub) k) (Contains-get_or (pipes_of hub) k 0 lt)).known
