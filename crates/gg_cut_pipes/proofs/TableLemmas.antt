-- The tables say what the definitions say.
use Rattle.std.proofs.Common.{◌≡◌, ◌≢◌, ℕ, zero, suc, ◌+◌, ◌<◌, ◌≤◌, ◌⊎◌, List, [], ◌∷◌, ◌++◌, Bool, true, false, Option, Some, None, length, map, get_or, set, refl, sym, ◌∙◌, ap, ap₂, subst, inl, inr, eq-eqb, arith}
use Rattle.std.specs.Prelude.{◌&&◌, ◌==◌, if◌then◌else◌, unwrap_or, AllPairs, All, Contains, filter, replicate}
use Rattle.std.specs.List.{list_any, range_with_len}
use Rattle.std.proofs.lemmas.Bool.{cases_Bool, cases_eq, and_parts, eqb-true, ne_eqb}
use Rattle.std.proofs.lemmas.List.{map-id, get_or-map, get_or_default, length-map, length-set, get_or-set_same, get_or-set_other}
use Rattle.std.proofs.lemmas.List.FromFn.{get_or-range_with_len, map-range_with_len_more}
use Rattle.std.proofs.lemmas.List.Elements.{All-map, Contains-get_or, filter-append}
use Rattle.gg_flat.specs.declared.piece.Driver.{Driver}
use Rattle.gg_flat.specs.declared.piece.Driver.TheVariants.{Input, Held, MemoryWord, ReadRegister, Computed}
use Rattle.gg_flat.specs.Circuit.{FlatCircuit, driver_at}
use Rattle.gg_flat.specs.Line.{value_at}
use Rattle.gg_flat.proofs.ListLemmas.{Contains-filter, numbers-up, once-apart, filter-cases}
use Rattle.gg_order.specs.Marks.{is_marked}
use Rattle.gg_part.proofs.FrameLemmas.{length-once}
use Rattle.gg_cut_plan.specs.declared.plan.Channel.{Channel}
use Rattle.gg_cut_plan.specs.declared.wires.Wire.{Wire}
use Rattle.gg_cut_plan.specs.Listed.{first_place}
use Rattle.gg_cut_plan.specs.inside.Listed.{AreMarks}
use Rattle.gg_cut_plan.specs.Plan.{wire_at, IsInner}
use Rattle.gg_cut_plan.specs.Direct.{Hub, routes}
use Rattle.gg_cut_plan.proofs.PathLemmas.{IsPlace, first_place-Some, first_place-None}
use Rattle.gg_cut_plan.proofs.OriginLemmas.{any-finds, finds-any, clash}
use Rattle.gg_cut_plan.proofs.DirectLemmas.{find-some}
use Rattle.gg_cut_split.proofs.ClosedLemmas.ListLemmas.{AllPairs-map}
use Rattle.gg_cut_routes.proofs.RouteLemmas.{IsBase, routes-once}
use Rattle.gg_cut_routes.proofs.ChoiceLemmas.{any-wire}
use Rattle.gg_cut_split.specs.declared.owned.Owned.{Owned}
use Rattle.gg_cut_pipes.specs.declared.tables.Tables.{Tables}
use Rattle.gg_cut_pipes.specs.inside.Tables.{kept_in, seen_in, IsFilled, held_by, AreHolding, AreTables, piped_places, piped_signals, piped_takers}
use Rattle.gg_cut_plan.specs.Held.{AreHeldOnce}
use Rattle.gg_cut_reference.specs.Links.{pipes_of, taken_as, seen_by, maker_of, maker_or}
use Rattle.gg_bits.specs.Lists.{number_or}
use Rattle.gg_cut_reference.proofs.AgreeLemmas.{filter-agree}
use Rattle.gg_cut_reference.proofs.HolderLemmas.{first-found}
use Rattle.gg_cut_reference.proofs.SeenLemmas.{HasPipe, pipe-out, pipes-known, maker-inner}

-- ---- tables that are filled value by value

pub filled-none : (places values before : List ℕ) → IsFilled places values 0 before before
filled-none places values before = record { count = refl; put = λ i lt. absurd (omega (arith, lt)); rest = λ s free. refl }

pub filled-more : (places values : List ℕ) (k : ℕ) (before after : List ℕ) → AllPairs (λ a b. a ≢ b) places → k < length places → value_at places k < length after → IsFilled places values k before after → IsFilled places values (k + 1) before (set after (value_at places k) (value_at values k))
filled-more places values k before after once lt known is =
    record {
      count = length-set after (value_at places k) (value_at values k) ∙ is.count;
      put = λ i low. put i low (cases_eq i k);
      rest = λ s free. get_or-set_other after (value_at places k) s (value_at values k) 0 (λ same. free k (omega arith) (sym same)) ∙ is.rest s (λ i low. free i (omega (arith, low)));
    }
  where
    put : (i : ℕ) → i < k + 1 → (i ≡ k) ⊎ (i ≢ k) → value_at (set after (value_at places k) (value_at values k)) (value_at places i) ≡ value_at values i
    put i low (inl same) = subst (λ j. value_at (set after (value_at places k) (value_at values k)) (value_at places j) ≡ value_at values j) (sym same) (get_or-set_same after (value_at places k) (value_at values k) 0 known)
    put i low (inr other) =
        let less : i < k = omega (arith, low, other) in
        get_or-set_other after (value_at places k) (value_at places i) (value_at values k) 0 (once i k 0 less lt) ∙ is.put i less

-- the same for channels and their producers
pub filled-next : (wires : List Wire) (k : ℕ) (before after : List ℕ) → AllPairs (λ v w. v.signal ≢ w.signal) wires → All (λ w. w.signal < length before) wires → k < length wires → IsFilled (map (λ (w : Wire). w.signal) wires) (map (λ (w : Wire). w.producer) wires) k before after → IsFilled (map (λ (w : Wire). w.signal) wires) (map (λ (w : Wire). w.producer) wires) (k + 1) before (set after (wire_at wires k).signal (wire_at wires k).producer)
filled-next wires k before after once known lt is =
    let signal = get_or-map (λ (w : Wire). w.signal) wires k any-wire 0 lt in
    let producer = get_or-map (λ (w : Wire). w.producer) wires k any-wire 0 lt in
    let low = known k any-wire lt in
    let long = length-map wires (λ (w : Wire). w.signal) in
    subst (λ s. IsFilled (map (λ (w : Wire). w.signal) wires) (map (λ (w : Wire). w.producer) wires) (k + 1) before (set after s (wire_at wires k).producer)) signal
    (subst (λ m. IsFilled (map (λ (w : Wire). w.signal) wires) (map (λ (w : Wire). w.producer) wires) (k + 1) before (set after (value_at (map (λ (w : Wire). w.signal) wires) k) m)) producer
    (filled-more (map (λ (w : Wire). w.signal) wires) (map (λ (w : Wire). w.producer) wires) k before after (AllPairs-map (λ a b. a ≢ b) (λ (w : Wire). w.signal) wires once) (omega (arith, lt, long)) (let count = is.count in omega (arith, low, signal, count)) is))

zero-at : (n s : ℕ) → value_at (replicate n 0) s ≡ 0
zero-at zero s = refl
zero-at (suc n) zero = refl
zero-at (suc n) (suc s) = zero-at n s

if-same : (b : Bool) (x y : ℕ) → x ≡ y → (if b then x else y) ≡ y
if-same true x y e = e
if-same false x y e = refl

-- the choice of two lists whose items agree
pub chosen-agree : {A B : Type 0} (f : A → ℕ) (g : B → ℕ) (test : A → Bool) (other : B → Bool) (xs : List A) (ys : List B) → length xs ≡ length ys → ((c : ℕ) (x : A) (y : B) → c < length xs → (f (get_or xs c x) ≡ g (get_or ys c y)) × (test (get_or xs c x) ≡ other (get_or ys c y))) → map f (filter test xs) ≡ map g (filter other ys)
chosen-agree f g test other [] [] long same = refl
chosen-agree f g test other [] (y ∷ ys) long same = absurd (omega (arith, long))
chosen-agree f g test other (x ∷ xs) [] long same = absurd (omega (arith, long))
chosen-agree f g test other (x ∷ xs) (y ∷ ys) long same =
    let here = same 0 x y (omega arith) in
    by (test x) (other y) here.1 here.0 (chosen-agree f g test other xs ys (omega (arith, long)) (λ c a b lt. same (suc c) a b (omega (arith, lt))))
  where
    by : (p q : Bool) → p ≡ q → f x ≡ g y → map f (filter test xs) ≡ map g (filter other ys) → map f (if p then x ∷ filter test xs else filter test xs) ≡ map g (if q then y ∷ filter other ys else filter other ys)
    by true true e is rest = ap₂ (λ a l. a ∷ l) is rest
    by false false e is rest = rest
    by true false e is rest = absurd (clash true refl e)
    by false true e is rest = absurd (clash true refl (sym e))

-- ---- pipes

abbrev pub piped_routes : Hub → List Wire
piped_routes hub = filter (λ (r : Wire). hub.piped r.signal) (routes hub)

module _ (hub : Hub) (base : IsBase hub) where
  same-route : (v w : Wire) → Contains (routes hub) v → Contains (routes hub) w → v.signal ≡ w.signal → v ≡ w
  same-route v w h k e =
      let signals = map (λ (u : Wire). u.signal) (routes hub) in
      let long = length-map (routes hub) (λ (u : Wire). u.signal) in
      let there = get_or_default (routes hub) k.0 v w k.1 ∙ k.2 in
      let place =
      once-apart signals 0 (AllPairs-map (λ a b. a ≢ b) (λ (u : Wire). u.signal) (routes hub) (routes-once hub base)) h.0 k.0 (let inside = h.1 in omega (arith, inside, long)) (let inside = k.1 in omega (arith, inside, long))
      (get_or-map (λ (u : Wire). u.signal) (routes hub) h.0 v 0 h.1 ∙ ap (λ (u : Wire). u.signal) h.2 ∙ e ∙ sym (get_or-map (λ (u : Wire). u.signal) (routes hub) k.0 v 0 k.1 ∙ ap (λ (u : Wire). u.signal) there)) in
      sym h.2 ∙ ap (λ i. get_or (routes hub) i v) place ∙ there

  module _ (tables : Tables) (pipes : IsFilled (pipes_of hub) (range_with_len (length hub.circuit.signals) (length (pipes_of hub))) (length (pipes_of hub)) (replicate (length hub.circuit.signals) 0) tables.pipes) where
    unlisted : (s : ℕ) → first_place (λ p. p == s) (pipes_of hub) ≡ None → (i : ℕ) → i < length (pipes_of hub) → ¬ (value_at (pipes_of hub) i ≡ s)
    unlisted s e i lt same = clash (list_any (λ p. p == s) (pipes_of hub)) (finds-any (λ p. p == s) (pipes_of hub) (value_at (pipes_of hub) i) (Contains-get_or (pipes_of hub) i 0 lt) (eq-eqb (value_at (pipes_of hub) i) s same)) (first_place-None (λ p. p == s) (pipes_of hub) e)

    kept-plain : (s : ℕ) → first_place (λ p. p == s) (pipes_of hub) ≡ None → kept_in tables s ≡ s
    kept-plain s e = ap (λ v. if v == 0 then s else v) (pipes.rest s (unlisted s e) ∙ zero-at (length hub.circuit.signals) s)

    kept-pipe : (s k : ℕ) → first_place (λ p. p == s) (pipes_of hub) ≡ Some k → kept_in tables s ≡ length hub.circuit.signals + k
    kept-pipe s k e =
        let at = first_place-Some (λ p. p == s) (pipes_of hub) k e in
        let count = length hub.circuit.signals in
        let known = pipes-known hub base k at.within in
        let is : value_at tables.pipes s ≡ count + k = subst (λ t. value_at tables.pipes t ≡ count + k) (eqb-true (value_at (pipes_of hub) k) s (at.passes 0)) (pipes.put k at.within ∙ get_or-range_with_len count (length (pipes_of hub)) k 0 at.within) in
        ap (λ v. if v == 0 then s else v) is ∙ ap (λ b. if b then s else count + k) (ne_eqb (count + k) 0 (λ (none : count + k ≡ 0). absurd (omega (arith, known, none))))

    pub kept-is : (s : ℕ) → kept_in tables s ≡ taken_as hub s
    kept-is s = by (first_place (λ p. p == s) (pipes_of hub)) refl
      where
        by : (o : Option ℕ) → first_place (λ p. p == s) (pipes_of hub) ≡ o → kept_in tables s ≡ taken_as hub s
        by None e = kept-plain s e ∙ sym (ap (number_or (length hub.circuit.signals) s) e)
        by (Some k) e = kept-pipe s k e ∙ sym (ap (number_or (length hub.circuit.signals) s) e)

    -- the machines that take the piped channels, at numbers of their own
    module _ (seat : ℕ → ℕ) (takers : IsFilled (map (λ (r : Wire). r.signal) (piped_routes hub)) (map (λ (r : Wire). seat r.consumer) (piped_routes hub)) (length (map (λ (r : Wire). r.signal) (piped_routes hub))) (replicate (length hub.circuit.signals) 0) tables.takers) where
      taker-is : (s k m : ℕ) → ((n : ℕ) → (seat n == m) ≡ (n == m)) → first_place (λ p. p == s) (pipes_of hub) ≡ Some k → (value_at tables.takers s == m) ≡ list_any (λ (r : Wire). (r.consumer == m) && (r.signal == s)) (routes hub)
      taker-is s k m same_seat e = ap (λ v. v == m) reads ∙ same_seat r.consumer ∙ by (cases_Bool (r.consumer == m)) (cases_Bool (list_any test (routes hub)))
        where
          at : IsPlace (λ p. p == s) (pipes_of hub) k
          at = first_place-Some (λ p. p == s) (pipes_of hub) k e

          test : Wire → Bool
          test v = (v.consumer == m) && (v.signal == s)

          pipe : HasPipe hub base s
          pipe = subst (HasPipe hub base) (eqb-true (value_at (pipes_of hub) k) s (at.passes 0)) (pipe-out hub base (value_at (pipes_of hub) k) (Contains-get_or (pipes_of hub) k 0 at.within))

          r : Wire
          r = pipe.wire

          of : pipe.wire.signal ≡ s
          of = pipe.is

          among : Contains (routes hub) pipe.wire
          among = pipe.among

          q : Contains (piped_routes hub) pipe.wire
          q = Contains-filter (λ (v : Wire). hub.piped v.signal) (routes hub) pipe.wire pipe.among (ap hub.piped pipe.is ∙ pipe.piped)

          inside : q.0 < length (map (λ (v : Wire). v.signal) (piped_routes hub))
          inside = let low = q.1 in let long = length-map (piped_routes hub) (λ (v : Wire). v.signal) in omega (arith, low, long)

          place : value_at (map (λ (v : Wire). v.signal) (piped_routes hub)) q.0 ≡ s
          place = get_or-map (λ (v : Wire). v.signal) (piped_routes hub) q.0 pipe.wire 0 q.1 ∙ ap (λ (v : Wire). v.signal) q.2 ∙ pipe.is

          reads : value_at tables.takers s ≡ seat pipe.wire.consumer
          reads = subst (λ t. value_at tables.takers t ≡ seat pipe.wire.consumer) place (takers.put q.0 inside ∙ get_or-map (λ (v : Wire). seat v.consumer) (piped_routes hub) q.0 pipe.wire 0 q.1 ∙ ap (λ (v : Wire). seat v.consumer) q.2)

          by : ((r.consumer == m) ≡ true) ⊎ ((r.consumer == m) ≡ false) → (list_any test (routes hub) ≡ true) ⊎ (list_any test (routes hub) ≡ false) → (r.consumer == m) ≡ list_any test (routes hub)
          by (inl p) (inl q) = p ∙ sym q
          by (inr p) (inr q) = p ∙ sym q
          by (inl p) (inr q) = absurd (clash (list_any test (routes hub)) (finds-any test (routes hub) r among (ap₂ (λ a b. a && b) p (eq-eqb r.signal s of))) q)
          by (inr p) (inl q) =
              let found = any-finds test (routes hub) q in
              let parts = and_parts (found.item.consumer == m) (found.item.signal == s) found.passes in
              let same = same-route found.item r found.among among (eqb-true found.item.signal s parts.1 ∙ sym of) in
              absurd (clash (r.consumer == m) (subst (λ (v : Wire). (v.consumer == m) ≡ true) same parts.0) p)

      pub seen-is : (m s : ℕ) → ((n : ℕ) → (seat n == m) ≡ (n == m)) → seen_in tables m s ≡ seen_by hub m s
      seen-is m s same_seat = by (first_place (λ p. p == s) (pipes_of hub)) refl
        where
          by : (o : Option ℕ) → first_place (λ p. p == s) (pipes_of hub) ≡ o → seen_in tables m s ≡ seen_by hub m s
          by None e =
              if-same (value_at tables.takers s == m) (kept_in tables s) s (kept-plain s e)
              ∙ sym (if-same (list_any (λ (r : Wire). (r.consumer == m) && (r.signal == s)) (routes hub)) (taken_as hub s) s (ap (number_or (length hub.circuit.signals) s) e))
          by (Some k) e = ap₂ (λ (b : Bool) v. if b then v else s) (taker-is s k m same_seat e) (kept-is s)

  -- ---- makers

  module _ (before makers : List ℕ) (filled : IsFilled (map (λ (w : Wire). w.signal) hub.base) (map (λ (w : Wire). w.producer) hub.base) (length hub.base) before makers) (owns : (s : ℕ) → s < length hub.circuit.signals → IsInner hub.base s → value_at before s ≡ hub.owner s) where
    pub makers-are : (s : ℕ) → s < length hub.circuit.signals → value_at makers s ≡ maker_of hub s
    makers-are s lt = by (cases_Bool (list_any test hub.base))
      where
        test : Wire → Bool
        test w = w.signal == s

        by : (list_any test hub.base ≡ true) ⊎ (list_any test hub.base ≡ false) → value_at makers s ≡ maker_of hub s
        by (inr none) =
            let free : (i : ℕ) → i < length hub.base → ¬ ((wire_at hub.base i).signal ≡ s) = λ i low same. clash (list_any test hub.base) (finds-any test hub.base (wire_at hub.base i) (Contains-get_or hub.base i _ low) (eq-eqb (wire_at hub.base i).signal s same)) none in
            filled.rest s (λ i low same. free i low (sym (get_or-map (λ (w : Wire). w.signal) hub.base i _ 0 low) ∙ same))
            ∙ owns s lt free
            ∙ sym (maker-inner hub base s none)
        by (inl some) =
            let f = find-some test hub.base some in
            let k = f.among.0 in
            let low : k < length hub.base = f.among.1 in
            let of : value_at (map (λ (w : Wire). w.signal) hub.base) k ≡ s = get_or-map (λ (w : Wire). w.signal) hub.base k f.item 0 low ∙ ap (λ (w : Wire). w.signal) f.among.2 ∙ eqb-true f.item.signal s f.passes in
            subst (λ t. value_at makers t ≡ f.item.producer) of (filled.put k low ∙ get_or-map (λ (w : Wire). w.producer) hub.base k f.item 0 low ∙ ap (λ (w : Wire). w.producer) f.among.2)
            ∙ sym (ap (maker_or (hub.owner s)) f.is)

-- ---- holders

pub holding-none : (one : FlatCircuit) (makers before : List ℕ) → AreHolding one makers 0 before before
holding-none one makers before = record { count = refl; held = λ s r lt is. absurd (omega (arith, lt)); rest = λ r free. refl }

held-same : (r q : ℕ) → Held r ≡ Held q → r ≡ q
held-same r q e = cc

held-out : (one : FlatCircuit) (s t : ℕ) → (¬ (s ≡ t)) → AreHeldOnce one → (r q : ℕ) → s < length one.signals → t < length one.signals → driver_at one s ≡ Held r → driver_at one t ≡ Held q → r ≢ q
held-out one s t apart once r q low high is other same = apart (once s t r low high is (other ∙ ap Held (sym same)))

pub holding-more : (one : FlatCircuit) (makers : List ℕ) (k : ℕ) (before after new : List ℕ) → AreHeldOnce one → k < length one.signals → ((r : ℕ) → driver_at one k ≡ Held r → r < length after) → AreHolding one makers k before after → new ≡ held_by (value_at makers k) (driver_at one k) after → AreHolding one makers (k + 1) before new
holding-more one makers k before after new once lt known is given = by (driver_at one k) refl
  where
    -- the signal at k holds nothing
    plain : ((r : ℕ) → ¬ (driver_at one k ≡ Held r)) → new ≡ after → AreHolding one makers (k + 1) before new
    plain free same =
        record {
          count = ap length same ∙ is.count;
          held = λ s r low e. ap (λ (l : List ℕ). value_at l r) same ∙ is.held s r (earlier s r low e (cases_eq s k)) e;
          rest = λ r none. ap (λ (l : List ℕ). value_at l r) same ∙ is.rest r (λ s low. none s (omega (arith, low)));
        }
      where
        earlier : (s r : ℕ) → s < k + 1 → driver_at one s ≡ Held r → (s ≡ k) ⊎ (s ≢ k) → s < k
        earlier s r low e (inl at) = absurd (free r (subst (λ t. driver_at one t ≡ Held r) at e))
        earlier s r low e (inr other) = omega (arith, low, other)

    holds : (q : ℕ) → driver_at one k ≡ Held q → new ≡ set after q (value_at makers k) → AreHolding one makers (k + 1) before new
    holds q at same =
        record {
          count = ap length same ∙ length-set after q (value_at makers k) ∙ is.count;
          held = λ s r low e. ap (λ (l : List ℕ). value_at l r) same ∙ put s r low e (cases_eq s k);
          rest = λ r none. ap (λ (l : List ℕ). value_at l r) same ∙ get_or-set_other after q r (value_at makers k) 0 (λ e. none k (omega arith) (at ∙ ap Held (sym e))) ∙ is.rest r (λ s low. none s (omega (arith, low)));
        }
      where
        put : (s r : ℕ) → s < k + 1 → driver_at one s ≡ Held r → (s ≡ k) ⊎ (s ≢ k) → value_at (set after q (value_at makers k)) r ≡ value_at makers s
        put s r low e (inl here) =
            let same_register : Held r ≡ Held q = sym e ∙ ap (driver_at one) here ∙ at in
            subst (λ t. value_at (set after q (value_at makers k)) r ≡ value_at makers t) (sym here)
            (subst (λ p. value_at (set after q (value_at makers k)) p ≡ value_at makers k) (sym (held-same r q same_register)) (get_or-set_same after q (value_at makers k) 0 (known q at)))
        put s r low e (inr other) =
            let less : s < k = omega (arith, low, other) in
            get_or-set_other after q r (value_at makers k) 0 (held-out one s k other once r q (omega (arith, less, lt)) lt e at) ∙ is.held s r less e

    by : (driver : Driver) → driver_at one k ≡ driver → AreHolding one makers (k + 1) before new
    by (Input place) e = plain (λ r h. no-held r (sym e ∙ h)) (given ∙ ap (λ d. held_by (value_at makers k) d after) e)
      where
        no-held : (r : ℕ) → ¬ (Input place ≡ Held r)
        no-held r h = cc
    by (Held register) e = holds register e (given ∙ ap (λ d. held_by (value_at makers k) d after) e)
    by (MemoryWord memory reader addr en) e = plain (λ r h. no-held r (sym e ∙ h)) (given ∙ ap (λ d. held_by (value_at makers k) d after) e)
      where
        no-held : (r : ℕ) → ¬ (MemoryWord memory reader addr en ≡ Held r)
        no-held r h = cc
    by (ReadRegister memory reader) e = plain (λ r h. no-held r (sym e ∙ h)) (given ∙ ap (λ d. held_by (value_at makers k) d after) e)
      where
        no-held : (r : ℕ) → ¬ (ReadRegister memory reader ≡ Held r)
        no-held r h = cc
    by (Computed line) e = plain (λ r h. no-held r (sym e ∙ h)) (given ∙ ap (λ d. held_by (value_at makers k) d after) e)
      where
        no-held : (r : ℕ) → ¬ (Computed line ≡ Held r)
        no-held r h = cc

-- ---- all tables

pub range-more : (a n : ℕ) → range_with_len a (n + 1) ≡ range_with_len a n ++ (a + n) ∷ []
range-more a n = sym (map-id (range_with_len a (n + 1))) ∙ map-range_with_len_more (λ x. x) a n (a + n) refl ∙ ap (λ l. l ++ (a + n) ∷ []) (map-id (range_with_len a n))

-- one more number, if it is marked
pub marked-more : (marks : List Bool) (n : ℕ) → filter (is_marked marks) (range_with_len 0 (n + 1)) ≡ filter (is_marked marks) (range_with_len 0 n) ++ (if is_marked marks n then n ∷ [] else [])
marked-more marks n =
    ap (filter (is_marked marks)) (range-more 0 n)
    ∙ filter-append (is_marked marks) (range_with_len 0 n) ((0 + n) ∷ [])
    ∙ ap (λ k. filter (is_marked marks) (range_with_len 0 n) ++ filter (is_marked marks) (k ∷ [])) (let same : 0 + n ≡ n = omega arith in same)

-- the marked numbers are the signals of the pipes
pub pipes-found : (marks : List Bool) (places : List ℕ) (count : ℕ) (channels : List Channel) → length marks ≡ count → AreMarks places marks → places ≡ piped_places channels → filter (is_marked marks) (range_with_len 0 (length marks)) ≡ piped_signals count channels
pipes-found marks places count channels many are same =
    filter-agree (is_marked marks) (λ s. list_any (λ place. s == place) places) 0 (length marks) (λ s lt. are s)
    ∙ ap₂ (λ (l : List ℕ) n. filter (λ s. list_any (λ place. s == place) l) (range_with_len 0 n)) same many

-- there are at most as many numbers among some as there are of these
pub few-among : (places : List ℕ) (count : ℕ) → length (filter (λ s. list_any (λ place. s == place) places) (range_with_len 0 count)) ≤ length places
few-among places count =
    let long = length-map numbers place in
    let few = length-once (map place numbers) (length places) once (All-map (λ x. x < length places) place numbers (λ k d lt. (at (get_or numbers k d) (Contains-get_or numbers k d lt)).within)) in
    omega (arith, long, few)
  where
    numbers : List ℕ
    numbers = filter (λ s. list_any (λ place. s == place) places) (range_with_len 0 count)

    place : ℕ → ℕ
    place s = unwrap_or (first_place (λ place. s == place) places) 0

    at : (s : ℕ) → Contains numbers s → IsPlace (λ place. s == place) places (place s)
    at s h =
        let kept = filter-cases (λ s. list_any (λ place. s == place) places) (range_with_len 0 count) s h in
        let found = any-finds (λ place. s == place) places kept.passes in
        first-found (λ place. s == place) places found.item found.among found.passes

    read : (s : ℕ) → Contains numbers s → s ≡ value_at places (place s)
    read s h = eqb-true s (value_at places (place s)) ((at s h).passes 0)

    once : AllPairs (λ a b. a ≢ b) (map place numbers)
    once = AllPairs-map (λ a b. a ≢ b) place numbers pairs
      where
        pairs : AllPairs (λ a b. place a ≢ place b) numbers
        pairs i j d less lt same =
            let up = numbers-up (λ s. list_any (λ place. s == place) places) count i j d less lt in
            let first = read (get_or numbers i d) (Contains-get_or numbers i d (omega (arith, less, lt))) in
            let second = read (get_or numbers j d) (Contains-get_or numbers j d lt) in
            let equal = first ∙ ap (value_at places) same ∙ sym second in
            absurd (omega (arith, up, equal))

pub tables-made : (one : FlatCircuit) (channels : List Channel) (signals : List ℕ) (owned : Owned) (count : ℕ) (places takers numbers taker_table number_table makers makers_now holders : List ℕ) (tables : Tables) → count ≡ length one.signals → places ≡ piped_places channels → takers ≡ piped_takers channels → numbers ≡ range_with_len count (length signals) → IsFilled places takers (length places) (replicate count 0) taker_table → IsFilled signals numbers (length signals) (replicate count 0) number_table → IsFilled (map (λ (w : Wire). w.signal) owned.wires) (map (λ (w : Wire). w.producer) owned.wires) (length owned.wires) owned.signals makers → makers_now ≡ makers → AreHolding one makers_now (length one.signals) (replicate (length one.registers) 0) holders → tables.makers ≡ makers → tables.holders ≡ holders → tables.keepers ≡ owned.memories → tables.takers ≡ taker_table → tables.pipes ≡ number_table → AreTables one channels signals owned tables
tables-made one channels signals owned count places takers numbers taker_table number_table makers makers_now holders tables many are_places are_takers are_numbers by_taker by_number by_maker now by_holder m h k t p =
    record {
      pipes =
          subst (IsFilled signals (range_with_len (length one.signals) (length signals)) (length signals) (replicate (length one.signals) 0)) (sym p)
          (subst (λ n. IsFilled signals (range_with_len n (length signals)) (length signals) (replicate n 0) number_table) many
          (subst (λ (l : List ℕ). IsFilled signals l (length signals) (replicate count 0) number_table) are_numbers by_number));
      takers =
          subst (IsFilled (piped_places channels) (piped_takers channels) (length (piped_places channels)) (replicate (length one.signals) 0)) (sym t)
          (subst (λ n. IsFilled (piped_places channels) (piped_takers channels) (length (piped_places channels)) (replicate n 0) taker_table) many
          (subst (λ (l : List ℕ). IsFilled l (piped_takers channels) (length l) (replicate count 0) taker_table) are_places
          (subst (λ (l : List ℕ). IsFilled places l (length places) (replicate count 0) taker_table) are_takers by_taker)));
      makers = subst (IsFilled (map (λ (w : Wire). w.signal) owned.wires) (map (λ (w : Wire). w.producer) owned.wires) (length owned.wires) owned.signals) (sym m) by_maker;
      holders =
          subst (λ (l : List ℕ). AreHolding one l (length one.signals) (replicate (length one.registers) 0) tables.holders) (now ∙ sym m)
          (subst (AreHolding one makers_now (length one.signals) (replicate (length one.registers) 0)) (sym h) by_holder);
      keepers = k;
    }
