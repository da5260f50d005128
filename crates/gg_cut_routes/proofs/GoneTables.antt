-- What the tables say of what is named, direct and gone.
use Rattle.std.proofs.Common.{◌≡◌, ℕ, ◌<◌, List, ◌++◌, length, map, Bool, true, false, not, Option, Some, None, refl, sym, ◌∙◌, ap, ap₂, subst, inl, inr, ◌⊎◌, eq-eqb, arith}
use Rattle.std.specs.Prelude.{◌↔◌, ◌&&◌, ◌||◌, ◌==◌, if◌then◌else◌, option_and_then, is_some, Contains, filter, flat_map}
use Rattle.std.specs.List.{list_any, range_with_len}
use Rattle.std.specs.Option.{option_to_list}
use Rattle.std.proofs.lemmas.Bool.{and_parts, and_from, or_right, eqb-true}
use Rattle.std.proofs.lemmas.List.{get_or-map}
use Rattle.std.proofs.lemmas.List.Elements.{All-contains, Contains-append_left, Contains-append_right, Contains-append_cases}
use Rattle.gg_flat.specs.Circuit.{FlatCircuit, driver_at}
use Rattle.gg_flat_tree.specs.Scoped.{memory_fields}
use Rattle.gg_flat.proofs.ListLemmas.{Contains-filter, filter-cases, in-range, range-below}
use Rattle.gg_order.specs.Marks.{is_marked}
use Rattle.gg_cut_plan.specs.inside.Machines.{Counts, silent_by}
use Rattle.gg_cut_plan.specs.declared.wires.Wire.{Wire}
use Rattle.gg_cut_routes.specs.declared.sides.Side.{Side}
use Rattle.gg_cut_routes.specs.declared.sides.Side.TheVariants.{Other, Own, Out, In}
use Rattle.gg_cut_plan.specs.Direct.{Hub, is_taken, is_own, is_given, made, named_by, kept, origin, copied, giver, if_plain, may_be_direct, direct_of, is_direct, is_number, left_by, is_gone, driver_names, route, route_by, routes}
use Rattle.gg_cut_routes.specs.inside.Tables.{side_at, entry_at, origin_beyond, given_by, if_given, direct_by, AreEntries, is_in, is_inner, is_kept, is_left, AreGone, from_by, routed_by}
use Rattle.gg_cut_routes.proofs.NameLemmas.{flat-in}
use Rattle.gg_cut_plan.proofs.OriginLemmas.{any-finds, finds-any, clash, some-clash, chain-end}
use Rattle.gg_cut_plan.proofs.DirectLemmas.{direct-is}
use Rattle.gg_cut_routes.proofs.RouteLemmas.{IsBase, number-is, same-wire}
use Rattle.gg_cut_routes.proofs.ListTables.{flat-out, some-is, is-some, map-filter-same}

abbrev pub names_by : FlatCircuit → List ℕ → List ℕ → List ℕ
names_by circuit memories signals = flat_map (λ s. driver_names circuit (driver_at circuit s)) signals ++ flat_map (memory_fields circuit) memories

module _ (hub : Hub) (memories : List ℕ) (held : (t : ℕ) → Contains (flat_map (memory_fields hub.circuit) memories) t ↔ Contains hub.held t) where
  -- the same signals and memories name the same
  pub names-same : (mine theirs : List ℕ) → ((s : ℕ) → Contains mine s ↔ Contains theirs s) → (t : ℕ) → Contains (names_by hub.circuit memories mine) t ↔ Contains (named_by hub theirs) t
  names-same mine theirs same t = (out, back)
    where
      names : ℕ → List ℕ
      names s = driver_names hub.circuit (driver_at hub.circuit s)

      out : Contains (names_by hub.circuit memories mine) t → Contains (named_by hub theirs) t
      out h = by (Contains-append_cases (flat_map (λ s. driver_names hub.circuit (driver_at hub.circuit s)) mine) (flat_map (memory_fields hub.circuit) memories) t h)
        where
          by : Contains (flat_map (λ s. driver_names hub.circuit (driver_at hub.circuit s)) mine) t ⊎ Contains (flat_map (memory_fields hub.circuit) memories) t → Contains (named_by hub theirs) t
          by (inl a) =
              let m = flat-out (λ s. driver_names hub.circuit (driver_at hub.circuit s)) mine t a in
              Contains-append_left (flat_map (λ s. driver_names hub.circuit (driver_at hub.circuit s)) theirs) hub.held t
              (flat-in (λ s. driver_names hub.circuit (driver_at hub.circuit s)) theirs m.item t ((same m.item).0 m.among) m.has)
          by (inr b) = Contains-append_right (flat_map (λ s. driver_names hub.circuit (driver_at hub.circuit s)) theirs) hub.held t ((held t).0 b)

      back : Contains (named_by hub theirs) t → Contains (names_by hub.circuit memories mine) t
      back h = by (Contains-append_cases (flat_map (λ s. driver_names hub.circuit (driver_at hub.circuit s)) theirs) hub.held t h)
        where
          by : Contains (flat_map (λ s. driver_names hub.circuit (driver_at hub.circuit s)) theirs) t ⊎ Contains hub.held t → Contains (names_by hub.circuit memories mine) t
          by (inl a) =
              let m = flat-out (λ s. driver_names hub.circuit (driver_at hub.circuit s)) theirs t a in
              Contains-append_left (flat_map (λ s. driver_names hub.circuit (driver_at hub.circuit s)) mine) (flat_map (memory_fields hub.circuit) memories) t
              (flat-in (λ s. driver_names hub.circuit (driver_at hub.circuit s)) mine m.item t ((same m.item).1 m.among) m.has)
          by (inr b) = Contains-append_right (flat_map (λ s. driver_names hub.circuit (driver_at hub.circuit s)) mine) (flat_map (memory_fields hub.circuit) memories) t ((held t).1 b)

-- lists with the same items, and the same behind them
pub append-same : (xs ys rest : List ℕ) → ((t : ℕ) → Contains xs t ↔ Contains ys t) → (t : ℕ) → Contains (xs ++ rest) t ↔ Contains (ys ++ rest) t
append-same xs ys rest same t = (
  λ h. elim (Contains-append_cases xs rest t h) [
    | inl a ↦ Contains-append_left ys rest t ((same t).0 a)
    | inr b ↦ Contains-append_right ys rest t b
  ],
  λ h. elim (Contains-append_cases ys rest t h) [
    | inl a ↦ Contains-append_left xs rest t ((same t).1 a)
    | inr b ↦ Contains-append_right xs rest t b
  ],
)

-- ---- direct channels

module _ (hub : Hub) (base : IsBase hub) (counts : Counts) (sides : List Side) (origins : List (Option ℕ)) (named : List Bool)
    (silent : (m : ℕ) → hub.silent m ≡ silent_by counts m)
    (taken : (s : ℕ) → is_taken hub s ≡ is_in (side_at sides s)) (givers : (s producer : ℕ) → side_at sides s ≡ In producer → giver hub s ≡ producer)
    (entries : (s : ℕ) → s < length hub.circuit.signals → entry_at origins s ≡ origin hub s)
    (next_known : (s t : ℕ) → s < length hub.circuit.signals → copied hub.circuit s ≡ Some t → t < length hub.circuit.signals)
    (barred : (s : ℕ) → is_marked named s ≡ list_any (λ t. s == t) (named_by hub (made hub) ++ hub.stops)) where
  given-same : (x : ℕ) → is_taken hub x ≡ true → given_by counts x (side_at sides x) ≡ if_plain hub (Some x)
  given-same x e = by (side_at sides x) refl
    where
      by : (side : Side) → side_at sides x ≡ side → given_by counts x side ≡ if_plain hub (Some x)
      by Other f = absurd (clash (is_taken hub x) e (taken x ∙ ap is_in f))
      by Own f = absurd (clash (is_taken hub x) e (taken x ∙ ap is_in f))
      by Out f = absurd (clash (is_taken hub x) e (taken x ∙ ap is_in f))
      by (In producer) f = ap (λ b. if b then None else Some x) (sym (ap hub.silent (givers x producer f) ∙ silent producer))

  plain-same : (t : ℕ) → if_given counts sides (origin hub t) ≡ if_plain hub (origin hub t)
  plain-same t = by (origin hub t) refl
    where
      by : (o : Option ℕ) → origin hub t ≡ o → if_given counts sides o ≡ if_plain hub o
      by None e = refl
      by (Some x) e = given-same x (chain-end hub (length hub.circuit.signals) t x e).taken

  pub direct-same : (w : Wire) → w.signal < length hub.circuit.signals → direct_by hub.circuit counts sides origins named hub.direct w ≡ direct_of hub w
  direct-same w lt =
      ap (λ b. if (hub.direct && (w.producer == 0)) && not b then if_given counts sides (origin_beyond hub.circuit origins w.signal) else None) (barred w.signal)
      ∙ ap (λ o. if may_be_direct hub w then o else None) (from (copied hub.circuit w.signal) refl)
    where
      from : (o : Option ℕ) → copied hub.circuit w.signal ≡ o → if_given counts sides (option_and_then (entry_at origins) o) ≡ if_plain hub (option_and_then (origin hub) o)
      from None e = refl
      from (Some t) e = ap (if_given counts sides) (entries t (next_known w.signal t lt e)) ∙ plain-same t

  module _ (straight : List (Option ℕ)) (are : AreEntries (direct_by hub.circuit counts sides origins named hub.direct) hub.base straight) where
    lt-of : (w : Wire) → Contains hub.base w → w.signal < length hub.circuit.signals
    lt-of w h = All-contains (λ (v : Wire). v.signal < length hub.circuit.signals) hub.base w base.known h

    pub entry-is : (w : Wire) → Contains hub.base w → entry_at straight w.signal ≡ direct_of hub w
    entry-is w h = are.each w h ∙ direct-same w (lt-of w h)

    pub straight-is : (s : ℕ) → is_some (entry_at straight s) ≡ is_direct hub s
    straight-is s = by (list_any (λ (w : Wire). w.signal == s) hub.base) refl
      where
        none : (b : Bool) → is_direct hub s ≡ b → list_any (λ (w : Wire). w.signal == s) hub.base ≡ false → false ≡ is_direct hub s
        none false e f = sym e
        none true e f =
            let w = any-finds (λ (w : Wire). (w.signal == s) && is_some (direct_of hub w)) hub.base e in
            let parts = and_parts (w.item.signal == s) (is_some (direct_of hub w.item)) w.passes in
            absurd (clash (list_any (λ (w : Wire). w.signal == s) hub.base) (finds-any (λ (w : Wire). w.signal == s) hub.base w.item w.among parts.0) f)

        one : (w : Wire) → Contains hub.base w → w.signal ≡ s → is_some (direct_of hub w) ≡ is_direct hub s
        one w h is = at (is_some (direct_of hub w)) (is_direct hub s) refl refl
          where
            at : (a b : Bool) → is_some (direct_of hub w) ≡ a → is_direct hub s ≡ b → a ≡ b
            at true true e f = refl
            at false false e f = refl
            at true false e f =
                absurd (clash (is_direct hub s) (finds-any (λ (v : Wire). (v.signal == s) && is_some (direct_of hub v)) hub.base w h (and_from (w.signal == s) (is_some (direct_of hub w)) (eq-eqb w.signal s is) e)) f)
            at false true e f =
                let v = any-finds (λ (v : Wire). (v.signal == s) && is_some (direct_of hub v)) hub.base f in
                let parts = and_parts (v.item.signal == s) (is_some (direct_of hub v.item)) v.passes in
                let same = same-wire hub base v.item w v.among h (eqb-true v.item.signal s parts.0 ∙ sym is) in
                absurd (clash (is_some (direct_of hub w)) (subst (λ (u : Wire). is_some (direct_of hub u) ≡ true) same parts.1) e)

        by : (b : Bool) → list_any (λ (w : Wire). w.signal == s) hub.base ≡ b → is_some (entry_at straight s) ≡ is_direct hub s
        by false e = ap is_some (are.rest s e) ∙ none (is_direct hub s) refl e
        by true e =
            let w = any-finds (λ (w : Wire). w.signal == s) hub.base e in
            let is = eqb-true w.item.signal s w.passes in
            ap (λ t. is_some (entry_at straight t)) (sym is) ∙ ap is_some (entry-is w.item w.among) ∙ one w.item w.among is

    -- ---- what is kept

    module _ (own : (s : ℕ) → s < length hub.circuit.signals → is_own hub s ≡ is_inner (side_at sides s)) (mine : List ℕ) (same : (s : ℕ) → Contains mine s ↔ Contains (made hub) s) where
      kept-test : (s : ℕ) → s < length hub.circuit.signals → is_kept (side_at sides s) (entry_at origins s) (entry_at straight s) ≡ (not (is_own hub s && is_some (origin hub s)) && not (is_direct hub s))
      kept-test s lt =
          ap (λ b. not (b && is_some (entry_at origins s)) && not (is_some (entry_at straight s))) (sym (own s lt))
          ∙ ap (λ o. not (is_own hub s && is_some o) && not (is_some (entry_at straight s))) (entries s lt)
          ∙ ap (λ b. not (is_own hub s && is_some (origin hub s)) && not b) (straight-is s)

      made-known : (s : ℕ) → Contains (made hub) s → s < length hub.circuit.signals
      made-known s h = range-below (length hub.circuit.signals) s (filter-cases (λ t. is_own hub t || is_given hub t) (range_with_len 0 (length hub.circuit.signals)) s h).among

      abbrev test : ℕ → Bool
      test s = is_kept (side_at sides s) (entry_at origins s) (entry_at straight s)

      abbrev theirs : ℕ → Bool
      theirs s = not (is_own hub s && is_some (origin hub s)) && not (is_direct hub s)

      pub kept-same : (s : ℕ) → Contains (filter (λ t. is_kept (side_at sides t) (entry_at origins t) (entry_at straight t)) mine) s ↔ Contains (kept hub) s
      kept-same s = (
        λ h.
            let k = filter-cases test mine s h in
            let among = (same s).0 k.among in
            Contains-filter theirs (made hub) s among (sym (kept-test s (made-known s among)) ∙ k.passes),
        λ h.
            let k = filter-cases theirs (made hub) s h in
            Contains-filter test mine s ((same s).1 k.among) (kept-test s (made-known s k.among) ∙ k.passes),
      )

      -- ---- what is gone

      module _ (memories : List ℕ) (held : (t : ℕ) → Contains (flat_map (memory_fields hub.circuit) memories) t ↔ Contains hub.held t) (names_known : (t : ℕ) → Contains (named_by hub (made hub)) t → t < length hub.circuit.signals) (gone : List Bool) (is : AreGone hub.circuit sides mine memories origins straight gone) where
        abbrev names : List ℕ
        names = names_by hub.circuit memories (filter (λ t. is_kept (side_at sides t) (entry_at origins t) (entry_at straight t)) mine)

        kept-named : (t : ℕ) → Contains (named_by hub (kept hub)) t → t < length hub.circuit.signals
        kept-named t h = names_known t (by (Contains-append_cases (flat_map (λ s. driver_names hub.circuit (driver_at hub.circuit s)) (kept hub)) hub.held t h))
          where
            by : Contains (flat_map (λ s. driver_names hub.circuit (driver_at hub.circuit s)) (kept hub)) t ⊎ Contains hub.held t → Contains (named_by hub (made hub)) t
            by (inl a) =
                let m = flat-out (λ s. driver_names hub.circuit (driver_at hub.circuit s)) (kept hub) t a in
                Contains-append_left (flat_map (λ s. driver_names hub.circuit (driver_at hub.circuit s)) (made hub)) hub.held t
                (flat-in (λ s. driver_names hub.circuit (driver_at hub.circuit s)) (made hub) m.item t (filter-cases theirs (made hub) m.item m.among).among m.has)
            by (inr b) = Contains-append_right (flat_map (λ s. driver_names hub.circuit (driver_at hub.circuit s)) (made hub)) hub.held t b

        direct-made : (w : Wire) → Contains hub.base w → w.producer ≡ 0 → Contains (made hub) w.signal
        direct-made w h from =
            Contains-filter (λ t. is_own hub t || is_given hub t) (range_with_len 0 (length hub.circuit.signals)) w.signal (in-range (length hub.circuit.signals) w.signal (lt-of w h))
            (or_right (is_own hub w.signal) (is_given hub w.signal)
            (finds-any (λ (v : Wire). (v.producer == 0) && (v.signal == w.signal)) hub.base w h (and_from (w.producer == 0) (w.signal == w.signal) (eq-eqb w.producer 0 from) (eq-eqb w.signal w.signal refl))))

        left-is : (x : ℕ) → list_any (λ t. x == t) (flat_map (λ s. option_to_list (entry_at straight s)) mine) ≡ list_any (λ (w : Wire). is_number x (direct_of hub w)) hub.base
        left-is x = by (list_any (λ t. x == t) (flat_map (λ s. option_to_list (entry_at straight s)) mine)) (list_any (λ (w : Wire). is_number x (direct_of hub w)) hub.base) refl refl
          where
            there : list_any (λ t. x == t) (flat_map (λ s. option_to_list (entry_at straight s)) mine) ≡ true → list_any (λ (w : Wire). is_number x (direct_of hub w)) hub.base ≡ true
            there e =
                let y = any-finds (λ t. x == t) (flat_map (λ s. option_to_list (entry_at straight s)) mine) e in
                let m = flat-out (λ s. option_to_list (entry_at straight s)) mine y.item y.among in
                carried m.item y.item (some-is (entry_at straight m.item) y.item m.has) (list_any (λ (w : Wire). w.signal == m.item) hub.base) refl y.passes
              where
                carried : (s y : ℕ) → entry_at straight s ≡ Some y → (b : Bool) → list_any (λ (w : Wire). w.signal == s) hub.base ≡ b → (x == y) ≡ true → list_any (λ (w : Wire). is_number x (direct_of hub w)) hub.base ≡ true
                carried s y entry false f p = absurd (some-clash y (entry_at straight s) entry (are.rest s f))
                carried s y entry true f p =
                    let w = any-finds (λ (w : Wire). w.signal == s) hub.base f in
                    let signal = eqb-true w.item.signal s w.passes in
                    finds-any (λ (w : Wire). is_number x (direct_of hub w)) hub.base w.item w.among
                    (ap (is_number x) (sym (entry-is w.item w.among) ∙ ap (entry_at straight) signal ∙ entry) ∙ p)

            back : list_any (λ (w : Wire). is_number x (direct_of hub w)) hub.base ≡ true → list_any (λ t. x == t) (flat_map (λ s. option_to_list (entry_at straight s)) mine) ≡ true
            back e =
                let w = any-finds (λ (w : Wire). is_number x (direct_of hub w)) hub.base e in
                let direct = number-is x (direct_of hub w.item) w.passes in
                let entry = entry-is w.item w.among ∙ direct in
                finds-any (λ t. x == t) (flat_map (λ s. option_to_list (entry_at straight s)) mine) x
                (flat-in (λ s. option_to_list (entry_at straight s)) mine w.item.signal x
                ((same w.item.signal).1 (direct-made w.item w.among (direct-is hub w.item x direct).may.producer)) (is-some (entry_at straight w.item.signal) x entry)) (eq-eqb x x refl)

            by : (a b : Bool) → list_any (λ t. x == t) (flat_map (λ s. option_to_list (entry_at straight s)) mine) ≡ a → list_any (λ (w : Wire). is_number x (direct_of hub w)) hub.base ≡ b → a ≡ b
            by true true e f = refl
            by false false e f = refl
            by true false e f = absurd (clash (list_any (λ (w : Wire). is_number x (direct_of hub w)) hub.base) (there e) f)
            by false true e f = absurd (clash (list_any (λ t. x == t) (flat_map (λ s. option_to_list (entry_at straight s)) mine)) (back f) e)

        needed-is : (x : ℕ) → list_any (λ t. x == t) (flat_map (λ t. option_to_list (entry_at origins t)) names) ≡ list_any (λ t. is_number x (origin hub t)) (named_by hub (kept hub))
        needed-is x = by (list_any (λ t. x == t) (flat_map (λ t. option_to_list (entry_at origins t)) names)) (list_any (λ t. is_number x (origin hub t)) (named_by hub (kept hub))) refl refl
          where
            alike : (t : ℕ) → Contains names t ↔ Contains (named_by hub (kept hub)) t
            alike = names-same hub memories held (filter (λ t. is_kept (side_at sides t) (entry_at origins t) (entry_at straight t)) mine) (kept hub) kept-same

            there : list_any (λ t. x == t) (flat_map (λ t. option_to_list (entry_at origins t)) names) ≡ true → list_any (λ t. is_number x (origin hub t)) (named_by hub (kept hub)) ≡ true
            there e =
                let y = any-finds (λ t. x == t) (flat_map (λ t. option_to_list (entry_at origins t)) names) e in
                let m = flat-out (λ t. option_to_list (entry_at origins t)) names y.item y.among in
                let among = (alike m.item).0 m.among in
                let from = some-is (entry_at origins m.item) y.item m.has in
                finds-any (λ t. is_number x (origin hub t)) (named_by hub (kept hub)) m.item among (ap (is_number x) (sym (entries m.item (kept-named m.item among)) ∙ from) ∙ y.passes)

            back : list_any (λ t. is_number x (origin hub t)) (named_by hub (kept hub)) ≡ true → list_any (λ t. x == t) (flat_map (λ t. option_to_list (entry_at origins t)) names) ≡ true
            back e =
                let t = any-finds (λ t. is_number x (origin hub t)) (named_by hub (kept hub)) e in
                let from = entries t.item (kept-named t.item t.among) ∙ number-is x (origin hub t.item) t.passes in
                finds-any (λ t. x == t) (flat_map (λ t. option_to_list (entry_at origins t)) names) x
                (flat-in (λ t. option_to_list (entry_at origins t)) names t.item x ((alike t.item).1 t.among) (is-some (entry_at origins t.item) x from)) (eq-eqb x x refl)

            by : (a b : Bool) → list_any (λ t. x == t) (flat_map (λ t. option_to_list (entry_at origins t)) names) ≡ a → list_any (λ t. is_number x (origin hub t)) (named_by hub (kept hub)) ≡ b → a ≡ b
            by true true e f = refl
            by false false e f = refl
            by true false e f = absurd (clash (list_any (λ t. is_number x (origin hub t)) (named_by hub (kept hub))) (there e) f)
            by false true e f = absurd (clash (list_any (λ t. x == t) (flat_map (λ t. option_to_list (entry_at origins t)) names)) (back f) e)

        pub gone-is : length origins ≡ length hub.circuit.signals → (s : ℕ) → s < length hub.circuit.signals → is_marked gone s ≡ is_gone hub s
        gone-is long s lt =
            ap (λ (l : List Bool). is_marked l s) is.is
            ∙ get_or-map (is_left is.left is.needed) origins s None false (omega (arith, lt, long))
            ∙ ap (is_left is.left is.needed) (entries s lt)
            ∙ by (origin hub s)
          where
            by : (o : Option ℕ) → is_left is.left is.needed o ≡ left_by hub o
            by None = refl
            by (Some x) = ap₂ (λ a b. a && not b) (is.ends x ∙ left-is x) (is.needs x ∙ needed-is x)

        -- ---- what is left

        routed-same : (w : Wire) → (o : Option ℕ) → direct_of hub w ≡ o → routed_by sides w o ≡ route_by hub w o
        routed-same w None e = refl
        routed-same w (Some x) e = by (side_at sides x) refl
          where
            end : is_taken hub x ≡ true
            end = let d = direct-is hub w x e in (chain-end hub (length hub.circuit.signals) d.next x d.from).taken

            by : (side : Side) → side_at sides x ≡ side → from_by w x side ≡ record { signal = w.signal; given = x; producer = giver hub x; consumer = w.consumer }
            by Other f = absurd (clash (is_taken hub x) end (taken x ∙ ap is_in f))
            by Own f = absurd (clash (is_taken hub x) end (taken x ∙ ap is_in f))
            by Out f = absurd (clash (is_taken hub x) end (taken x ∙ ap is_in f))
            by (In producer) f = ap (λ p. record { signal = w.signal; given = x; producer = p; consumer = w.consumer }) (sym (givers x producer f))

        pub routes-are : length origins ≡ length hub.circuit.signals → map (λ w. routed_by sides w (entry_at straight w.signal)) (filter (λ w. not (is_marked gone w.signal)) hub.base) ≡ routes hub
        routes-are long =
            map-filter-same (λ (w : Wire). routed_by sides w (entry_at straight w.signal)) (route hub) (λ (w : Wire). not (is_marked gone w.signal)) (λ (w : Wire). not (is_gone hub w.signal)) hub.base
            (λ w h. ap not (gone-is long w.signal (lt-of w h)))
            (λ w h. ap (routed_by sides w) (entry-is w h) ∙ routed-same w (direct_of hub w) refl)
