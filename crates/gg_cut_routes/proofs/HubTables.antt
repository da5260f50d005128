-- What the table of sides says of the hub.
use Rattle.std.proofs.Common.{◌≡◌, ℕ, ◌<◌, List, length, Bool, true, false, not, refl, sym, ◌∙◌, ap, ap₂, subst, inl, inr, ◌⊎◌, eq-eqb}
use Rattle.std.specs.Prelude.{◌↔◌, ◌&&◌, ◌||◌, ◌==◌, Contains, All, filter}
use Rattle.std.specs.List.{list_any, range_with_len}
use Rattle.std.proofs.lemmas.Bool.{and_parts, and_from, or_cases, or_left, or_right, eqb-true, not-true, not_from_false}
use Rattle.std.proofs.lemmas.List.Elements.{All-contains}
use Rattle.gg_flat.proofs.ListLemmas.{Contains-filter, filter-cases, in-range, range-below}
use Rattle.gg_cut_plan.specs.declared.wires.Wire.{Wire}
use Rattle.gg_cut_routes.specs.declared.sides.Side.{Side}
use Rattle.gg_cut_routes.specs.declared.sides.Side.TheVariants.{Other, Own, Out, In}
use Rattle.gg_cut_plan.specs.Direct.{Hub, is_taken, is_given, is_own, made, giver}
use Rattle.gg_cut_routes.specs.inside.Tables.{side_at, ends_at_hub, IsCarried, IsSide, AreSides, is_in, is_inner, is_makers}
use Rattle.gg_cut_plan.proofs.OriginLemmas.{any-finds, finds-any, clash}
use Rattle.gg_cut_routes.proofs.RouteLemmas.{IsBase, same-wire, apart-at, giver-is, into, own-no-wire}
use Rattle.gg_cut_routes.proofs.ChoiceLemmas.{Made, Taken, made-wire, wire-made, wire-taken, inner-none, item-inner}
use Rattle.gg_cut_routes.proofs.ListTables.{listed-any, any-listed}

-- whether the hub gives such a signal on a channel
abbrev is_out : Side → Bool
is_out Other = false
is_out Own = false
is_out Out = true
is_out (In producer) = false

makers-is : (side : Side) → (is_inner side || is_out side) ≡ is_makers side
makers-is Other = refl
makers-is Own = refl
makers-is Out = refl
makers-is (In producer) = refl

module _ (hub : Hub) (base : IsBase hub) (globals : List ℕ) (sides : List Side) (are : AreSides hub.base globals sides) where
  -- a signal of which no channel ends at the hub
  none-taken : (s : ℕ) → list_any (ends_at_hub s) hub.base ≡ false → is_taken hub s ≡ false
  none-taken s none = by (is_taken hub s) refl
    where
      by : (b : Bool) → is_taken hub s ≡ b → is_taken hub s ≡ false
      by false e = e
      by true e =
          let w = any-finds (λ (w : Wire). (w.consumer == 0) && (w.signal == s)) hub.base e in
          let parts = and_parts (w.item.consumer == 0) (w.item.signal == s) w.passes in
          absurd
          (clash (list_any (ends_at_hub s) hub.base)
          (finds-any (ends_at_hub s) hub.base w.item w.among (and_from ((w.item.consumer == 0) || (w.item.producer == 0)) (w.item.signal == s) (or_left (w.item.consumer == 0) (w.item.producer == 0) parts.0) parts.1)) none)

  none-given : (s : ℕ) → list_any (ends_at_hub s) hub.base ≡ false → is_given hub s ≡ false
  none-given s none = by (is_given hub s) refl
    where
      by : (b : Bool) → is_given hub s ≡ b → is_given hub s ≡ false
      by false e = e
      by true e =
          let w = any-finds (λ (w : Wire). (w.producer == 0) && (w.signal == s)) hub.base e in
          let parts = and_parts (w.item.producer == 0) (w.item.signal == s) w.passes in
          absurd
          (clash (list_any (ends_at_hub s) hub.base)
          (finds-any (ends_at_hub s) hub.base w.item w.among (and_from ((w.item.consumer == 0) || (w.item.producer == 0)) (w.item.signal == s) (or_right (w.item.consumer == 0) (w.item.producer == 0) parts.0) parts.1)) none)

  one-wire : (s producer consumer : ℕ) (v : IsCarried hub.base s producer consumer) (w : Wire) → Contains hub.base w → w.signal ≡ s → v.wire ≡ w
  one-wire s producer consumer v w h e = same-wire hub base v.wire w v.among h (v.is ∙ sym e)

  out-untaken : (s consumer : ℕ) → IsCarried hub.base s 0 consumer → is_taken hub s ≡ false
  out-untaken s consumer v = by (is_taken hub s) refl
    where
      by : (b : Bool) → is_taken hub s ≡ b → is_taken hub s ≡ false
      by false e = e
      by true e =
          let w = into hub base s e in
          let same = one-wire s 0 consumer v w.wire w.among w.is in
          absurd (apart-at hub base v.wire v.among (v.from ∙ sym (ap (λ (u : Wire). u.consumer) same ∙ w.consumer)))

  in-ungiven : (s producer : ℕ) → IsCarried hub.base s producer 0 → is_given hub s ≡ false
  in-ungiven s producer v = by (is_given hub s) refl
    where
      by : (b : Bool) → is_given hub s ≡ b → is_given hub s ≡ false
      by false e = e
      by true e =
          let w = any-finds (λ (w : Wire). (w.producer == 0) && (w.signal == s)) hub.base e in
          let parts = and_parts (w.item.producer == 0) (w.item.signal == s) w.passes in
          let same = one-wire s producer 0 v w.item w.among (eqb-true w.item.signal s parts.1) in
          absurd (apart-at hub base v.wire v.among (ap (λ (u : Wire). u.producer) same ∙ eqb-true w.item.producer 0 parts.0 ∙ sym v.to))

  carried-not-own : (s producer consumer : ℕ) → IsCarried hub.base s producer consumer → is_own hub s ≡ false
  carried-not-own s producer consumer v = by (is_own hub s) refl
    where
      by : (b : Bool) → is_own hub s ≡ b → is_own hub s ≡ false
      by false e = e
      by true e = absurd (own-no-wire hub base v.wire v.among (subst (λ t. is_own hub t ≡ true) (sym v.is) e))

  pub side-taken : (s : ℕ) → is_taken hub s ≡ is_in (side_at sides s)
  side-taken s = by (side_at sides s) (are s)
    where
      by : (side : Side) → IsSide hub.base globals s side → is_taken hub s ≡ is_in side
      by Other is = none-taken s is.1
      by Own is = none-taken s is.1
      by Out is = out-untaken s is.consumer is.carried
      by (In producer) is = finds-any (λ (w : Wire). (w.consumer == 0) && (w.signal == s)) hub.base is.wire is.among (and_from (is.wire.consumer == 0) (is.wire.signal == s) (eq-eqb is.wire.consumer 0 is.to) (eq-eqb is.wire.signal s is.is))

  side-given : (s : ℕ) → is_given hub s ≡ is_out (side_at sides s)
  side-given s = by (side_at sides s) (are s)
    where
      by : (side : Side) → IsSide hub.base globals s side → is_given hub s ≡ is_out side
      by Other is = none-given s is.1
      by Own is = none-given s is.1
      by Out is =
          let v = is.carried in
          finds-any (λ (w : Wire). (w.producer == 0) && (w.signal == s)) hub.base v.wire v.among (and_from (v.wire.producer == 0) (v.wire.signal == s) (eq-eqb v.wire.producer 0 v.from) (eq-eqb v.wire.signal s v.is))
      by (In producer) is = in-ungiven s producer is

  pub side-giver : (s producer : ℕ) → side_at sides s ≡ In producer → giver hub s ≡ producer
  side-giver s producer e = by (subst (IsSide hub.base globals s) e (are s))
    where
      by : IsCarried hub.base s producer 0 → giver hub s ≡ producer
      by v = ap (giver hub) (sym v.is) ∙ giver-is hub base v.wire v.among ∙ v.from

  module _ (known : All (λ s. s < length hub.circuit.signals) globals) (signals : (s : ℕ) → Contains globals s ↔ (Made hub base 0 s ⊎ Taken hub base 0 s)) where
    own-listed : (s : ℕ) → s < length hub.circuit.signals → is_own hub s ≡ true → Contains globals s
    own-listed s lt e =
        let parts = and_parts (hub.owner s == 0) (not (list_any (λ (w : Wire). w.signal == s) hub.base)) e in
        (signals s).1 (inl (inl (lt, eqb-true (hub.owner s) 0 parts.0, item-inner hub base s (not-true (list_any (λ (w : Wire). w.signal == s) hub.base) parts.1))))

    listed-own : (s : ℕ) → list_any (ends_at_hub s) hub.base ≡ false → Made hub base 0 s ⊎ Taken hub base 0 s → is_own hub s ≡ true
    listed-own s none (inl (inl own)) =
        and_from (hub.owner s == 0) (not (list_any (λ (w : Wire). w.signal == s) hub.base)) (eq-eqb (hub.owner s) 0 own.1) (not_from_false (list_any (λ (w : Wire). w.signal == s) hub.base) (inner-none hub base s own.2))
    listed-own s none (inl (inr h)) =
        let w = wire-made hub base 0 s h in
        absurd
        (clash (list_any (ends_at_hub s) hub.base)
        (finds-any (ends_at_hub s) hub.base w.wire w.among (and_from ((w.wire.consumer == 0) || (w.wire.producer == 0)) (w.wire.signal == s) (or_right (w.wire.consumer == 0) (w.wire.producer == 0) (eq-eqb w.wire.producer 0 w.producer)) (eq-eqb w.wire.signal s w.is))) none)
    listed-own s none (inr h) =
        let w = wire-taken hub base 0 s h in
        absurd
        (clash (list_any (ends_at_hub s) hub.base)
        (finds-any (ends_at_hub s) hub.base w.wire w.among (and_from ((w.wire.consumer == 0) || (w.wire.producer == 0)) (w.wire.signal == s) (or_left (w.wire.consumer == 0) (w.wire.producer == 0) (eq-eqb w.wire.consumer 0 w.consumer)) (eq-eqb w.wire.signal s w.is))) none)

    pub side-own : (s : ℕ) → s < length hub.circuit.signals → is_own hub s ≡ is_inner (side_at sides s)
    side-own s lt = by (side_at sides s) (are s)
      where
        none : (b : Bool) → is_own hub s ≡ b → list_any (λ t. s == t) globals ≡ false → is_own hub s ≡ false
        none false e free = e
        none true e free = absurd (clash (list_any (λ t. s == t) globals) (listed-any globals s (own-listed s lt e)) free)

        by : (side : Side) → IsSide hub.base globals s side → is_own hub s ≡ is_inner side
        by Other is = none (is_own hub s) refl is.0
        by Own is = listed-own s is.1 ((signals s).0 (any-listed globals s is.0))
        by Out is = carried-not-own s 0 is.consumer is.carried
        by (In producer) is = carried-not-own s producer 0 is

    side-made : (s : ℕ) → s < length hub.circuit.signals → (is_own hub s || is_given hub s) ≡ is_makers (side_at sides s)
    side-made s lt = ap₂ (λ a b. a || b) (side-own s lt) (side-given s) ∙ makers-is (side_at sides s)

    -- the signals that the hub makes
    pub made-same : (s : ℕ) → Contains (filter (λ t. is_makers (side_at sides t)) globals) s ↔ Contains (made hub) s
    made-same s = (out, back)
      where
        out : Contains (filter (λ t. is_makers (side_at sides t)) globals) s → Contains (made hub) s
        out h =
            let kept = filter-cases (λ t. is_makers (side_at sides t)) globals s h in
            let lt = All-contains (λ t. t < length hub.circuit.signals) globals s known kept.among in
            Contains-filter (λ t. is_own hub t || is_given hub t) (range_with_len 0 (length hub.circuit.signals)) s (in-range (length hub.circuit.signals) s lt) (side-made s lt ∙ kept.passes)

        listed : s < length hub.circuit.signals → (is_own hub s ≡ true) ⊎ (is_given hub s ≡ true) → Contains globals s
        listed lt (inl e) = own-listed s lt e
        listed lt (inr e) =
            let w = any-finds (λ (w : Wire). (w.producer == 0) && (w.signal == s)) hub.base e in
            let parts = and_parts (w.item.producer == 0) (w.item.signal == s) w.passes in
            (signals s).1 (inl (made-wire hub base 0 s w.item w.among (eqb-true w.item.producer 0 parts.0) (eqb-true w.item.signal s parts.1)))

        back : Contains (made hub) s → Contains (filter (λ t. is_makers (side_at sides t)) globals) s
        back h =
            let kept = filter-cases (λ t. is_own hub t || is_given hub t) (range_with_len 0 (length hub.circuit.signals)) s h in
            let lt = range-below (length hub.circuit.signals) s kept.among in
            Contains-filter (λ t. is_makers (side_at sides t)) globals s (listed lt (or_cases (is_own hub s) (is_given hub s) kept.passes)) (sym (side-made s lt) ∙ kept.passes)
