-- The table of origins, signal by signal along the order.
use Rattle.std.proofs.Common.{◌≡◌, ℕ, ◌+◌, ◌<◌, ◌≤◌, List, length, set, Bool, true, false, Option, Some, None, refl, sym, ◌∙◌, ap, subst, inl, inr, ◌⊎◌, arith}
use Rattle.std.specs.Prelude.{◌||◌, if◌then◌else◌, option_and_then}
use Rattle.std.proofs.lemmas.Bool.{cases_eq}
use Rattle.std.proofs.lemmas.List.{get_or-set_same, get_or-set_other, length-set, get_or_default}
use Rattle.gg_flat.specs.Circuit.{FlatCircuit}
use Rattle.gg_flat.specs.Line.{value_at}
use Rattle.gg_flat.specs.Order.{IsOrder}
use Rattle.gg_flat.proofs.OrderLemmas.{read-before, place-of}
use Rattle.gg_order.specs.Marks.{is_marked}
use Rattle.gg_part.proofs.FrameLemmas.{length-once}
use Rattle.gg_cut_routes.specs.declared.sides.Side.{Side}
use Rattle.gg_cut_routes.specs.declared.sides.Side.TheVariants.{Other, Own, Out, In}
use Rattle.gg_cut_plan.specs.Direct.{Hub, is_own, origin, copied}
use Rattle.gg_cut_routes.specs.inside.Tables.{side_at, entry_at, AreKnown, origin_beyond, origin_by, is_in, is_inner, IsSeen, AreOrigins}
use Rattle.gg_cut_plan.proofs.OriginLemmas.{some-clash, same-value}
use Rattle.gg_cut_routes.proofs.WholeLemmas.{origin-step, copy-reads}

pub order-few : (circuit : FlatCircuit) (order : List ℕ) → IsOrder circuit order → length order ≤ length circuit.signals
order-few circuit order ordered =
    length-once order (length circuit.signals) ordered.once (λ i d lt. subst (λ s. s < length circuit.signals) (get_or_default order i 0 d lt) (ordered.signals i lt))

-- what the origin of a signal is found to be is a signal
pub origin-known : (circuit : FlatCircuit) (origins : List (Option ℕ)) (count s x : ℕ) (side : Side) (barred : Bool) → s < count → AreKnown count origins → origin_by side barred s (origin_beyond circuit origins s) ≡ Some x → x < count
origin-known circuit origins count s x Other barred lt known e = absurd (some-clash x None e refl)
origin-known circuit origins count s x Out barred lt known e = absurd (some-clash x None e refl)
origin-known circuit origins count s x (In producer) true lt known e = absurd (some-clash x None e refl)
origin-known circuit origins count s x (In producer) false lt known e = subst (λ t. t < count) (same-value s x (Some s) refl e) lt
origin-known circuit origins count s x Own barred lt known e = by (copied circuit s) e
  where
    by : (o : Option ℕ) → option_and_then (entry_at origins) o ≡ Some x → x < count
    by None f = absurd (some-clash x None f refl)
    by (Some t) f = known t x f

-- the origins of the signals before place i of the order
pub record OriginsTo (circuit : FlatCircuit) (order : List ℕ) (sides : List Side) (barred : List Bool) (i : ℕ) (old origins : List (Option ℕ)) : Type 0 where
  pub count : length origins ≡ length old
  pub known : AreKnown (length circuit.signals) origins
  pub each : (hub : Hub) → IsSeen hub circuit sides barred → (q : ℕ) → q < i → entry_at origins (value_at order q) ≡ origin hub (value_at order q)

pub OriginsTo-none : (circuit : FlatCircuit) (order : List ℕ) (sides : List Side) (barred : List Bool) (old : List (Option ℕ)) → ((s : ℕ) → entry_at old s ≡ None) → OriginsTo circuit order sides barred 0 old old
OriginsTo-none circuit order sides barred old none = record { count = refl; known = λ s x e. absurd (some-clash x (entry_at old s) e (none s)); each = λ hub seen q lt. absurd (omega (arith, lt)) }

module _ (circuit : FlatCircuit) (order : List ℕ) (sides : List Side) (barred : List Bool) (i : ℕ) (old origins : List (Option ℕ)) (ordered : IsOrder circuit order) (inside : i < length order) (long : length old ≡ length circuit.signals) (before : OriginsTo circuit order sides barred i old origins) where
  abbrev s : ℕ
  s = value_at order i

  abbrev found : Option ℕ
  found = origin_by (side_at sides s) (is_marked barred s) s (origin_beyond circuit origins s)

  within : s < length origins
  within = let low = ordered.signals i inside in omega (arith, low, before.count, long)

  -- what the table has so far is enough for this signal
  beyond : (hub : Hub) → IsSeen hub circuit sides barred → option_and_then (entry_at origins) (copied hub.circuit s) ≡ option_and_then (origin hub) (copied hub.circuit s)
  beyond hub seen = by (copied hub.circuit s) refl
    where
      by : (o : Option ℕ) → copied hub.circuit s ≡ o → option_and_then (entry_at origins) o ≡ option_and_then (origin hub) o
      by None e = refl
      by (Some t) e =
          let own = subst (λ (c : FlatCircuit). IsOrder c order) (sym seen.is) ordered in
          let at = read-before hub.circuit order i s t own inside refl (copy-reads hub order own s t (own.signals i inside) e) in
          subst (λ u. entry_at origins u ≡ origin hub u) at.is (before.each hub seen at.place at.before)

  now : (hub : Hub) → IsSeen hub circuit sides barred → found ≡ origin hub s
  now hub seen =
      ap (λ (c : FlatCircuit). origin_by (side_at sides s) (is_marked barred s) s (option_and_then (entry_at origins) (copied c s))) (sym seen.is)
      ∙ ap (origin_by (side_at sides s) (is_marked barred s) s) (beyond hub seen)
      ∙ by (side_at sides s) (is_marked barred s) (option_and_then (origin hub) (copied hub.circuit s))
      ∙ sym
      (origin-step hub order own (order-few hub.circuit order own) s low
      ∙ ap (λ b. if b then (if hub.piped s then None else Some s) else (if is_own hub s then option_and_then (origin hub) (copied hub.circuit s) else None)) (seen.taken s)
      ∙ ap (λ b. if is_in (side_at sides s) then (if b then None else Some s) else (if is_own hub s then option_and_then (origin hub) (copied hub.circuit s) else None)) (seen.barred s)
      ∙ ap (λ b. if is_in (side_at sides s) then (if is_marked barred s then None else Some s) else (if b then option_and_then (origin hub) (copied hub.circuit s) else None)) (seen.own s (ordered.signals i inside)))
    where
      own : IsOrder hub.circuit order
      own = subst (λ (c : FlatCircuit). IsOrder c order) (sym seen.is) ordered

      low : s < length hub.circuit.signals
      low = own.signals i inside

      by : (side : Side) (p : Bool) (o : Option ℕ) → origin_by side p s o ≡ (if is_in side then (if p then None else Some s) else (if is_inner side then o else None))
      by Other p o = refl
      by Own p o = refl
      by Out p o = refl
      by (In producer) p o = refl

  pub OriginsTo-more : OriginsTo circuit order sides barred (i + 1) old (set origins (value_at order i) (origin_by (side_at sides (value_at order i)) (is_marked barred (value_at order i)) (value_at order i) (origin_beyond circuit origins (value_at order i))))
  OriginsTo-more =
      record {
        count = length-set origins s found ∙ before.count;
        known = λ t x e. known-at t x (cases_eq t s) e;
        each = λ hub seen q lt. at hub seen q lt (cases_eq q i);
      }
    where
      known-at : (t x : ℕ) → (t ≡ s) ⊎ (t ≡ s → ⊥) → entry_at (set origins s found) t ≡ Some x → x < length circuit.signals
      known-at t x (inl same) e =
          origin-known circuit origins (length circuit.signals) s x (side_at sides s) (is_marked barred s) (ordered.signals i inside) before.known
          (sym (get_or-set_same origins s found None within) ∙ ap (entry_at (set origins s found)) (sym same) ∙ e)
      known-at t x (inr other) e = before.known t x (sym (get_or-set_other origins s t found None other) ∙ e)

      at : (hub : Hub) → IsSeen hub circuit sides barred → (q : ℕ) → q < i + 1 → (q ≡ i) ⊎ (q ≡ i → ⊥) → entry_at (set origins s found) (value_at order q) ≡ origin hub (value_at order q)
      at hub seen q lt (inl same) = subst (λ k. entry_at (set origins s found) (value_at order k) ≡ origin hub (value_at order k)) (sym same) (get_or-set_same origins s found None within ∙ now hub seen)
      at hub seen q lt (inr other) =
          let less : q < i = omega (arith, lt, other) in
          get_or-set_other origins s (value_at order q) found None (ordered.once q i 0 less inside) ∙ before.each hub seen q less

-- each signal has its place in the order
pub OriginsTo-end : (circuit : FlatCircuit) (order : List ℕ) (sides : List Side) (barred : List Bool) (i : ℕ) (old origins : List (Option ℕ)) → IsOrder circuit order → length order ≤ i → OriginsTo circuit order sides barred i old origins → (hub : Hub) → IsSeen hub circuit sides barred → AreOrigins hub origins
OriginsTo-end circuit order sides barred i old origins ordered past before hub seen =
    record {
      each = λ s lt.
          let at = place-of circuit order s ordered (subst (λ (c : FlatCircuit). s < length c.signals) seen.is lt) in
          let low = at.within in
          subst (λ t. entry_at origins t ≡ origin hub t) at.is (before.each hub seen at.place (omega (arith, low, past)));
    }
