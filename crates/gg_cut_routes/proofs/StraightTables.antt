-- The table of direct channels, channel by channel.
use Rattle.std.proofs.Common.{◌≡◌, ◌≢◌, ℕ, zero, suc, ◌+◌, ◌<◌, ◌≤◌, List, [], ◌∷◌, ◌++◌, length, take, set, get_or, Bool, true, false, not, Option, Some, None, refl, sym, ◌∙◌, ap, subst, inl, inr, ◌⊎◌, eq-eqb, arith}
use Rattle.std.specs.Prelude.{◌&&◌, ◌==◌, if◌then◌else◌, option_and_then, Contains, AllPairs}
use Rattle.std.specs.List.{list_any}
use Rattle.std.proofs.lemmas.Bool.{cases_eq}
use Rattle.std.proofs.lemmas.List.{get_or-set_same, get_or-set_other, length-set, take_more, take_all, get_or-take, get_or_default, length-take-le}
use Rattle.std.proofs.lemmas.List.Elements.{Contains-append_left, Contains-append_right, Contains-append_cases}
use Rattle.gg_flat.specs.Circuit.{FlatCircuit}
use Rattle.gg_flat.proofs.ListLemmas.{here}
use Rattle.gg_order.specs.Marks.{is_marked}
use Rattle.gg_cut_plan.specs.declared.wires.Wire.{Wire}
use Rattle.gg_cut_plan.specs.Channels.{wire}
use Rattle.gg_cut_plan.specs.inside.Machines.{Counts, silent_by}
use Rattle.gg_cut_plan.specs.Plan.{wire_at}
use Rattle.gg_cut_routes.specs.declared.sides.Side.{Side}
use Rattle.gg_cut_routes.specs.declared.sides.Side.TheVariants.{Other, Own, Out, In}
use Rattle.gg_cut_plan.specs.Direct.{copied}
use Rattle.gg_cut_routes.specs.inside.Tables.{side_at, entry_at, AreKnown, origin_beyond, given_by, if_given, direct_by, AreEntries}
use Rattle.gg_cut_plan.proofs.OriginLemmas.{any-finds, finds-any, clash, some-clash, same-value}

-- what a direct channel is given by is a signal
pub direct-known : (circuit : FlatCircuit) (counts : Counts) (sides : List Side) (origins : List (Option ℕ)) (named : List Bool) (direct : Bool) (count : ℕ) (w : Wire) (x : ℕ) → AreKnown count origins → direct_by circuit counts sides origins named direct w ≡ Some x → x < count
direct-known circuit counts sides origins named direct count w x known e = by ((direct && (w.producer == 0)) && not (is_marked named w.signal)) e
  where
    from : (y producer : ℕ) (b : Bool) → y < count → (if b then None else Some y) ≡ Some x → x < count
    from y producer true lt f = absurd (some-clash x None f refl)
    from y producer false lt f = subst (λ t. t < count) (same-value y x (Some y) refl f) lt

    side : (y : ℕ) (side : Side) → y < count → given_by counts y side ≡ Some x → x < count
    side y Other lt f = absurd (some-clash x None f refl)
    side y Own lt f = absurd (some-clash x None f refl)
    side y Out lt f = absurd (some-clash x None f refl)
    side y (In producer) lt f = from y producer (silent_by counts producer) lt f

    end : (o : Option ℕ) → ((y : ℕ) → o ≡ Some y → y < count) → if_given counts sides o ≡ Some x → x < count
    end None low f = absurd (some-clash x None f refl)
    end (Some y) low f = side y (side_at sides y) (low y refl) f

    beyond : (o : Option ℕ) (y : ℕ) → option_and_then (entry_at origins) o ≡ Some y → y < count
    beyond None y f = absurd (some-clash y None f refl)
    beyond (Some t) y f = known t y f

    by : (b : Bool) → (if b then if_given counts sides (origin_beyond circuit origins w.signal) else None) ≡ Some x → x < count
    by true f = end (origin_beyond circuit origins w.signal) (λ y g. beyond (copied circuit w.signal) y g) f
    by false f = absurd (some-clash x None f refl)

-- the entries of the channels before place i
pub record EntriesTo (f : Wire → Option ℕ) (count : ℕ) (wires : List Wire) (i : ℕ) (table : List (Option ℕ)) : Type 0 where
  pub long : length table ≡ count
  pub known : AreKnown count table
  pub each : (w : Wire) → Contains (take i wires) w → entry_at table w.signal ≡ f w
  pub rest : (s : ℕ) → list_any (λ (w : Wire). w.signal == s) (take i wires) ≡ false → entry_at table s ≡ None

pub EntriesTo-none : (f : Wire → Option ℕ) (count : ℕ) (wires : List Wire) (table : List (Option ℕ)) → length table ≡ count → ((s : ℕ) → entry_at table s ≡ None) → EntriesTo f count wires 0 table
EntriesTo-none f count wires table long none =
    record { long = long; known = λ s x e. absurd (some-clash x (entry_at table s) e (none s)); each = λ w h. absurd (omega (arith, h.1)); rest = λ s e. none s }

module _ (f : Wire → Option ℕ) (count : ℕ) (wires : List Wire) (i : ℕ) (table : List (Option ℕ)) (lt : i < length wires) (within : (wire_at wires i).signal < count) (once : AllPairs (λ (v w : Wire). v.signal ≢ w.signal) wires) (low : (x : ℕ) → f (wire_at wires i) ≡ Some x → x < count) (before : EntriesTo f count wires i table) where
  abbrev w : Wire
  w = wire_at wires i

  inside : w.signal < length table
  inside = omega (arith, within, before.long)

  pub EntriesTo-more : EntriesTo f count wires (i + 1) (set table (wire_at wires i).signal (f (wire_at wires i)))
  EntriesTo-more =
      record {
        long = length-set table w.signal (f w) ∙ before.long;
        known = λ s x e. known-at s x (cases_eq s w.signal) e;
        each = λ v h. each-at v (Contains-append_cases (take i wires) (w ∷ []) v (subst (λ (l : List Wire). Contains l v) (take_more wires i (wire 0 0 0) lt) h));
        rest = λ s e. rest-at s (cases_eq s w.signal) (sym (ap (λ (l : List Wire). list_any (λ (v : Wire). v.signal == s) l) (take_more wires i (wire 0 0 0) lt)) ∙ e);
      }
    where
      known-at : (s x : ℕ) → (s ≡ w.signal) ⊎ (s ≡ w.signal → ⊥) → entry_at (set table w.signal (f w)) s ≡ Some x → x < count
      known-at s x (inl same) e = low x (sym (get_or-set_same table w.signal (f w) None inside) ∙ ap (entry_at (set table w.signal (f w))) (sym same) ∙ e)
      known-at s x (inr other) e = before.known s x (sym (get_or-set_other table w.signal s (f w) None other) ∙ e)

      last : (v : Wire) → Contains (w ∷ []) v → w ≡ v
      last v (zero, short, e) = e
      last v (suc k, short, e) = absurd (omega (arith, short))

      each-at : (v : Wire) → Contains (take i wires) v ⊎ Contains (w ∷ []) v → entry_at (set table w.signal (f w)) v.signal ≡ f v
      each-at v (inl h) =
          let less : h.0 < i = omega (arith, h.1, length-take-le i wires (omega (arith, lt))) in
          let is = sym (get_or-take i wires h.0 v less) ∙ h.2 in
          let apart = once h.0 i (wire 0 0 0) less lt in
          get_or-set_other table w.signal v.signal (f w) None
          (λ e. apart (ap (λ (u : Wire). u.signal) (same-item h.0 v (omega (arith, less, lt)) ∙ is) ∙ e))
          ∙ before.each v h
        where
          same-item : (k : ℕ) (d : Wire) → k < length wires → get_or wires k (wire 0 0 0) ≡ get_or wires k d
          same-item k d inside = get_or_default wires k (wire 0 0 0) d inside
      each-at v (inr h) = subst (λ (u : Wire). entry_at (set table w.signal (f w)) u.signal ≡ f u) (last v h) (get_or-set_same table w.signal (f w) None inside)

      rest-at : (s : ℕ) → (s ≡ w.signal) ⊎ (s ≡ w.signal → ⊥) → list_any (λ (v : Wire). v.signal == s) (take i wires ++ w ∷ []) ≡ false → entry_at (set table w.signal (f w)) s ≡ None
      rest-at s (inl same) e =
          absurd
          (clash (list_any (λ (v : Wire). v.signal == s) (take i wires ++ w ∷ []))
          (finds-any (λ (v : Wire). v.signal == s) (take i wires ++ w ∷ []) w (Contains-append_right (take i wires) (w ∷ []) w (here w [])) (eq-eqb w.signal s (sym same))) e)
      rest-at s (inr other) e = get_or-set_other table w.signal s (f w) None other ∙ before.rest s (front (list_any (λ (v : Wire). v.signal == s) (take i wires)) refl)
        where
          front : (b : Bool) → list_any (λ (v : Wire). v.signal == s) (take i wires) ≡ b → list_any (λ (v : Wire). v.signal == s) (take i wires) ≡ false
          front false a = a
          front true a =
              let v = any-finds (λ (v : Wire). v.signal == s) (take i wires) a in
              absurd
              (clash (list_any (λ (v : Wire). v.signal == s) (take i wires ++ w ∷ []))
              (finds-any (λ (v : Wire). v.signal == s) (take i wires ++ w ∷ []) v.item (Contains-append_left (take i wires) (w ∷ []) v.item v.among) v.passes) e)

pub EntriesTo-end : (f : Wire → Option ℕ) (count : ℕ) (wires : List Wire) (i : ℕ) (table : List (Option ℕ)) → length wires ≤ i → EntriesTo f count wires i table → AreEntries f wires table
EntriesTo-end f count wires i table past before =
    record {
      each = λ w h. before.each w (subst (λ (l : List Wire). Contains l w) (sym (take_all i wires past)) h);
      rest = λ s e. before.rest s (ap (λ (l : List Wire). list_any (λ (v : Wire). v.signal == s) l) (take_all i wires past) ∙ e);
    }
