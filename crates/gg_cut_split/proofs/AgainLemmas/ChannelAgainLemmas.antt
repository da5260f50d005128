-- What one of two units takes and gives, the other takes and gives too; and a signal of the one has no channel if its counterpart has none.
use Rattle.std.proofs.Common.{◌≡◌, ℕ, List, [], sym, ◌∙◌, ap, subst, inl, inr, ◌⊎◌, true-eqb}
use Rattle.std.specs.Prelude.{◌==◌, Contains}
use Rattle.std.proofs.lemmas.List.Elements.{All-contains}
use Rattle.gg_flat.specs.Line.{value_at}
use Rattle.gg_flat_tree.specs.Tree.{Holds, instance_at}
use Rattle.gg_flat.proofs.ListLemmas.{Contains-map}
use Rattle.gg_part.specs.Copies.{Start}
use Rattle.gg_part.specs.Moved.{shifted}
use Rattle.gg_order.specs.Design.{Ordered}
use Rattle.gg_cut_plan.specs.declared.wires.Wire.{Wire}
use Rattle.gg_cut_plan.specs.declared.listed.Listed.{Listed}
use Rattle.gg_cut_plan.specs.Machines.{unit_number}
use Rattle.gg_cut_plan.specs.Ports.{machine_end, ports_of}
use Rattle.gg_cut_plan.specs.Plan.{wire_at, channels_to, signals_of, IsInner, Takes}
use Rattle.gg_cut_split.specs.inside.Apart.{AreEnds}
use Rattle.gg_cut_split.proofs.ClosedLemmas.EndLemmas.{ends}
use Rattle.gg_cut_split.proofs.ClosedLemmas.MakerLemmas.{HasWire, chosen-out, given-out, wire-among, no-channel}
use Rattle.gg_cut_split.proofs.ClosedLemmas.OnceLemmas.{channel-one}
use Rattle.gg_cut_split.specs.inside.Again.{cut_wires}
use Rattle.gg_cut_split.proofs.AgainLemmas.AtAgainLemmas.{shifted-back, held-moved, held-behind, at-again}
use Rattle.gg_cut_split.proofs.AgainLemmas.Pair.{ArePair, AreChannelsOver, turned}
use Rattle.gg_cut_split.proofs.AgainLemmas.TakenAgainLemmas.{ins}
use Rattle.gg_cut_split.proofs.AgainLemmas.UnitSignalLemmas.{IsAtUnit, Gives, at-held, at-ends, held-at, end-at}

module _ (design : Ordered) (listed : Listed) (u v : ℕ) (one other : Start) (pair : ArePair design listed u v one other) where
  -- a unit that takes or gives a signal has it at one of its channels
  taken-at : (s : ℕ) → Takes (cut_wires design listed) (unit_number u) s → IsAtUnit design.circuit design.tree listed u s
  taken-at s t =
      let w = chosen-out (cut_wires design listed) (λ w. w.consumer == unit_number u) s t in
      subst (IsAtUnit design.circuit design.tree listed u) w.is
      (end-at design.circuit design.tree listed pair.keeps.fitting pair.keeps.scoped pair.apart u pair.there.known w.wire w.among (inr (true-eqb w.wire.consumer (unit_number u) (sym w.passes))))

  given-at : (s : ℕ) → Gives (cut_wires design listed) (unit_number u) s → IsAtUnit design.circuit design.tree listed u s
  given-at s g =
      let w = given-out design.circuit design.tree listed [] (unit_number u) s g in
      subst (IsAtUnit design.circuit design.tree listed u) w.is
      (end-at design.circuit design.tree listed pair.keeps.fitting pair.keeps.scoped pair.apart u pair.there.known w.wire w.among (inl (true-eqb w.wire.producer (unit_number u) (sym w.passes))))

  -- no machine takes the channel of a signal that it gives
  not-both : (m s : ℕ) → Gives (cut_wires design listed) m s → Takes (cut_wires design listed) m s → ⊥
  not-both m s g t = by (given-out design.circuit design.tree listed [] m s g) (chosen-out (cut_wires design listed) (λ w. w.consumer == m) s t)
    where
      by : HasWire (cut_wires design listed) (λ w. w.producer == m) s → HasWire (cut_wires design listed) (λ w. w.consumer == m) s → ⊥
      by a b =
          let same = channel-one design.circuit design.tree listed [] pair.keeps.fitting pair.keeps.scoped pair.apart a.wire b.wire a.among b.among (a.is ∙ sym b.is) in
          (All-contains (AreEnds (machine_end (ports_of design.circuit design.tree listed []))) (cut_wires design listed) a.wire (ends design.circuit design.tree listed [] pair.keeps.fitting pair.apart) a.among).apart
          (true-eqb a.wire.producer m (sym a.passes) ∙ sym (true-eqb b.wire.consumer m (sym b.passes)) ∙ ap (λ (w : Wire). w.consumer) (sym same))

  -- the other unit takes the counterpart of what the one takes
  taken-again : (s : ℕ) → Takes (cut_wires design listed) (unit_number u) s → Takes (cut_wires design listed) (unit_number v) (shifted one.signals other.signals s)
  taken-again s h =
      subst (λ (l : List ℕ). Contains l (shifted one.signals other.signals s)) (sym (ins design listed u v one other pair))
      (Contains-map (shifted one.signals other.signals) (signals_of (cut_wires design listed) (channels_to (cut_wires design listed) (unit_number u))) s h)

  -- a signal at the one unit has its counterpart at a channel of the other, which takes it or gives it
  gets-again : (s : ℕ) → IsAtUnit design.circuit design.tree listed u s → Takes (cut_wires design listed) (unit_number v) (shifted one.signals other.signals s) ⊎ Gives (cut_wires design listed) (unit_number v) (shifted one.signals other.signals s)
  gets-again s at =
      at-ends design.circuit design.tree listed pair.keeps.fitting pair.keeps.scoped pair.apart v pair.back.known (shifted one.signals other.signals s) (at-again design listed u v one other pair s at)

  signal-back : (s : ℕ) → Holds (instance_at design.tree (value_at listed.units u)) s → shifted other.signals one.signals (shifted one.signals other.signals s) ≡ s
  signal-back s holds = shifted-back one.signals other.signals s (held-behind design listed u v one other pair s holds)

-- the other unit gives the counterpart of what the one gives
given-again : (design : Ordered) (listed : Listed) (u v : ℕ) (one other : Start) → ArePair design listed u v one other → (s : ℕ) → Gives (cut_wires design listed) (unit_number u) s → Gives (cut_wires design listed) (unit_number v) (shifted one.signals other.signals s)
given-again design listed u v one other pair s g = by (gets-again design listed u v one other pair s at)
  where
    at : IsAtUnit design.circuit design.tree listed u s
    at = given-at design listed u v one other pair s g

    by : Takes (cut_wires design listed) (unit_number v) (shifted one.signals other.signals s) ⊎ Gives (cut_wires design listed) (unit_number v) (shifted one.signals other.signals s) → Gives (cut_wires design listed) (unit_number v) (shifted one.signals other.signals s)
    by (inl t) =
        let holds = at-held design.circuit design.tree listed pair.keeps.fitting pair.keeps.scoped pair.apart u pair.there.known s at in
        absurd (not-both design listed u v one other pair (unit_number u) s g
        (subst (Takes (cut_wires design listed) (unit_number u)) (signal-back design listed u v one other pair s holds)
        (taken-again design listed v u other one (turned pair) (shifted one.signals other.signals s) t)))
    by (inr given) = given

-- a signal of the one unit has no channel if its counterpart has none
inner-from : (design : Ordered) (listed : Listed) (u v : ℕ) (one other : Start) → ArePair design listed u v one other → (s : ℕ) → Holds (instance_at design.tree (value_at listed.units u)) s → IsInner (cut_wires design listed) (shifted one.signals other.signals s) → IsInner (cut_wires design listed) s
inner-from design listed u v one other pair s holds inner c lt is = by (gets-again design listed u v one other pair s at)
  where
    at : IsAtUnit design.circuit design.tree listed u s
    at =
        subst (IsAtUnit design.circuit design.tree listed u) is
        (held-at design.circuit design.tree listed pair.keeps.fitting pair.keeps.scoped pair.apart u pair.there.known (wire_at (cut_wires design listed) c) (wire-among (cut_wires design listed) c lt)
        (subst (Holds (instance_at design.tree (value_at listed.units u))) (sym is) holds))

    none : (w : Wire) → Contains (cut_wires design listed) w → w.signal ≡ shifted one.signals other.signals s → ⊥
    none w among same = no-channel design.circuit design.tree listed [] pair.keeps.fitting pair.keeps.scoped pair.apart (shifted one.signals other.signals s) w inner among same

    by : Takes (cut_wires design listed) (unit_number v) (shifted one.signals other.signals s) ⊎ Gives (cut_wires design listed) (unit_number v) (shifted one.signals other.signals s) → ⊥
    by (inl t) = let w = chosen-out (cut_wires design listed) (λ w. w.consumer == unit_number v) (shifted one.signals other.signals s) t in none w.wire w.among w.is
    by (inr g) = let w = given-out design.circuit design.tree listed [] (unit_number v) (shifted one.signals other.signals s) g in none w.wire w.among w.is

-- what the channels of the one unit carry, those of the other carry too
pub channels-over : (design : Ordered) (listed : Listed) (u v : ℕ) (one other : Start) → ArePair design listed u v one other → AreChannelsOver design listed u v one other
channels-over design listed u v one other pair =
    record {
      held = λ s h. at-held design.circuit design.tree listed pair.keeps.fitting pair.keeps.scoped pair.apart u pair.there.known s (at s h);
      given = given-again design listed u v one other pair;
      taken = taken-again design listed u v one other pair;
      inner = λ s holds inner.
          inner-from design listed v u other one (turned pair) (shifted one.signals other.signals s) (held-moved design listed u v one other pair s holds)
          (subst (IsInner (cut_wires design listed)) (sym (signal-back design listed u v one other pair s holds)) inner);
    }
  where
    at : (s : ℕ) → Gives (cut_wires design listed) (unit_number u) s ⊎ Takes (cut_wires design listed) (unit_number u) s → IsAtUnit design.circuit design.tree listed u s
    at s (inl g) = given-at design listed u v one other pair s g
    at s (inr t) = taken-at design listed u v one other pair s t
