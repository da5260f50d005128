-- The signals that a unit makes and takes, and those of a copy of it.
use Rattle.std.proofs.Common.{◌≡◌, ℕ, suc, ◌<◌, [], length, Bool, true, false, refl, sym, ◌∙◌, ap, subst, inl, inr, ◌⊎◌, true-eqb, arith}
use Rattle.std.specs.Prelude.{slice_index_or, if◌then◌else◌, Contains}
use Rattle.gg_flat.specs.declared.piece.Driver.TheVariants.{Held}
use Rattle.gg_flat.specs.declared.piece.Register.{Register}
use Rattle.gg_flat.specs.Circuit.{FlatCircuit, driver_at}
use Rattle.gg_flat.specs.Line.{value_at}
use Rattle.gg_flat_tree.specs.Scoped.{IsInputOf}
use Rattle.gg_flat_tree.specs.Tree.{InstanceTree, Holds, instance_at}
use Rattle.gg_flat.specs.WellFormed.{MayDrive}
use Rattle.gg_part.specs.Copies.{Start}
use Rattle.gg_part.specs.Moved.{shifted, unclocked_register}
use Rattle.gg_order.specs.Design.{Ordered}
use Rattle.gg_cut_plan.specs.declared.listed.Listed.{Listed}
use Rattle.gg_cut_plan.specs.declared.wires.Wire.{Wire}
use Rattle.gg_cut_plan.specs.Channels.{wire, port_wire}
use Rattle.gg_cut_plan.specs.Listed.{owner_of}
use Rattle.gg_cut_plan.specs.Machines.{unit_number}
use Rattle.gg_cut_plan.specs.inside.Plan.{Makes}
use Rattle.gg_cut_plan.specs.Plan.{Takes, IsInner}
use Rattle.gg_cut_split.proofs.ClosedLemmas.KindLemmas.{outside_unit, unit-wire}
use Rattle.gg_cut_split.proofs.ClosedLemmas.MakerLemmas.{given-out, no-channel, owner-signal}
use Rattle.gg_cut_split.proofs.ClosedLemmas.OnceLemmas.{channel-one}
use Rattle.gg_cut_split.proofs.ClosedLemmas.TreeLemmas.{innermost}
use Rattle.gg_cut_split.proofs.ClosedLemmas.WrittenLemmas.{inner-plain}
use Rattle.gg_cut_split.specs.inside.Again.{cut_wires}
use Rattle.gg_cut_split.proofs.AgainLemmas.AtAgainLemmas.{held-moved}
use Rattle.gg_cut_split.proofs.AgainLemmas.Pair.{ArePair, AreChannelsOver}
use Rattle.gg_cut_split.proofs.AgainLemmas.TakenLemmas.{outside-hub}
use Rattle.gg_cut_split.proofs.AgainLemmas.UnitSignalLemmas.{inner-held, holder-owner}
use Rattle.gg_flat.specs.Renaming.{numbers_by, renamed_driver, renamed_register, signals_by}

module _ (design : Ordered) (listed : Listed) (u v : ℕ) (one other : Start) (pair : ArePair design listed u v one other) (channels : AreChannelsOver design listed u v one other) where
  abbrev circuit : FlatCircuit
  circuit = design.circuit

  abbrev tree : InstanceTree
  tree = design.tree

  -- ---- own signals lie in the unit

  -- a signal without a channel that belongs to a unit is one of the unit's instance
  owned-held : (s : ℕ) → s < length design.circuit.signals → owner_of design.circuit design.tree listed s ≡ suc u → IsInner (cut_wires design listed) s → Holds (instance_at design.tree (value_at listed.units u)) s
  owned-held s lt owner inner =
      let at = innermost circuit tree pair.keeps.fitting s lt in
      inner-held circuit tree listed pair.keeps.fitting pair.keeps.scoped pair.apart u pair.there.known at.place s at.is
      (sym (owner-signal circuit tree listed pair.keeps.fitting pair.keeps.scoped pair.apart at.place s at.is (inner-plain circuit tree listed [] pair.keeps.fitting pair.keeps.scoped pair.apart s inner)) ∙ owner)

  -- a signal without a channel of a unit's instance belongs to the unit
  held-owned : (s : ℕ) → s < length design.circuit.signals → Holds (instance_at design.tree (value_at listed.units v)) s → IsInner (cut_wires design listed) s → owner_of design.circuit design.tree listed s ≡ suc v
  held-owned s lt holds inner =
      let at = innermost circuit tree pair.keeps.fitting s lt in
      owner-signal circuit tree listed pair.keeps.fitting pair.keeps.scoped pair.apart at.place s at.is (inner-plain circuit tree listed [] pair.keeps.fitting pair.keeps.scoped pair.apart s inner)
      ∙ holder-owner circuit tree listed pair.keeps.fitting pair.keeps.scoped pair.apart v pair.back.known at.place s at.is holds

  pub made-held : (s : ℕ) → Makes design.circuit design.tree listed (cut_wires design listed) (unit_number u) s → Holds (instance_at design.tree (value_at listed.units u)) s
  made-held s (inl (lt, owner, inner)) = owned-held s lt owner inner
  made-held s (inr given) = channels.held s (inl given)

  pub has-held : (s : ℕ) → Makes design.circuit design.tree listed (cut_wires design listed) (unit_number u) s ⊎ Takes (cut_wires design listed) (unit_number u) s → Holds (instance_at design.tree (value_at listed.units u)) s
  has-held s (inl makes) = made-held s makes
  has-held s (inr takes) = channels.held s (inr takes)

  held-too : (s : ℕ) → Holds (instance_at design.tree (value_at listed.units u)) s → Holds (instance_at design.tree (value_at listed.units v)) (shifted one.signals other.signals s)
  held-too = held-moved design listed u v one other pair

  known-too : (s : ℕ) → Holds (instance_at design.tree (value_at listed.units u)) s → shifted one.signals other.signals s < length design.circuit.signals
  known-too s holds =
      let high = (held-too s holds).1 in
      let inside = (pair.keeps.fitting.each (value_at listed.units v) (pair.apart.known v 0 pair.back.known)).inside in
      omega (arith, high, inside)

  -- ---- the copy has them too

  pub made-too : (s : ℕ) → Makes design.circuit design.tree listed (cut_wires design listed) (unit_number u) s → Makes design.circuit design.tree listed (cut_wires design listed) (unit_number v) (shifted one.signals other.signals s)
  made-too s (inl (lt, owner, inner)) =
      let holds = owned-held s lt owner inner in
      let inner-too = channels.inner s holds inner in
      inl (known-too s holds, held-owned (shifted one.signals other.signals s) (known-too s holds) (held-too s holds) inner-too, inner-too)
  made-too s (inr given) = inr (channels.given s given)

  pub has-too : (s : ℕ) → Makes design.circuit design.tree listed (cut_wires design listed) (unit_number u) s ⊎ Takes (cut_wires design listed) (unit_number u) s
      → Makes design.circuit design.tree listed (cut_wires design listed) (unit_number v) (shifted one.signals other.signals s) ⊎ Takes (cut_wires design listed) (unit_number v) (shifted one.signals other.signals s)
  has-too s (inl makes) = inl (made-too s makes)
  has-too s (inr takes) = inr (channels.taken s takes)

  -- ---- drivers

  -- a unit doesn't make its own inputs
  pub no-input : (s : ℕ) → Makes design.circuit design.tree listed (cut_wires design listed) (unit_number u) s → ¬ IsInputOf design.tree (value_at listed.units u) s
  no-input s makes input = by makes
    where
      port : wire s (outside_unit design.tree listed u) (suc u) ≡ port_wire (outside_unit design.tree listed u) (suc u) input.port
      port = made input.port.is_input input.input input.port.signal input.is
        where
          made : (b : Bool) → b ≡ true → (t : ℕ) → t ≡ s → wire s (outside_unit design.tree listed u) (suc u) ≡ (if b then wire t (outside_unit design.tree listed u) (suc u) else wire t (suc u) (outside_unit design.tree listed u))
          made true e t same = ap (λ x. wire x (outside_unit design.tree listed u) (suc u)) (sym same)
          made false e t same = absurd (cc)

      among : Contains (cut_wires design listed) (wire s (outside_unit design.tree listed u) (suc u))
      among = subst (λ (w : Wire). Contains (cut_wires design listed) w) (sym port) (unit-wire design.circuit design.tree listed [] u input.port pair.there.known input.listed)

      by : Makes design.circuit design.tree listed (cut_wires design listed) (unit_number u) s → ⊥
      by (inl own) = no-channel design.circuit design.tree listed [] pair.keeps.fitting pair.keeps.scoped pair.apart s (wire s (outside_unit design.tree listed u) (suc u)) own.2 among refl
      by (inr given) =
          let w = given-out design.circuit design.tree listed [] (suc u) s given in
          let same = channel-one design.circuit design.tree listed [] pair.keeps.fitting pair.keeps.scoped pair.apart w.wire (wire s (outside_unit design.tree listed u) (suc u)) w.among among w.is in
          outside-hub design.circuit design.tree listed pair.keeps.fitting pair.apart u pair.there.known u pair.there.known (sym (ap (λ (x : Wire). x.producer) same) ∙ true-eqb w.wire.producer (suc u) (sym w.passes))

  pub driver-too : (s : ℕ) → Makes design.circuit design.tree listed (cut_wires design listed) (unit_number u) s
      → driver_at design.circuit (shifted one.signals other.signals s) ≡ renamed_driver (numbers_by (shifted one.signals other.signals) (shifted one.registers other.registers) (shifted one.memories other.memories)) (driver_at design.circuit s)
  driver-too s makes = pair.copy.driver s (made-held s makes) (no-input s makes)

  pub register-too : (s r : ℕ) (any : Register) → Makes design.circuit design.tree listed (cut_wires design listed) (unit_number u) s → driver_at design.circuit s ≡ Held r
      → (shifted one.registers other.registers r < length design.circuit.registers)
      × (unclocked_register (slice_index_or design.circuit.registers (shifted one.registers other.registers r) any) ≡ unclocked_register (renamed_register (signals_by (shifted one.signals other.signals)) (slice_index_or design.circuit.registers r any)))
  register-too s r any makes held =
      let moves = renamed_driver (numbers_by (shifted one.signals other.signals) (shifted one.registers other.registers) (shifted one.memories other.memories)) in
      let driven : driver_at design.circuit (shifted one.signals other.signals s) ≡ Held (shifted one.registers other.registers r) = driver-too s makes ∙ ap moves held in
      let may = subst (MayDrive design.circuit (shifted one.signals other.signals s)) driven (pair.meant.formed.drivers (shifted one.signals other.signals s) (known-too s (made-held s makes))) in
      (may.0, pair.copy.register s r any (made-held s makes) (no-input s makes) held)
