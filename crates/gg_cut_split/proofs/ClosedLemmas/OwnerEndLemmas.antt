-- The owner of a channel's signal is at one of the channel's ends.
use Rattle.std.proofs.Common.{◌≡◌, ℕ, suc, ◌+◌, ◌<◌, List, length, get_or, Bool, true, false, refl, sym, ◌∙◌, ap, subst, inl, inr, ◌⊎◌, eq-eqb, arith}
use Rattle.std.specs.Prelude.{◌==◌, if◌then◌else◌, All, Contains}
use Rattle.std.proofs.lemmas.List.{get_or_default}
use Rattle.std.proofs.lemmas.List.Elements.{Contains-get_or}
use Rattle.std.proofs.lemmas.List.Folds.{list_any_at}
use Rattle.gg_flat.specs.Line.{value_at}
use Rattle.gg_flat.specs.Circuit.{FlatCircuit, readers_at}
use Rattle.gg_flat_tree.specs.Tree.{InstanceTree, IsTree, memory_at}
use Rattle.gg_flat_tree.specs.Scoped.{IsScoped, IsFieldOf, memory_fields}
use Rattle.gg_partfile.specs.declared.request.BridgeEntry.{BridgeEntry}
use Rattle.gg_cut_plan.specs.declared.wires.Wire.{Wire}
use Rattle.gg_cut_plan.specs.declared.listed.Listed.{Listed}
use Rattle.gg_cut_plan.specs.Listed.{first_place, unit_or_hub, owner_of, has_signal, has_field, memory_or}
use Rattle.gg_cut_plan.specs.Machines.{first_memory}
use Rattle.gg_cut_plan.specs.Channels.{wire, wires_of}
use Rattle.gg_cut_split.specs.inside.Apart.{AreApart, IsOwnerAtEnd}
use Rattle.gg_cut_split.proofs.ClosedLemmas.PlaceLemmas.{place-is, owner-unit}
use Rattle.gg_cut_split.proofs.ClosedLemmas.KindLemmas.{IsInto, IsWordWire, Kind, OfInput, OfPort, OfField, OfOutput, outside_unit, outside_memory, kind-of}
use Rattle.gg_cut_split.proofs.ClosedLemmas.NameLemmas.{field-one}
use Rattle.gg_cut_split.proofs.ClosedLemmas.OnceLemmas.{top-input, top-port}
use Rattle.gg_cut_split.proofs.ClosedLemmas.MakerLemmas.{any-contains, port-of, port-owner, top-owner, field-listed}

module _ (circuit : FlatCircuit) (tree : InstanceTree) (listed : Listed) (fits : IsTree circuit tree) (scoped : IsScoped circuit tree) (apart : AreApart tree listed) where
  abbrev owner : ℕ → ℕ
  owner s = owner_of circuit tree listed s

  -- a field of a listed memory belongs to that memory's machine
  field-owner : (i s : ℕ) → i < length listed.memories → IsFieldOf circuit tree (value_at listed.memories i) s → owner_of circuit tree listed s ≡ first_memory listed + i
  field-owner i s lt field =
      ap (memory_or (length listed.units) (unit_or_hub (first_place (has_signal tree s) listed.units)))
      (place-is (has_field circuit tree s) listed.memories i lt (λ d. here (get_or listed.memories i d) (get_or_default listed.memories i d 0 lt)) (λ j d less. earlier j d less (has_field circuit tree s (get_or listed.memories j d)) refl))
    where
      here : (j : ℕ) → j ≡ value_at listed.memories i → has_field circuit tree s j ≡ true
      here j same =
          let fields = memory_fields circuit (memory_at tree j).memory in
          let among : Contains fields s = subst (λ n. IsFieldOf circuit tree n s) (sym same) field in
          list_any_at (λ t. t == s) fields among.0 s among.1 (eq-eqb (get_or fields among.0 s) s among.2)

      earlier : (j d : ℕ) → j < i → (b : Bool) → has_field circuit tree s (get_or listed.memories j d) ≡ b → b ≡ false
      earlier j d less true e =
          let inside : j < length listed.memories = omega (arith, less, lt) in
          let other : IsFieldOf circuit tree (get_or listed.memories j d) s = any-contains (memory_fields circuit (memory_at tree (get_or listed.memories j d)).memory) s e in
          let same = field-one circuit tree fits scoped (get_or listed.memories j d) (value_at listed.memories i) s (apart.memories j d inside) (apart.memories i 0 lt) other field in
          let order = apart.ascending j i 0 less lt in
          absurd (omega (arith, order, same, get_or_default listed.memories j d 0 inside))
      earlier j d less false e = refl

-- ---- channels

module _ (circuit : FlatCircuit) (tree : InstanceTree) (listed : Listed) (entries : List BridgeEntry) (fits : IsTree circuit tree) (scoped : IsScoped circuit tree) (apart : AreApart tree listed) where
  end-of : (w : Wire) → Contains (wires_of circuit tree listed entries) w → Kind circuit tree listed entries w → IsOwnerAtEnd circuit tree listed w
  end-of w h (OfInput f) =
      subst (IsOwnerAtEnd circuit tree listed) (sym f.is)
      (inr (sym (top-owner circuit tree listed fits scoped apart (value_at circuit.ins f.place) (top-port circuit tree listed fits scoped apart (value_at circuit.ins f.place) (λ port. port.is_input)
      (top-input circuit tree listed fits scoped apart (value_at circuit.ins f.place) (Contains-get_or circuit.ins f.place 0 f.known))))))
  end-of w h (OfOutput f) =
      subst (IsOwnerAtEnd circuit tree listed) (sym f.is) (inl refl)
  end-of w h (OfPort p) = by p.port.is_input p.is
    where
      owns : owner_of circuit tree listed w.signal ≡ suc p.unit
      owns = port-owner circuit tree listed fits scoped apart (value_at listed.units p.unit) w.signal (port-of circuit tree listed fits scoped apart w p) ∙ owner-unit circuit tree listed fits apart p.unit p.known

      by : (b : Bool) → (if b then wire p.port.signal (outside_unit tree listed p.unit) (suc p.unit) else wire p.port.signal (suc p.unit) (outside_unit tree listed p.unit)) ≡ w → IsOwnerAtEnd circuit tree listed w
      by true e = inr (sym (ap (λ (v : Wire). v.consumer) e) ∙ sym owns)
      by false e = inl (sym (ap (λ (v : Wire). v.producer) e) ∙ sym owns)
  end-of w h (OfField f) = by f.is
    where
      owns : owner_of circuit tree listed w.signal ≡ first_memory listed + f.place
      owns = field-owner circuit tree listed fits scoped apart f.place w.signal f.known (field-listed circuit tree listed fits scoped apart w f)

      by : IsInto (memory_fields circuit (memory_at tree (value_at listed.memories f.place)).memory) (outside_memory tree listed f.place) (first_memory listed + f.place) w
          ⊎ IsWordWire (readers_at circuit (memory_at tree (value_at listed.memories f.place)).memory) (outside_memory tree listed f.place) (first_memory listed + f.place) w → IsOwnerAtEnd circuit tree listed w
      by (inl into) = inr (into.consumer ∙ sym owns)
      by (inr word) = inl (ap (λ (v : Wire). v.producer) word.is ∙ sym owns)

  pub owners-at-ends : All (IsOwnerAtEnd circuit tree listed) (wires_of circuit tree listed entries)
  owners-at-ends k d lt =
      let w = get_or (wires_of circuit tree listed entries) k d in
      let h = Contains-get_or (wires_of circuit tree listed entries) k d lt in
      end-of w h (kind-of circuit tree listed entries w h)
