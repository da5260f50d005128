-- Machines by their numbers, and the ends of channels.
use Rattle.std.proofs.Common.{◌≡◌, ◌≢◌, ℕ, suc, ◌+◌, ◌-◌, ◌<◌, ◌≤◌, List, length, get_or, Bool, true, false, refl, sym, ◌∙◌, ap, subst, Some, None, inl, inr, ◌⊎◌, arith}
use Rattle.std.specs.Prelude.{Option, ◌==◌, if◌then◌else◌, All}
use Rattle.std.proofs.lemmas.List.{get_or_default}
use Rattle.std.proofs.lemmas.List.Elements.{Contains-get_or}
use Rattle.gg_flat.specs.Line.{value_at}
use Rattle.gg_flat.specs.Circuit.{FlatCircuit}
use Rattle.gg_flat_tree.specs.Tree.{InstanceTree, IsTree, instance_at, memory_at, parent_place}
use Rattle.gg_partfile.specs.declared.request.BridgeEntry.{BridgeEntry}
use Rattle.gg_cut_plan.specs.declared.wires.Wire.{Wire}
use Rattle.gg_cut_plan.specs.declared.listed.Listed.{Listed}
use Rattle.gg_cut_plan.specs.Listed.{owner_of_instance, first_place, has_signal, unit_or_hub, memory_or, memory_owner}
use Rattle.gg_flat.specs.Circuit.{readers_at}
use Rattle.gg_flat_tree.specs.Scoped.{memory_fields}
use Rattle.gg_cut_plan.specs.Machines.{first_memory, first_source}
use Rattle.gg_cut_plan.specs.Ports.{Bridges, giver_of, keeper_of, machine_end, ports_of}
use Rattle.gg_cut_plan.specs.inside.Ports.{AreBridges}
use Rattle.gg_cut_plan.proofs.PortLemmas.{are-bridges, giver-few, giver-low, keeper-few, keeper-source, machine-high}
use Rattle.gg_cut_plan.specs.Channels.{wire, wires_of}
use Rattle.gg_cut_plan.proofs.WireLemmas.{unit-below, unit_or_hub-below, owner-below}
use Rattle.gg_cut_plan.proofs.PathLemmas.{first_place-Some}
use Rattle.gg_cut_split.specs.inside.Apart.{AreApart}
use Rattle.gg_cut_split.specs.inside.Apart.{AreEnds}
use Rattle.gg_cut_split.proofs.ClosedLemmas.PlaceLemmas.{owner-outside}
use Rattle.gg_cut_split.proofs.ClosedLemmas.KindLemmas.{IsInto, IsWordWire, Kind, OfInput, OfPort, OfField, OfOutput, outside_unit, outside_memory, kind-of}

-- ---- machines

module _ (circuit : FlatCircuit) (tree : InstanceTree) (listed : Listed) where
  pub machine-below : (place : ℕ) → memory_owner tree listed place < first_source listed
  machine-below place = by (first_place (λ j. j == place) listed.memories) refl
    where
      by : (found : Option ℕ) → first_place (λ j. j == place) listed.memories ≡ found → memory_or (length listed.units) (owner_of_instance tree listed.units (memory_at tree place).instance) found < first_source listed
      by None e = let low = unit_or_hub-below tree listed.units (memory_at tree place).instance in omega (arith, low)
      by (Some i) e = let at = first_place-Some (λ j. j == place) listed.memories i e in omega (arith, at.within)

  pub owner-few : (owners : List ℕ) → ((s : ℕ) → value_at owners s ≡ unit_or_hub (first_place (has_signal tree s) listed.units)) → All (λ m. m < first_source listed) owners
  owner-few owners owns k d lt =
      let low = unit-below (has_signal tree k) listed.units in
      let read = get_or_default owners k d 0 lt in
      let is = owns k in
      omega (arith, low, read, is)

-- ---- the ends of channels

module _ (circuit : FlatCircuit) (tree : InstanceTree) (listed : Listed) (entries : List BridgeEntry) (fits : IsTree circuit tree) (apart : AreApart tree listed) where
  abbrev b : Bridges
  b = ports_of circuit tree listed entries

  are : AreBridges (ports_of circuit tree listed entries)
  are = are-bridges circuit (length circuit.outs - length tree.stops) listed entries

  outside-other : (i : ℕ) → i < length listed.units → outside_unit tree listed i ≢ suc i
  outside-other i lt e =
      let below = fits.below (value_at listed.units i) (apart.lower i 0 lt) (apart.known i 0 lt) in
      owner-outside circuit tree listed fits apart i below.above lt below.parent (sym (ap (λ p. owner_of_instance tree listed.units (parent_place p)) below.parent) ∙ e)

  -- each end is below n, if all machines of ports are
  module _ (n : ℕ) (high : first_source listed ≤ n) (givers : (p : ℕ) → p < length circuit.ins → giver_of (ports_of circuit tree listed entries) p < n) (keepers : (p : ℕ) → p < length circuit.outs → keeper_of (ports_of circuit tree listed entries) p < n) where
    ends-of : (w : Wire) → Kind circuit tree listed entries w → AreEnds n w
    ends-of w (OfInput f) =
        let low = giver-low b f.place in
        subst (AreEnds n) (sym f.is)
        (record { producer = givers f.place f.known; consumer = omega (arith, high); apart = λ e. absurd (omega (arith, e, low)) })
    ends-of w (OfOutput f) =
        let own = owner-below circuit tree listed (value_at circuit.outs f.place) in
        let low = keeper-source b f.place in
        subst (AreEnds n) (sym f.is)
        (record { producer = omega (arith, own, high); consumer = keepers f.place f.known; apart = λ e. absurd (omega (arith, own, e, low)) })
    ends-of w (OfPort p) = subst (AreEnds n) p.is (by p.port.is_input)
      where
        low : outside_unit tree listed p.unit < suc (length listed.units)
        low = unit_or_hub-below tree listed.units (parent_place (instance_at tree (value_at listed.units p.unit)).parent)

        by : (b : Bool) → AreEnds n (if b then wire p.port.signal (outside_unit tree listed p.unit) (suc p.unit) else wire p.port.signal (suc p.unit) (outside_unit tree listed p.unit))
        by true = record { producer = omega (arith, low, high); consumer = (let known = p.known in omega (arith, known, high)); apart = outside-other p.unit p.known }
        by false = record { producer = (let known = p.known in omega (arith, known, high)); consumer = omega (arith, low, high); apart = λ e. outside-other p.unit p.known (sym e) }
    ends-of w (OfField f) = by f.is
      where
        low : outside_memory tree listed f.place < suc (length listed.units)
        low = unit_or_hub-below tree listed.units (memory_at tree (value_at listed.memories f.place)).instance

        by : IsInto (memory_fields circuit (memory_at tree (value_at listed.memories f.place)).memory) (outside_memory tree listed f.place) (first_memory listed + f.place) w
            ⊎ IsWordWire (readers_at circuit (memory_at tree (value_at listed.memories f.place)).memory) (outside_memory tree listed f.place) (first_memory listed + f.place) w → AreEnds n w
        by (inl into) =
            let known = f.known in
            record {
              producer = omega (arith, low, into.producer, high);
              consumer = omega (arith, known, into.consumer, high);
              apart = λ e. absurd (omega (arith, low, into.producer, into.consumer, e));
            }
        by (inr word) =
            let known = f.known in
            subst (AreEnds n) (sym word.is)
            (record { producer = omega (arith, known, high); consumer = omega (arith, low, high); apart = λ e. absurd (omega (arith, low, e)) })

  pub ends : All (AreEnds (machine_end (ports_of circuit tree listed entries))) (wires_of circuit tree listed entries)
  ends k d lt =
      let w = get_or (wires_of circuit tree listed entries) k d in
      ends-of (machine_end b) (machine-high b) (giver-few b are) (keeper-few b are) w (kind-of circuit tree listed entries w (Contains-get_or (wires_of circuit tree listed entries) k d lt))
