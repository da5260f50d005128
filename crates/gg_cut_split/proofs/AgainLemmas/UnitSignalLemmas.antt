-- The signals of a unit's channels: its ports, the fields of the listed memories in it, and those of the stops in it.
use Rattle.std.proofs.Common.{◌≡◌, ℕ, suc, ◌+◌, ◌<◌, List, [], length, Bool, true, false, not, refl, sym, ◌∙◌, ap, subst, inl, inr, ◌⊎◌, eq-eqb, arith}
use Rattle.std.specs.Prelude.{◌==◌, if◌then◌else◌, Contains}
use Rattle.std.proofs.lemmas.List.{get_or_default}
use Rattle.std.proofs.lemmas.List.Elements.{All-contains, Contains-append_right, Contains-get_or}
use Rattle.gg_flat_tree.specs.declared.tree.InstancePort.{InstancePort}
use Rattle.gg_flat.specs.Line.{value_at}
use Rattle.gg_flat.specs.Circuit.{FlatCircuit, readers_at}
use Rattle.gg_flat_tree.specs.Tree.{InstanceTree, IsTree, IsInnermost, Holds, instance_at, memory_at, stop_at}
use Rattle.gg_flat_tree.specs.Scoped.{IsScoped, IsPort, IsFieldOf, memory_fields, output_signals, stop_signals}
use Rattle.gg_cut_plan.specs.declared.wires.Wire.{Wire}
use Rattle.gg_cut_plan.specs.declared.listed.Listed.{Listed}
use Rattle.gg_cut_plan.specs.Listed.{owner_of_instance, owner_of}
use Rattle.gg_cut_plan.specs.Machines.{unit_number, first_memory}
use Rattle.gg_cut_plan.specs.Ports.{giver_of, keeper_of, ports_of}
use Rattle.gg_cut_plan.proofs.PortLemmas.{giver-low, keeper-source}
use Rattle.gg_cut_plan.specs.Channels.{wire, wires_of}
use Rattle.gg_cut_plan.specs.Plan.{channels_from, givens_of, Takes}
use Rattle.gg_cut_plan.proofs.WireLemmas.{givens-same}
use Rattle.gg_cut_split.specs.inside.Apart.{AreApart}
use Rattle.gg_cut_split.proofs.ClosedLemmas.TreeLemmas.{above, lies-holder}
use Rattle.gg_cut_split.proofs.ClosedLemmas.PlaceLemmas.{owner-unit, owner-top}
use Rattle.gg_cut_split.proofs.ClosedLemmas.KindLemmas.{IsPortWire, IsFieldWire, IsInto, IsWordWire, IsOutputWire, Kind, OfInput, OfPort, OfField, OfOutput, outside_unit, outside_memory, kind-of, unit-wire, memory-wire, output-wire}
use Rattle.gg_cut_split.proofs.ClosedLemmas.OnceLemmas.{IsStopSignal, IsChosen, out-cases, stop-in, top-input, top-port}
use Rattle.gg_cut_split.proofs.ClosedLemmas.MakerLemmas.{chosen-in, takes, field-listed, port-of, owner-signal, top-owner, out-plain}
use Rattle.gg_cut_split.proofs.AgainLemmas.LiesLemmas.{lies-owner, owner-lies}
use Rattle.gg_cut_split.proofs.AgainLemmas.Pair.{IsInUnit}
use Rattle.gg_cut_split.proofs.AgainLemmas.TakenLemmas.{outside-hub}

-- signal s is a port of the unit at place u, a field of a listed memory in the unit, or that of a stop in it
pub data IsAtUnit (circuit : FlatCircuit) (tree : InstanceTree) (listed : Listed) (u s : ℕ) : Type 0 where
  AtPort : (port : InstancePort) → Contains (instance_at tree (value_at listed.units u)).ports port → port.signal ≡ s → IsAtUnit circuit tree listed u s
  AtField : (p : ℕ) → Contains listed.memories p → IsInUnit tree listed u p → IsFieldOf circuit tree p s → IsAtUnit circuit tree listed u s
  AtStop : (q : ℕ) → q < length tree.stops → owner_of_instance tree listed.units (stop_at tree q).instance ≡ unit_number u → (stop_at tree q).signal ≡ s → IsAtUnit circuit tree listed u s

-- machine m gives a channel by signal s
abbrev pub Gives : List Wire → ℕ → ℕ → Type 0
Gives wires m s = Contains (givens_of wires (channels_from wires m)) s

module _ (circuit : FlatCircuit) (tree : InstanceTree) (listed : Listed) (fits : IsTree circuit tree) (scoped : IsScoped circuit tree) (apart : AreApart tree listed) (u : ℕ) (lt : u < length listed.units) where
  abbrev wires : List Wire
  wires = wires_of circuit tree listed []

  abbrev unit : ℕ
  unit = value_at listed.units u

  -- ---- they are the unit's own

  -- an instance that belongs to the unit's machine has its own signals among the unit's
  pub inner-held : (k s : ℕ) → IsInnermost tree k s → owner_of_instance tree listed.units k ≡ unit_number u → Holds (instance_at tree (value_at listed.units u)) s
  inner-held k s inner owner = (above circuit tree fits k unit inner.known (owner-lies circuit tree listed fits apart k u owner)).holds s inner.holds

  -- the innermost instance of a signal of the unit belongs to the unit's machine
  pub holder-owner : (k s : ℕ) → IsInnermost tree k s → Holds (instance_at tree (value_at listed.units u)) s → owner_of_instance tree listed.units k ≡ unit_number u
  holder-owner k s inner holds = lies-owner circuit tree listed fits apart k u inner.known lt (lies-holder circuit tree fits k s unit inner (apart.known u 0 lt) holds)

  pub at-held : (s : ℕ) → IsAtUnit circuit tree listed u s → Holds (instance_at tree (value_at listed.units u)) s
  at-held s (AtPort port among is) =
      subst (Holds (instance_at tree unit)) is
      (All-contains (λ (p : InstancePort). Holds (instance_at tree unit) p.signal) (instance_at tree unit).ports port (fits.each unit (apart.known u 0 lt)).ports among)
  at-held s (AtField p among inside field) =
      inner-held (memory_at tree p).instance s (scoped.fields p s (All-contains (λ place. place < length tree.memories) listed.memories p apart.memories among) field).own inside
  at-held s (AtStop q known inside is) =
      subst (Holds (instance_at tree unit)) is (inner-held (stop_at tree q).instance (stop_at tree q).signal (scoped.stops q known).own inside)

  -- ---- each has a channel at the unit

  gives : (s p c : ℕ) → Contains wires (wire s p c) → Gives wires p s
  gives s p c h = subst (λ (l : List ℕ). Contains l s) (sym (givens-same circuit tree listed [] (channels_from wires p))) (chosen-in wires (λ w. w.producer == p) (wire s p c) h (eq-eqb p p refl))

  port-end : (port : InstancePort) → Contains (instance_at tree unit).ports port → Takes wires (unit_number u) port.signal ⊎ Gives wires (unit_number u) port.signal
  port-end port among = by port.is_input (unit-wire circuit tree listed [] u port lt among)
    where
      by : (b : Bool) → Contains wires (if b then wire port.signal (outside_unit tree listed u) (suc u) else wire port.signal (suc u) (outside_unit tree listed u)) → Takes wires (unit_number u) port.signal ⊎ Gives wires (unit_number u) port.signal
      by true w = inl (takes circuit tree listed [] fits scoped apart port.signal (outside_unit tree listed u) (suc u) w)
      by false w = inr (gives port.signal (suc u) (outside_unit tree listed u) w)

  field-end : (p s : ℕ) → Contains listed.memories p → IsInUnit tree listed u p → IsFieldOf circuit tree p s → Takes wires (unit_number u) s ⊎ Gives wires (unit_number u) s
  field-end p s (i, li, is) inside field = by (memory-wire circuit tree listed [] i s li (subst (λ j. IsFieldOf circuit tree j s) (sym same) field))
    where
      same : value_at listed.memories i ≡ p
      same = get_or_default listed.memories i 0 p li ∙ is

      outside : outside_memory tree listed i ≡ unit_number u
      outside = ap (λ j. owner_of_instance tree listed.units (memory_at tree j).instance) same ∙ inside

      by : Contains wires (wire s (outside_memory tree listed i) (first_memory listed + i)) ⊎ Contains wires (wire s (first_memory listed + i) (outside_memory tree listed i)) → Takes wires (unit_number u) s ⊎ Gives wires (unit_number u) s
      by (inl w) = inr (subst (λ m. Gives wires m s) outside (gives s (outside_memory tree listed i) (first_memory listed + i) w))
      by (inr w) = inl (subst (λ m. Takes wires m s) outside (takes circuit tree listed [] fits scoped apart s (first_memory listed + i) (outside_memory tree listed i) w))

  stop-end : (q s : ℕ) → q < length tree.stops → owner_of_instance tree listed.units (stop_at tree q).instance ≡ unit_number u → (stop_at tree q).signal ≡ s → Gives wires (unit_number u) s
  stop-end q s known inside is =
      subst (λ m. Gives wires m s) (owner-signal circuit tree listed fits scoped apart (stop_at tree q).instance s (subst (IsInnermost tree (stop_at tree q).instance) is (scoped.stops q known).own) (out-plain circuit tree listed fits scoped apart s out) ∙ inside)
      (subst (λ t. Gives wires (owner_of circuit tree listed t) t) (get_or_default circuit.outs out.0 0 s out.1 ∙ out.2)
      (gives (value_at circuit.outs out.0) (owner_of circuit tree listed (value_at circuit.outs out.0)) (keeper_of (ports_of circuit tree listed []) out.0) (output-wire circuit tree listed [] out.0 out.1)))
    where
      out : Contains circuit.outs s
      out =
          subst (λ (l : List ℕ). Contains l s) scoped.outs
          (Contains-append_right (output_signals (instance_at tree 0).ports) (stop_signals tree) s (stop-in tree s (record { place = q; known = known; is = is })))

  pub at-ends : (s : ℕ) → IsAtUnit circuit tree listed u s → Takes (wires_of circuit tree listed []) (unit_number u) s ⊎ Gives (wires_of circuit tree listed []) (unit_number u) s
  at-ends s (AtPort port among is) = subst (λ t. Takes wires (unit_number u) t ⊎ Gives wires (unit_number u) t) is (port-end port among)
  at-ends s (AtField p among inside field) = field-end p s among inside field
  at-ends s (AtStop q known inside is) = inr (stop-end q s known inside is)

  -- ---- there are no others

  abbrev signal_of : Wire → ℕ
  signal_of w = w.signal

  in-field : (w : Wire) (f : IsFieldWire circuit tree listed w) → outside_memory tree listed f.place ≡ unit_number u → IsAtUnit circuit tree listed u w.signal
  in-field w f owner = AtField (value_at listed.memories f.place) (Contains-get_or listed.memories f.place 0 f.known) owner (field-listed circuit tree listed fits scoped apart w f)

  in-port : (w : Wire) (p : IsPortWire tree listed w) → unit_number p.unit ≡ unit_number u → IsAtUnit circuit tree listed u w.signal
  in-port w p same =
      let port = port-of circuit tree listed fits scoped apart w p in
      AtPort port.port (subst (λ k. Contains (instance_at tree (value_at listed.units k)).ports port.port) (let place : p.unit ≡ u = omega (arith, same) in place) port.listed) port.is

  tray-out : (w : Wire) → IsOutputWire circuit tree listed [] w → Contains circuit.outs w.signal
  tray-out w f = (f.place, f.known, get_or_default circuit.outs f.place w.signal 0 f.known ∙ sym (ap signal_of f.is))

  stop-inner : (s : ℕ) (stop : IsStopSignal tree s) → IsInnermost tree (stop_at tree stop.place).instance s
  stop-inner s stop = subst (IsInnermost tree (stop_at tree stop.place).instance) stop.is (scoped.stops stop.place stop.known).own

  -- a channel that carries a signal of the unit is one of these
  pub held-at : (w : Wire) → Contains (wires_of circuit tree listed []) w → Holds (instance_at tree (value_at listed.units u)) w.signal → IsAtUnit circuit tree listed u w.signal
  held-at w h holds = by (kind-of circuit tree listed [] w h)
    where
      no-top : IsPort tree 0 w.signal → IsAtUnit circuit tree listed u w.signal
      no-top port =
          let owner = holder-owner 0 w.signal (scoped.ports 0 w.signal port).own holds in
          let top = owner-top circuit tree listed fits apart in
          absurd (omega (arith, owner, top))

      by : Kind circuit tree listed [] w → IsAtUnit circuit tree listed u w.signal
      by (OfInput f) =
          no-top (top-port circuit tree listed fits scoped apart w.signal (λ port. port.is_input)
          (top-input circuit tree listed fits scoped apart w.signal (f.place, f.known, get_or_default circuit.ins f.place w.signal 0 f.known ∙ sym (ap signal_of f.is))))
      by (OfPort p) =
          let owner = holder-owner (value_at listed.units p.unit) w.signal (scoped.ports (value_at listed.units p.unit) w.signal (port-of circuit tree listed fits scoped apart w p)).own holds in
          in-port w p (sym (owner-unit circuit tree listed fits apart p.unit p.known) ∙ owner)
      by (OfField f) =
          let place = value_at listed.memories f.place in
          in-field w f (holder-owner (memory_at tree place).instance w.signal (scoped.fields place w.signal (apart.memories f.place 0 f.known) (field-listed circuit tree listed fits scoped apart w f)).own holds)
      by (OfOutput f) =
          elim (out-cases circuit tree listed fits scoped apart w.signal (tray-out w f)) [
            | inl out ↦ no-top (top-port circuit tree listed fits scoped apart w.signal (λ port. not port.is_input) out)
            | inr stop ↦ AtStop stop.place stop.known (holder-owner (stop_at tree stop.place).instance w.signal (stop-inner w.signal stop) holds) stop.is
          ]

  -- so is a channel at an end of which the unit is
  pub end-at : (w : Wire) → Contains (wires_of circuit tree listed []) w → (w.producer ≡ unit_number u) ⊎ (w.consumer ≡ unit_number u) → IsAtUnit circuit tree listed u w.signal
  end-at w h end = by (kind-of circuit tree listed [] w h)
    where
      port-ends : (p : IsPortWire tree listed w) (b : Bool) → (if b then wire p.port.signal (outside_unit tree listed p.unit) (suc p.unit) else wire p.port.signal (suc p.unit) (outside_unit tree listed p.unit)) ≡ w → (w.producer ≡ unit_number u) ⊎ (w.consumer ≡ unit_number u) → unit_number p.unit ≡ unit_number u
      port-ends p true e (inl t) = absurd (outside-hub circuit tree listed fits apart u lt p.unit p.known (ap (λ (v : Wire). v.producer) e ∙ t))
      port-ends p true e (inr t) = ap (λ (v : Wire). v.consumer) e ∙ t
      port-ends p false e (inl t) = ap (λ (v : Wire). v.producer) e ∙ t
      port-ends p false e (inr t) = absurd (outside-hub circuit tree listed fits apart u lt p.unit p.known (ap (λ (v : Wire). v.consumer) e ∙ t))

      field-ends : (f : IsFieldWire circuit tree listed w) → IsInto (memory_fields circuit (memory_at tree (value_at listed.memories f.place)).memory) (outside_memory tree listed f.place) (first_memory listed + f.place) w
          ⊎ IsWordWire (readers_at circuit (memory_at tree (value_at listed.memories f.place)).memory) (outside_memory tree listed f.place) (first_memory listed + f.place) w → (w.producer ≡ unit_number u) ⊎ (w.consumer ≡ unit_number u) → outside_memory tree listed f.place ≡ unit_number u
      field-ends f (inl into) (inl t) = sym into.producer ∙ t
      field-ends f (inl into) (inr t) = let number = into.consumer in absurd (omega (arith, number, t, lt))
      field-ends f (inr word) (inl t) = let number = ap (λ (v : Wire). v.producer) word.is in absurd (omega (arith, number, t, lt))
      field-ends f (inr word) (inr t) = sym (ap (λ (v : Wire). v.consumer) word.is) ∙ t

      tray-end : (f : IsOutputWire circuit tree listed [] w) → (w.producer ≡ unit_number u) ⊎ (w.consumer ≡ unit_number u) → owner_of circuit tree listed w.signal ≡ unit_number u
      tray-end f (inl t) = ap (owner_of circuit tree listed) (ap signal_of f.is) ∙ sym (ap (λ (v : Wire). v.producer) f.is) ∙ t
      tray-end f (inr t) =
          let number = ap (λ (v : Wire). v.consumer) f.is in
          let high = keeper-source (ports_of circuit tree listed []) f.place in
          absurd (omega (arith, number, t, lt, high))

      by : Kind circuit tree listed [] w → IsAtUnit circuit tree listed u w.signal
      by (OfInput f) = absurd (source (ap (λ (v : Wire). v.producer) f.is) (ap (λ (v : Wire). v.consumer) f.is) end)
        where
          source : w.producer ≡ giver_of (ports_of circuit tree listed []) f.place → w.consumer ≡ 0 → (w.producer ≡ unit_number u) ⊎ (w.consumer ≡ unit_number u) → ⊥
          source from to (inl t) = let high = giver-low (ports_of circuit tree listed []) f.place in omega (arith, from, t, lt, high)
          source from to (inr t) = omega (arith, to, t)
      by (OfPort p) = in-port w p (port-ends p p.port.is_input p.is end)
      by (OfField f) = in-field w f (field-ends f f.is end)
      by (OfOutput f) = at (out-cases circuit tree listed fits scoped apart w.signal (tray-out w f))
        where
          owner : owner_of circuit tree listed w.signal ≡ unit_number u
          owner = tray-end f end

          at : IsChosen (instance_at tree 0).ports (λ port. not port.is_input) w.signal ⊎ IsStopSignal tree w.signal → IsAtUnit circuit tree listed u w.signal
          at (inl out) =
              let top = top-owner circuit tree listed fits scoped apart w.signal (top-port circuit tree listed fits scoped apart w.signal (λ port. not port.is_input) out) in
              absurd (omega (arith, owner, top))
          at (inr stop) =
              AtStop stop.place stop.known
              (sym (owner-signal circuit tree listed fits scoped apart (stop_at tree stop.place).instance w.signal (stop-inner w.signal stop) (out-plain circuit tree listed fits scoped apart w.signal (tray-out w f))) ∙ owner)
              stop.is
