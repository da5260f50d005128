-- Where the driver of a signal stands in a cut, and which machines take a pipe.
use Rattle.std.proofs.Common.{◌≡◌, ◌≢◌, ℕ, suc, ◌+◌, ◌<◌, List, [], Bool, true, false, None, length, refl, sym, ◌∙◌, ap, subst, inl, inr, ◌⊎◌, eq-eqb, arith}
use Rattle.std.specs.Prelude.{◌&&◌, ◌==◌, if◌then◌else◌, flat_map, Contains}
use Rattle.std.specs.List.{list_any}
use Rattle.std.proofs.lemmas.Bool.{cases_Bool, and_parts, and_from, eqb-true}
use Rattle.std.proofs.lemmas.List.Elements.{Contains-append_left}
use Rattle.gg_flat.specs.declared.piece.Driver.{Driver}
use Rattle.gg_flat.specs.declared.piece.Driver.TheVariants.{Input}
use Rattle.gg_flat.specs.declared.memory.Reader.{Reader}
use Rattle.gg_flat.specs.Line.{value_at}
use Rattle.gg_flat.specs.Reads.{NamesSignal}
use Rattle.gg_flat.specs.Circuit.{FlatCircuit, driver_at, readers_at, reader_at}
use Rattle.gg_flat.specs.WellFormed.{IsWellFormed}
use Rattle.gg_flat_tree.specs.Tree.{InstanceTree, IsTree, instance_at, memory_at, parent_place}
use Rattle.gg_flat_tree.specs.Scoped.{IsScoped, IsFieldOf, IsVisible, IsWritten, memory_fields, reader_fields, writer_fields, writers_at}
use Rattle.gg_partfile.specs.declared.request.BridgeEntry.{BridgeEntry}
use Rattle.gg_cut_plan.specs.declared.wires.Wire.{Wire}
use Rattle.gg_cut_plan.specs.declared.listed.Listed.{Listed}
use Rattle.gg_cut_plan.specs.Listed.{owner_of_instance, memory_owner}
use Rattle.gg_cut_plan.specs.Machines.{first_memory, first_source}
use Rattle.gg_cut_plan.specs.Channels.{wire, wires_of}
use Rattle.gg_cut_plan.specs.Direct.{Hub, hub_of, routes}
use Rattle.gg_cut_plan.specs.Plan.{IsInner, wire_at, channels_from, signals_of}
use Rattle.gg_cut_plan.proofs.OriginLemmas.{any-finds, finds-any, clash}
use Rattle.gg_cut_plan.proofs.WireLemmas.{givens-same, owner-below, unit_or_hub-below}
use Rattle.gg_cut_split.specs.inside.Apart.{AreApart}
use Rattle.gg_cut_split.proofs.ClosedLemmas.ListLemmas.{flattened-in, flat_map-is}
use Rattle.gg_cut_split.proofs.ClosedLemmas.KindLemmas.{IsInto, IsWordWire, Kind, OfInput, OfPort, OfField, OfOutput, outside_unit, outside_memory, kind-of, addr-wire, en-wire, data-wire}
use Rattle.gg_cut_split.proofs.ClosedLemmas.MakerLemmas.{chosen-in, wire-among}
use Rattle.gg_cut_split.proofs.ClosedLemmas.OnceLemmas.{channel-one}
use Rattle.gg_cut_split.proofs.ClosedLemmas.PlaceLemmas.{same-bool}
use Rattle.gg_cut_split.proofs.ClosedLemmas.WrittenLemmas.{IsWord, IsWrittenIn, made}
use Rattle.gg_cut_routes.proofs.RouteLemmas.{IsBase, IsRoute, same-wire, out-routes, route-signal, route-consumer}
use Rattle.gg_cut_reference.specs.Links.{maker_of}
use Rattle.gg_cut_reference.proofs.SeenLemmas.{HasPipe, maker-inner, maker-wire}
use Rattle.gg_cut_reference.proofs.SideLemmas.{IsDatum, Comes, datum-field, comes-taken, taken-comes, IsListedField, field-channel}

-- machine m takes a channel of signal t
abbrev pub takes : Hub → ℕ → ℕ → Bool
takes hub m t = list_any (λ (r : Wire). (r.consumer == m) && (r.signal == t)) (routes hub)

-- an input names nothing
pub not-input : (driver : Driver) (t : ℕ) → NamesSignal driver t → (place : ℕ) → driver ≢ Input place
not-input driver t named place e = subst (λ d. NamesSignal d t) e named

-- ---- in a cut

module _ (circuit : FlatCircuit) (tree : InstanceTree) (listed : Listed) (formed : IsWellFormed circuit) (fits : IsTree circuit tree) (scoped : IsScoped circuit tree) (apart : AreApart tree listed) (piped : ℕ → Bool) (entries : List BridgeEntry) (direct : Bool) (base : IsBase (hub_of circuit tree listed piped entries direct)) where
  abbrev hub : Hub
  hub = hub_of circuit tree listed piped entries direct

  abbrev home : ℕ → ℕ
  home k = owner_of_instance tree listed.units k

  -- the channel of a pipe, before the routing
  record IsOn (t : ℕ) : Type 0 where
    pub wire : Wire
    pub among : Contains (wires_of circuit tree listed entries) wire
    pub is : wire.signal ≡ t
    pub taking : (m : ℕ) → takes (hub_of circuit tree listed piped entries direct) m t ≡ (wire.consumer == m)

  on : (t : ℕ) → HasPipe (hub_of circuit tree listed piped entries direct) base t → IsOn t
  on t h = record { wire = w.wire; among = w.among; is = of; taking = each }
    where
      w : IsRoute hub base h.wire
      w = out-routes hub base h.wire h.among

      of : w.wire.signal ≡ t
      of = sym (route-signal hub base w.wire) ∙ ap (λ (r : Wire). r.signal) w.is ∙ h.is

      to : h.wire.consumer ≡ w.wire.consumer
      to = ap (λ (r : Wire). r.consumer) (sym w.is) ∙ route-consumer hub base w.wire

      each : (m : ℕ) → takes hub m t ≡ (w.wire.consumer == m)
      each m = same-bool (takes hub m t) (w.wire.consumer == m) only back
        where
          only : takes hub m t ≡ true → (w.wire.consumer == m) ≡ true
          only e =
              let r = any-finds (λ (r : Wire). (r.consumer == m) && (r.signal == t)) (routes hub) e in
              let parts = and_parts (r.item.consumer == m) (r.item.signal == t) r.passes in
              let v = out-routes hub base r.item r.among in
              let one = same-wire hub base v.wire w.wire v.among w.among (sym (route-signal hub base v.wire) ∙ ap (λ (r : Wire). r.signal) v.is ∙ eqb-true r.item.signal t parts.1 ∙ sym of) in
              eq-eqb w.wire.consumer m (ap (λ (r : Wire). r.consumer) (sym one) ∙ sym (route-consumer hub base v.wire) ∙ ap (λ (r : Wire). r.consumer) v.is ∙ eqb-true r.item.consumer m parts.0)

          back : (w.wire.consumer == m) ≡ true → takes hub m t ≡ true
          back e =
              finds-any (λ (r : Wire). (r.consumer == m) && (r.signal == t)) (routes hub) h.wire h.among
              (and_from (h.wire.consumer == m) (h.wire.signal == t) (eq-eqb h.wire.consumer m (to ∙ eqb-true w.wire.consumer m e)) (eq-eqb h.wire.signal t h.is))

  -- ---- where the driver of a signal stands

  -- a driver that isn't an input's is written in an instance of the machine in which it stands, or it is that of a memory's data
  pub data Stands (s : ℕ) : Type 0 where
    Written : (k : ℕ) → IsWritten tree k s → maker_of (hub_of circuit tree listed piped entries direct) s ≡ owner_of_instance tree listed.units k → Stands s
    Datum : (j : ℕ) → j < length tree.memories → IsDatum circuit tree j s → Stands s

  producer-low : (w : Wire) → Kind circuit tree listed entries w → ((place : ℕ) → place < length circuit.ins → w.signal ≢ value_at circuit.ins place) → w.producer < first_source listed
  producer-low w (OfInput f) plain = absurd (plain f.place f.known (ap (λ (v : Wire). v.signal) f.is))
  producer-low w (OfOutput f) plain = let low = owner-below circuit tree listed (value_at circuit.outs f.place) in let from = ap (λ (v : Wire). v.producer) f.is in omega (arith, low, from)
  producer-low w (OfPort p) plain = by p.port.is_input p.is
    where
      low : outside_unit tree listed p.unit < suc (length listed.units)
      low = unit_or_hub-below tree listed.units (parent_place (instance_at tree (value_at listed.units p.unit)).parent)

      by : (b : Bool) → (if b then wire p.port.signal (outside_unit tree listed p.unit) (suc p.unit) else wire p.port.signal (suc p.unit) (outside_unit tree listed p.unit)) ≡ w → w.producer < first_source listed
      by true e = let from = ap (λ (v : Wire). v.producer) e in omega (arith, low, from)
      by false e = let from = ap (λ (v : Wire). v.producer) e in let known = p.known in omega (arith, known, from)
  producer-low w (OfField f) plain = by f.is
    where
      low : outside_memory tree listed f.place < suc (length listed.units)
      low = unit_or_hub-below tree listed.units (memory_at tree (value_at listed.memories f.place)).instance

      by : IsInto (memory_fields circuit (memory_at tree (value_at listed.memories f.place)).memory) (outside_memory tree listed f.place) (first_memory listed + f.place) w
          ⊎ IsWordWire (readers_at circuit (memory_at tree (value_at listed.memories f.place)).memory) (outside_memory tree listed f.place) (first_memory listed + f.place) w → w.producer < first_source listed
      by (inl into) = let from = into.producer in omega (arith, low, from)
      by (inr word) = let from = ap (λ (v : Wire). v.producer) word.is in let known = f.known in omega (arith, known, from)

  -- a driver that isn't an input's stands in the hub, a unit or a listed memory
  pub maker-low : (s : ℕ) → ((place : ℕ) → driver_at circuit s ≢ Input place) → maker_of (hub_of circuit tree listed piped entries direct) s < first_source listed
  maker-low s plain = by (cases_Bool (list_any (λ (w : Wire). w.signal == s) hub.base))
    where
      by : (list_any (λ (w : Wire). w.signal == s) hub.base ≡ true) ⊎ (list_any (λ (w : Wire). w.signal == s) hub.base ≡ false) → maker_of hub s < first_source listed
      by (inl e) =
          let found = any-finds (λ (w : Wire). w.signal == s) hub.base e in
          let w = found.item in
          let of : w.signal ≡ s = eqb-true w.signal s found.passes in
          subst (λ m. m < first_source listed) (sym (maker-wire hub base w.producer s (record { wire = w; among = found.among; producer = refl; is = of })))
          (producer-low w (kind-of circuit tree listed entries w found.among) (λ place known same. plain place (ap (driver_at circuit) (sym of ∙ same) ∙ (formed.ins place known).1)))
      by (inr none) = subst (λ m. m < first_source listed) (sym (maker-inner hub base s none)) (owner-below circuit tree listed s)

  pub stands : (s : ℕ) → s < length circuit.signals → ((place : ℕ) → driver_at circuit s ≢ Input place) → Stands s
  stands s lt plain = by (cases_Bool (list_any (λ (w : Wire). w.signal == s) hub.base))
    where
      from : (m : ℕ) → maker_of hub s ≡ m → IsWrittenIn tree listed m s ⊎ IsWord circuit tree listed m s → Stands s
      from m is (inl at) = Written at.place at.written (is ∙ sym at.owner)
      from m is (inr w) = Datum (value_at listed.memories w.place) (apart.memories w.place 0 w.known) (record { reader = w.reader; there = w.there; is = sym w.is })

      by : (list_any (λ (w : Wire). w.signal == s) hub.base ≡ true) ⊎ (list_any (λ (w : Wire). w.signal == s) hub.base ≡ false) → Stands s
      by (inl e) =
          let found = any-finds (λ (w : Wire). w.signal == s) hub.base e in
          let w = found.item in
          let of : w.signal ≡ s = eqb-true w.signal s found.passes in
          let low = producer-low w (kind-of circuit tree listed entries w found.among) (λ place known same.
          plain place (ap (driver_at circuit) (sym of ∙ same) ∙ (formed.ins place known).1)) in
          from w.producer (maker-wire hub base w.producer s (record { wire = w; among = found.among; producer = refl; is = of }))
          (made circuit tree listed entries fits scoped apart w.producer s low
          (inr (subst (λ (l : List ℕ). Contains l s) (sym (givens-same circuit tree listed entries (channels_from (wires_of circuit tree listed entries) w.producer)))
          (subst (λ t. Contains (signals_of (wires_of circuit tree listed entries) (channels_from (wires_of circuit tree listed entries) w.producer)) t) of
          (chosen-in (wires_of circuit tree listed entries) (λ (v : Wire). v.producer == w.producer) w found.among (eq-eqb w.producer w.producer refl))))))
      by (inr none) =
          from (hub.owner s) (maker-inner hub base s none)
          (made circuit tree listed entries fits scoped apart (hub.owner s) s (owner-below circuit tree listed s) (inl (lt, refl, inner)))
        where
          inner : IsInner (wires_of circuit tree listed entries) s
          inner c below e = clash (list_any (λ (w : Wire). w.signal == s) hub.base) (finds-any (λ (w : Wire). w.signal == s) hub.base (wire_at hub.base c) (wire-among hub.base c below) (eq-eqb (wire_at hub.base c).signal s e)) none

  -- ---- who takes a pipe

  -- the machine of an instance takes a pipe that is visible there exactly if it comes into the instance
  pub comes : (k t : ℕ) → HasPipe (hub_of circuit tree listed piped entries direct) base t → Comes circuit tree k t → takes (hub_of circuit tree listed piped entries direct) (owner_of_instance tree listed.units k) t ≡ true
  comes k t h c = let o = on t h in o.taking (home k) ∙ eq-eqb o.wire.consumer (home k) (sym (comes-taken circuit tree listed entries formed fits scoped apart k t o.wire o.among o.is c))

  pub taken : (k t : ℕ) → HasPipe (hub_of circuit tree listed piped entries direct) base t → IsVisible tree k t → takes (hub_of circuit tree listed piped entries direct) (owner_of_instance tree listed.units k) t ≡ true → Comes circuit tree k t
  taken k t h seen e = let o = on t h in taken-comes circuit tree listed entries formed fits scoped apart k t o.wire seen o.among o.is (sym (eqb-true o.wire.consumer (home k) (sym (o.taking (home k)) ∙ e)))

  -- the machine of a memory takes a pipe in a field of the memory, unless it is its data
  pub field-taken : (j t : ℕ) → j < length tree.memories → IsFieldOf circuit tree j t → HasPipe (hub_of circuit tree listed piped entries direct) base t → (takes (hub_of circuit tree listed piped entries direct) (memory_owner tree listed j) t ≡ true) ⊎ IsDatum circuit tree j t
  field-taken j t lt field h = by f.side
    where
      o : IsOn t
      o = on t h

      f : IsListedField circuit tree listed entries formed fits scoped apart j t o.wire
      f = field-channel circuit tree listed entries formed fits scoped apart j t o.wire lt field o.among o.is

      by : (o.wire.consumer ≡ first_memory listed + f.place) ⊎ (IsDatum circuit tree j t × (o.wire.consumer < first_memory listed)) → (takes hub (memory_owner tree listed j) t ≡ true) ⊎ IsDatum circuit tree j t
      by (inl e) = inl (o.taking (memory_owner tree listed j) ∙ eq-eqb o.wire.consumer (memory_owner tree listed j) (e ∙ sym f.owner))
      by (inr d) = inr d.0

  pub data-free : (j t : ℕ) → j < length tree.memories → HasPipe (hub_of circuit tree listed piped entries direct) base t → IsDatum circuit tree j t → takes (hub_of circuit tree listed piped entries direct) (memory_owner tree listed j) t ≡ true → ⊥
  data-free j t lt h d e = by f.is
    where
      o : IsOn t
      o = on t h

      f : IsListedField circuit tree listed entries formed fits scoped apart j t o.wire
      f = field-channel circuit tree listed entries formed fits scoped apart j t o.wire lt (datum-field circuit tree listed entries formed fits scoped apart j t d) o.among o.is

      by : j ≡ value_at listed.memories f.place → ⊥
      by same =
          let there = subst (λ n. IsDatum circuit tree n t) same d in
          let one = channel-one circuit tree listed entries fits scoped apart o.wire (wire (reader_at (readers_at circuit (memory_at tree (value_at listed.memories f.place)).memory) there.reader).word (first_memory listed + f.place) (outside_memory tree listed f.place)) o.among (data-wire circuit tree listed entries f.place there.reader f.known there.there) (o.is ∙ sym there.is) in
          let to = ap (λ (v : Wire). v.consumer) one in
          let low = unit_or_hub-below tree listed.units (memory_at tree (value_at listed.memories f.place)).instance in
          let takes = eqb-true o.wire.consumer (memory_owner tree listed j) (sym (o.taking (memory_owner tree listed j)) ∙ e) in
          let owner = f.owner in
          omega (arith, to, low, takes, owner)

  -- the machine in which the driver of a memory's data stands takes a pipe in the address or the enable of the reader
  abbrev pub Given : ℕ → ℕ → ℕ → Type 0
  Given j s t = (d : IsDatum circuit tree j s) × (((reader_at (readers_at circuit (memory_at tree j).memory) d.reader).addr ≡ t) ⊎ ((reader_at (readers_at circuit (memory_at tree j).memory) d.reader).en ≡ t))

  given-field : (j s t : ℕ) → Given j s t → IsFieldOf circuit tree j t
  given-field j s t (d, which) =
      Contains-append_left (flat_map (λ reader. reader_fields reader) readers) (flat_map (λ writer. writer_fields writer) (writers_at circuit (memory_at tree j).memory)) t
      (subst (λ (l : List ℕ). Contains l t) (sym (flat_map-is (λ (reader : Reader). reader_fields reader) readers)) (flattened-in (λ (reader : Reader). reader_fields reader) readers d.reader (record { addr = 0; en = 0; word = 0; clock = None }) t d.there (by which)))
    where
      readers : List Reader
      readers = readers_at circuit (memory_at tree j).memory

      by : ((reader_at readers d.reader).addr ≡ t) ⊎ ((reader_at readers d.reader).en ≡ t) → Contains (reader_fields (reader_at readers d.reader)) t
      by (inl e) = (0, omega arith, e)
      by (inr e) = (1, omega arith, e)

  listed-given : (i s t : ℕ) → i < length listed.memories → Given (value_at listed.memories i) s t → HasPipe (hub_of circuit tree listed piped entries direct) base t → takes (hub_of circuit tree listed piped entries direct) (maker_of (hub_of circuit tree listed piped entries direct) s) t ≡ true
  listed-given i s t lt (d, which) h = o.taking (maker_of hub s) ∙ eq-eqb o.wire.consumer (maker_of hub s) (to which ∙ sym maker)
    where
      o : IsOn t
      o = on t h

      readers : List Reader
      readers = readers_at circuit (memory_at tree (value_at listed.memories i)).memory

      maker : maker_of hub s ≡ first_memory listed + i
      maker = maker-wire hub base (first_memory listed + i) s (record { wire = wire (reader_at readers d.reader).word (first_memory listed + i) (outside_memory tree listed i); among = data-wire circuit tree listed entries i d.reader lt d.there; producer = refl; is = d.is })

      to : ((reader_at readers d.reader).addr ≡ t) ⊎ ((reader_at readers d.reader).en ≡ t) → o.wire.consumer ≡ first_memory listed + i
      to (inl e) = ap (λ (v : Wire). v.consumer) (channel-one circuit tree listed entries fits scoped apart o.wire (wire (reader_at readers d.reader).addr (outside_memory tree listed i) (first_memory listed + i)) o.among (addr-wire circuit tree listed entries i d.reader lt d.there) (o.is ∙ sym e))
      to (inr e) = ap (λ (v : Wire). v.consumer) (channel-one circuit tree listed entries fits scoped apart o.wire (wire (reader_at readers d.reader).en (outside_memory tree listed i) (first_memory listed + i)) o.among (en-wire circuit tree listed entries i d.reader lt d.there) (o.is ∙ sym e))

  pub given-taken : (j s t : ℕ) → j < length tree.memories → Given j s t → HasPipe (hub_of circuit tree listed piped entries direct) base t → takes (hub_of circuit tree listed piped entries direct) (maker_of (hub_of circuit tree listed piped entries direct) s) t ≡ true
  given-taken j s t lt g h =
      let o = on t h in
      let f = field-channel circuit tree listed entries formed fits scoped apart j t o.wire lt (given-field j s t g) o.among o.is in
      listed-given f.place s t f.known (subst (λ n. Given n s t) f.is g) h
