-- The kinds of channels: of a top input, of a unit's port, of a listed memory's field, of a top output.
use Rattle.std.proofs.Common.{◌≡◌, ℕ, zero, suc, ◌+◌, ◌<◌, List, [], ◌∷◌, ◌++◌, length, get_or, true, refl, sym, ◌∙◌, ap, subst, inl, inr, ◌⊎◌, arith}
use Rattle.std.specs.Prelude.{flat_map, Contains, None}
use Rattle.std.proofs.lemmas.List.{get_or_default}
use Rattle.std.proofs.lemmas.List.Elements.{Contains-append_left, Contains-append_right, Contains-append_cases, Contains-get_or}
use Rattle.gg_flat_tree.specs.declared.tree.InstancePort.{InstancePort}
use Rattle.gg_flat.specs.declared.memory.Reader.{Reader}
use Rattle.gg_flat.specs.declared.memory.Writer.{Writer}
use Rattle.gg_flat.specs.Line.{value_at}
use Rattle.gg_flat.specs.Circuit.{FlatCircuit, readers_at, reader_at}
use Rattle.gg_flat_tree.specs.Tree.{InstanceTree, instance_at, memory_at, parent_place}
use Rattle.gg_flat_tree.specs.Scoped.{reader_fields, writer_fields, writers_at, memory_fields}
use Rattle.gg_flat.proofs.ListLemmas.{Contains-map}
use Rattle.gg_partfile.specs.declared.request.BridgeEntry.{BridgeEntry}
use Rattle.gg_cut_plan.specs.Ports.{Bridges, giver_of, keeper_of, ports_of}
use Rattle.gg_cut_plan.specs.declared.wires.Wire.{Wire}
use Rattle.gg_cut_plan.specs.declared.listed.Listed.{Listed}
use Rattle.gg_cut_plan.specs.Listed.{owner_of_instance, owner_of}
use Rattle.gg_cut_plan.specs.Machines.{first_memory}
use Rattle.gg_cut_plan.specs.Channels.{wire, numbered, flattened, port_wire, port_wires, reader_wires, writer_wires, field_wires, input_wires, output_wires, wires_of}
use Rattle.gg_cut_split.proofs.ClosedLemmas.ListLemmas.{Somewhere, map-cases, flattened-in, flattened-cases, flat_map-is, numbered-in, numbered-cases}

-- ---- fields

-- the channel of a reader's data, out of the memory; and the channel of another field, into it
pub record IsWordWire (readers : List Reader) (outside number : ℕ) (w : Wire) : Type 0 where
  pub reader : ℕ
  pub known : reader < length readers
  pub is : w ≡ wire (reader_at readers reader).word number outside

pub record IsInto (fields : List ℕ) (outside number : ℕ) (w : Wire) : Type 0 where
  pub field : Contains fields w.signal
  pub producer : w.producer ≡ outside
  pub consumer : w.consumer ≡ number

reader-case : (outside number : ℕ) (reader : Reader) (w : Wire) → Contains (reader_wires outside number reader) w → IsInto (reader_fields reader) outside number w ⊎ (w ≡ wire reader.word number outside)
reader-case outside number reader w (zero, lt, e) =
    inl (record { field = (0, omega arith, ap (λ (v : Wire). v.signal) e); producer = sym (ap (λ (v : Wire). v.producer) e); consumer = sym (ap (λ (v : Wire). v.consumer) e) })
reader-case outside number reader w (suc zero, lt, e) =
    inl (record { field = (1, omega arith, ap (λ (v : Wire). v.signal) e); producer = sym (ap (λ (v : Wire). v.producer) e); consumer = sym (ap (λ (v : Wire). v.consumer) e) })
reader-case outside number reader w (suc (suc zero), lt, e) = inr (sym e)
reader-case outside number reader w (suc (suc (suc k)), lt, e) = absurd (omega (arith, lt))

writer-case : (outside number : ℕ) (writer : Writer) (w : Wire) → Contains (writer_wires outside number writer) w → IsInto (writer_fields writer) outside number w
writer-case outside number writer w (zero, lt, e) =
    record { field = (0, omega arith, ap (λ (v : Wire). v.signal) e); producer = sym (ap (λ (v : Wire). v.producer) e); consumer = sym (ap (λ (v : Wire). v.consumer) e) }
writer-case outside number writer w (suc zero, lt, e) =
    record { field = (1, omega arith, ap (λ (v : Wire). v.signal) e); producer = sym (ap (λ (v : Wire). v.producer) e); consumer = sym (ap (λ (v : Wire). v.consumer) e) }
writer-case outside number writer w (suc (suc zero), lt, e) =
    record { field = (2, omega arith, ap (λ (v : Wire). v.signal) e); producer = sym (ap (λ (v : Wire). v.producer) e); consumer = sym (ap (λ (v : Wire). v.consumer) e) }
writer-case outside number writer w (suc (suc (suc zero)), lt, e) =
    record { field = (3, omega arith, ap (λ (v : Wire). v.signal) e); producer = sym (ap (λ (v : Wire). v.producer) e); consumer = sym (ap (λ (v : Wire). v.consumer) e) }
writer-case outside number writer w (suc (suc (suc (suc k))), lt, e) = absurd (omega (arith, lt))

-- the fields of these readers and writers
abbrev fields-of : List Reader → List Writer → List ℕ
fields-of readers writers = flat_map (λ reader. reader_fields reader) readers ++ flat_map (λ writer. writer_fields writer) writers

abbrev wires-for : ℕ → ℕ → List Reader → List Writer → List Wire
wires-for outside number readers writers = flattened (reader_wires outside number) readers ++ flattened (writer_wires outside number) writers

some-reader : Reader
some-reader = record { addr = 0; en = 0; word = 0; clock = None }

some-writer : Writer
some-writer = record { addr = 0; en = 0; word = 0; mask = 0; clock = None }

module _ (readers : List Reader) (writers : List Writer) (outside number : ℕ) where
  reader-field : (s i : ℕ) → i < length readers → Contains (reader_fields (reader_at readers i)) s → Contains (fields-of readers writers) s
  reader-field s i lt h =
      Contains-append_left (flat_map (λ reader. reader_fields reader) readers) (flat_map (λ writer. writer_fields writer) writers) s
      (subst (λ (l : List ℕ). Contains l s) (sym (flat_map-is (λ (reader : Reader). reader_fields reader) readers)) (flattened-in (λ (reader : Reader). reader_fields reader) readers i some-reader s lt
      (subst (λ (r : Reader). Contains (reader_fields r) s) (get_or_default readers i (record { addr = 0; en = 0; word = 0; clock = None }) some-reader lt) h)))

  writer-field : (s i : ℕ) → i < length writers → Contains (writer_fields (get_or writers i some-writer)) s → Contains (fields-of readers writers) s
  writer-field s i lt h =
      Contains-append_right (flat_map (λ reader. reader_fields reader) readers) (flat_map (λ writer. writer_fields writer) writers) s
      (subst (λ (l : List ℕ). Contains l s) (sym (flat_map-is (λ (writer : Writer). writer_fields writer) writers)) (flattened-in (λ (writer : Writer). writer_fields writer) writers i some-writer s lt h))

  pub fields-cases : (w : Wire) → Contains (wires-for outside number readers writers) w → IsInto (fields-of readers writers) outside number w ⊎ IsWordWire readers outside number w
  fields-cases w h = by (Contains-append_cases (flattened (reader_wires outside number) readers) (flattened (writer_wires outside number) writers) w h)
    where
      by : Contains (flattened (reader_wires outside number) readers) w ⊎ Contains (flattened (writer_wires outside number) writers) w → IsInto (fields-of readers writers) outside number w ⊎ IsWordWire readers outside number w
      by (inl r) = at (reader-case outside number (reader_at readers s.place) w (s.holds (record { addr = 0; en = 0; word = 0; clock = None })))
        where
          s : Somewhere (λ reader. Contains (reader_wires outside number reader) w) readers
          s = flattened-cases (reader_wires outside number) readers w r

          at : IsInto (reader_fields (reader_at readers s.place)) outside number w ⊎ (w ≡ wire (reader_at readers s.place).word number outside) → IsInto (fields-of readers writers) outside number w ⊎ IsWordWire readers outside number w
          at (inl into) = inl (record { field = reader-field w.signal s.place s.within into.field; producer = into.producer; consumer = into.consumer })
          at (inr e) = inr (record { reader = s.place; known = s.within; is = e })
      by (inr r) =
          let s = flattened-cases (writer_wires outside number) writers w r in
          let into = writer-case outside number (get_or writers s.place some-writer) w (s.holds some-writer) in
          inl (record { field = writer-field w.signal s.place s.within into.field; producer = into.producer; consumer = into.consumer })

  pub word-wire : (i : ℕ) → i < length readers → Contains (wires-for outside number readers writers) (wire (reader_at readers i).word number outside)
  word-wire i lt =
      Contains-append_left (flattened (reader_wires outside number) readers) (flattened (writer_wires outside number) writers) (wire (reader_at readers i).word number outside)
      (flattened-in (reader_wires outside number) readers i (record { addr = 0; en = 0; word = 0; clock = None }) (wire (reader_at readers i).word number outside) lt (2, omega arith, refl))

  pub address-wire : (i : ℕ) → i < length readers → Contains (wires-for outside number readers writers) (wire (reader_at readers i).addr outside number)
  address-wire i lt =
      Contains-append_left (flattened (reader_wires outside number) readers) (flattened (writer_wires outside number) writers) (wire (reader_at readers i).addr outside number)
      (flattened-in (reader_wires outside number) readers i (record { addr = 0; en = 0; word = 0; clock = None }) (wire (reader_at readers i).addr outside number) lt (0, omega arith, refl))

  pub enable-wire : (i : ℕ) → i < length readers → Contains (wires-for outside number readers writers) (wire (reader_at readers i).en outside number)
  enable-wire i lt =
      Contains-append_left (flattened (reader_wires outside number) readers) (flattened (writer_wires outside number) writers) (wire (reader_at readers i).en outside number)
      (flattened-in (reader_wires outside number) readers i (record { addr = 0; en = 0; word = 0; clock = None }) (wire (reader_at readers i).en outside number) lt (1, omega arith, refl))

  -- each field has its channel
  pub field-wire : (s : ℕ) → Contains (fields-of readers writers) s → Contains (wires-for outside number readers writers) (wire s outside number) ⊎ Contains (wires-for outside number readers writers) (wire s number outside)
  field-wire s h = by (Contains-append_cases (flat_map (λ reader. reader_fields reader) readers) (flat_map (λ writer. writer_fields writer) writers) s h)
    where
      one : (k i : ℕ) → i < length readers → (k < 3) → get_or (reader_fields (reader_at readers i)) k s ≡ s → Contains (wires-for outside number readers writers) (wire s outside number) ⊎ Contains (wires-for outside number readers writers) (wire s number outside)
      one zero i lt less e = inl (subst (λ t. Contains (wires-for outside number readers writers) (wire t outside number)) e (address-wire i lt))
      one (suc zero) i lt less e = inl (subst (λ t. Contains (wires-for outside number readers writers) (wire t outside number)) e (enable-wire i lt))
      one (suc (suc zero)) i lt less e = inr (subst (λ t. Contains (wires-for outside number readers writers) (wire t number outside)) e (word-wire i lt))
      one (suc (suc (suc k))) i lt less e = absurd (omega (arith, less))

      in-writer : (i : ℕ) (w : Wire) → i < length writers → Contains (writer_wires outside number (get_or writers i some-writer)) w → Contains (wires-for outside number readers writers) w
      in-writer i w lt h =
          Contains-append_right (flattened (reader_wires outside number) readers) (flattened (writer_wires outside number) writers) w (flattened-in (writer_wires outside number) writers i some-writer w lt h)

      two : (k i : ℕ) → i < length writers → (k < 4) → get_or (writer_fields (get_or writers i some-writer)) k s ≡ s → Contains (wires-for outside number readers writers) (wire s outside number)
      two zero i lt less e = in-writer i (wire s outside number) lt (0, omega arith, ap (λ t. wire t outside number) e)
      two (suc zero) i lt less e = in-writer i (wire s outside number) lt (1, omega arith, ap (λ t. wire t outside number) e)
      two (suc (suc zero)) i lt less e = in-writer i (wire s outside number) lt (2, omega arith, ap (λ t. wire t outside number) e)
      two (suc (suc (suc zero))) i lt less e = in-writer i (wire s outside number) lt (3, omega arith, ap (λ t. wire t outside number) e)
      two (suc (suc (suc (suc k)))) i lt less e = absurd (omega (arith, less))

      by : Contains (flat_map (λ reader. reader_fields reader) readers) s ⊎ Contains (flat_map (λ writer. writer_fields writer) writers) s → Contains (wires-for outside number readers writers) (wire s outside number) ⊎ Contains (wires-for outside number readers writers) (wire s number outside)
      by (inl r) =
          let at = flattened-cases (λ (reader : Reader). reader_fields reader) readers s (subst (λ (l : List ℕ). Contains l s) (flat_map-is (λ (reader : Reader). reader_fields reader) readers) r) in
          let c = at.holds (record { addr = 0; en = 0; word = 0; clock = None }) in
          one c.0 at.place at.within c.1 c.2
      by (inr r) =
          let at = flattened-cases (λ (writer : Writer). writer_fields writer) writers s (subst (λ (l : List ℕ). Contains l s) (flat_map-is (λ (writer : Writer). writer_fields writer) writers) r) in
          let c = at.holds some-writer in
          inl (two c.0 at.place at.within c.1 c.2)

-- a reader's data is a field
pub word-field : (circuit : FlatCircuit) (m r : ℕ) → r < length (readers_at circuit m) → Contains (memory_fields circuit m) (reader_at (readers_at circuit m) r).word
word-field circuit m r lt = reader-field (readers_at circuit m) (writers_at circuit m) 0 0 (reader_at (readers_at circuit m) r).word r lt (2, omega arith, refl)

-- ---- kinds

-- the channel of a top input
pub record IsInputWire (circuit : FlatCircuit) (tree : InstanceTree) (listed : Listed) (entries : List BridgeEntry) (w : Wire) : Type 0 where
  pub place : ℕ
  pub known : place < length circuit.ins
  pub is : w ≡ wire (value_at circuit.ins place) (giver_of (ports_of circuit tree listed entries) place) 0

-- the channel of an out-signal of the top
pub record IsOutputWire (circuit : FlatCircuit) (tree : InstanceTree) (listed : Listed) (entries : List BridgeEntry) (w : Wire) : Type 0 where
  pub place : ℕ
  pub known : place < length circuit.outs
  pub is : w ≡ wire (value_at circuit.outs place) (owner_of circuit tree listed (value_at circuit.outs place)) (keeper_of (ports_of circuit tree listed entries) place)

-- the machine at the other end of a unit's channels, and of a listed memory's
abbrev pub outside_unit : InstanceTree → Listed → ℕ → ℕ
outside_unit tree listed i = owner_of_instance tree listed.units (parent_place (instance_at tree (value_at listed.units i)).parent)

abbrev pub outside_memory : InstanceTree → Listed → ℕ → ℕ
outside_memory tree listed i = owner_of_instance tree listed.units (memory_at tree (value_at listed.memories i)).instance

-- the channel of a port of a unit
pub record IsPortWire (tree : InstanceTree) (listed : Listed) (w : Wire) : Type 0 where
  pub unit : ℕ
  pub known : unit < length listed.units
  pub port : InstancePort
  pub among : Contains (instance_at tree (value_at listed.units unit)).ports port
  pub is : port_wire (outside_unit tree listed unit) (suc unit) port ≡ w

-- the channel of a field of a listed memory
pub record IsFieldWire (circuit : FlatCircuit) (tree : InstanceTree) (listed : Listed) (w : Wire) : Type 0 where
  pub place : ℕ
  pub known : place < length listed.memories
  pub is : IsInto (memory_fields circuit (memory_at tree (value_at listed.memories place)).memory) (outside_memory tree listed place) (first_memory listed + place) w
      ⊎ IsWordWire (readers_at circuit (memory_at tree (value_at listed.memories place)).memory) (outside_memory tree listed place) (first_memory listed + place) w

-- the kind of a channel
pub data Kind (circuit : FlatCircuit) (tree : InstanceTree) (listed : Listed) (entries : List BridgeEntry) (w : Wire) : Type 0 where
  OfInput : IsInputWire circuit tree listed entries w → Kind circuit tree listed entries w
  OfPort : IsPortWire tree listed w → Kind circuit tree listed entries w
  OfField : IsFieldWire circuit tree listed w → Kind circuit tree listed entries w
  OfOutput : IsOutputWire circuit tree listed entries w → Kind circuit tree listed entries w

module _ (circuit : FlatCircuit) (tree : InstanceTree) (listed : Listed) (entries : List BridgeEntry) where
  abbrev wires : List Wire
  wires = wires_of circuit tree listed entries

  abbrev b : Bridges
  b = ports_of circuit tree listed entries

  abbrev inputs : List Wire
  inputs = numbered (input_wires (ports_of circuit tree listed entries)) 0 circuit.ins

  abbrev ports : List Wire
  ports = numbered (port_wires tree listed.units) 1 listed.units

  abbrev fields : List Wire
  fields = numbered (field_wires circuit tree listed.units) (first_memory listed) listed.memories

  abbrev outputs : List Wire
  outputs = numbered (output_wires circuit tree listed (ports_of circuit tree listed entries)) 0 circuit.outs

  one-plus : (i : ℕ) → 1 + i ≡ suc i
  one-plus i = omega arith

  zero-plus : (i : ℕ) → 0 + i ≡ i
  zero-plus i = omega arith

  only : (v w : Wire) → Contains (v ∷ []) w → v ≡ w
  only v w (zero, lt, e) = e
  only v w (suc k, lt, e) = absurd (omega (arith, lt))

  -- each channel is of one of these kinds
  pub kind-of : (w : Wire) → Contains wires w → Kind circuit tree listed entries w
  kind-of w h = first (Contains-append_cases inputs (ports ++ (fields ++ outputs)) w h)
    where
      input : Contains inputs w → Kind circuit tree listed entries w
      input r =
          let n = numbered-cases (input_wires b) 0 circuit.ins w r in
          OfInput
          (record {
            place = n.place;
            known = n.within;
            is = sym (only (wire (value_at circuit.ins n.place) (giver_of b (0 + n.place)) 0) w (n.among 0)) ∙ ap (λ k. wire (value_at circuit.ins n.place) (giver_of b k) 0) (zero-plus n.place);
          })

      port : Contains ports w → Kind circuit tree listed entries w
      port r =
          let n = numbered-cases (port_wires tree listed.units) 1 listed.units w r in
          let unit = value_at listed.units n.place in
          let s = map-cases (port_wire (outside_unit tree listed n.place) (suc n.place)) (instance_at tree unit).ports w
          (subst (λ k. Contains (port_wires tree listed.units k unit) w) (one-plus n.place) (n.among 0)) in
          let any : InstancePort = record { signal = 0; is_input = true } in
          OfPort
          (record {
            unit = n.place;
            known = n.within;
            port = get_or (instance_at tree unit).ports s.place any;
            among = Contains-get_or (instance_at tree unit).ports s.place any s.within;
            is = s.holds any;
          })

      field : Contains fields w → Kind circuit tree listed entries w
      field r =
          let n = numbered-cases (field_wires circuit tree listed.units) (first_memory listed) listed.memories w r in
          let m = (memory_at tree (value_at listed.memories n.place)).memory in
          OfField
          (record {
            place = n.place;
            known = n.within;
            is = fields-cases (readers_at circuit m) (writers_at circuit m) (outside_memory tree listed n.place) (first_memory listed + n.place) w (n.among 0);
          })

      output : Contains outputs w → Kind circuit tree listed entries w
      output r =
          let n = numbered-cases (output_wires circuit tree listed b) 0 circuit.outs w r in
          let from = owner_of circuit tree listed (value_at circuit.outs n.place) in
          OfOutput
          (record {
            place = n.place;
            known = n.within;
            is = sym (only (wire (value_at circuit.outs n.place) from (keeper_of b (0 + n.place))) w (n.among 0)) ∙ ap (λ k. wire (value_at circuit.outs n.place) from (keeper_of b k)) (zero-plus n.place);
          })

      third : Contains fields w ⊎ Contains outputs w → Kind circuit tree listed entries w
      third (inl r) = field r
      third (inr r) = output r

      second : Contains ports w ⊎ Contains (fields ++ outputs) w → Kind circuit tree listed entries w
      second (inl r) = port r
      second (inr r) = third (Contains-append_cases fields outputs w r)

      first : Contains inputs w ⊎ Contains (ports ++ (fields ++ outputs)) w → Kind circuit tree listed entries w
      first (inl r) = input r
      first (inr r) = second (Contains-append_cases ports (fields ++ outputs) w r)

  -- ---- the channels that there are

  pub input-wire : (i : ℕ) → i < length circuit.ins → Contains wires (wire (value_at circuit.ins i) (giver_of (ports_of circuit tree listed entries) i) 0)
  input-wire i lt =
      let w = wire (value_at circuit.ins i) (giver_of b i) 0 in
      Contains-append_left inputs (ports ++ (fields ++ outputs)) w
      (numbered-in (input_wires b) 0 circuit.ins i 0 w lt (0, omega arith, ap (λ k. wire (value_at circuit.ins i) (giver_of b k) 0) (zero-plus i)))

  pub unit-wire : (i : ℕ) (port : InstancePort) → i < length listed.units → Contains (instance_at tree (value_at listed.units i)).ports port → Contains wires (port_wire (outside_unit tree listed i) (suc i) port)
  unit-wire i port lt among =
      let w = port_wire (outside_unit tree listed i) (suc i) port in
      Contains-append_right inputs (ports ++ (fields ++ outputs)) w
      (Contains-append_left ports (fields ++ outputs) w
      (numbered-in (port_wires tree listed.units) 1 listed.units i 0 w lt
      (subst (λ k. Contains (port_wires tree listed.units k (value_at listed.units i)) w) (sym (one-plus i)) (Contains-map (port_wire (outside_unit tree listed i) (suc i)) (instance_at tree (value_at listed.units i)).ports port among))))

  pub in-fields : (i : ℕ) (w : Wire) → i < length listed.memories → Contains (field_wires circuit tree listed.units (first_memory listed + i) (value_at listed.memories i)) w → Contains wires w
  in-fields i w lt h =
      Contains-append_right inputs (ports ++ (fields ++ outputs)) w
      (Contains-append_right ports (fields ++ outputs) w
      (Contains-append_left fields outputs w (numbered-in (field_wires circuit tree listed.units) (first_memory listed) listed.memories i 0 w lt h)))

  pub memory-wire : (i s : ℕ) → i < length listed.memories → Contains (memory_fields circuit (memory_at tree (value_at listed.memories i)).memory) s → Contains wires (wire s (outside_memory tree listed i) (first_memory listed + i)) ⊎ Contains wires (wire s (first_memory listed + i) (outside_memory tree listed i))
  memory-wire i s lt h = by (field-wire (readers_at circuit m) (writers_at circuit m) (outside_memory tree listed i) (first_memory listed + i) s h)
    where
      m : ℕ
      m = (memory_at tree (value_at listed.memories i)).memory

      by : Contains (wires-for (outside_memory tree listed i) (first_memory listed + i) (readers_at circuit m) (writers_at circuit m)) (wire s (outside_memory tree listed i) (first_memory listed + i))
          ⊎ Contains (wires-for (outside_memory tree listed i) (first_memory listed + i) (readers_at circuit m) (writers_at circuit m)) (wire s (first_memory listed + i) (outside_memory tree listed i))
          → Contains wires (wire s (outside_memory tree listed i) (first_memory listed + i)) ⊎ Contains wires (wire s (first_memory listed + i) (outside_memory tree listed i))
      by (inl r) = inl (in-fields i (wire s (outside_memory tree listed i) (first_memory listed + i)) lt r)
      by (inr r) = inr (in-fields i (wire s (first_memory listed + i) (outside_memory tree listed i)) lt r)

  module _ (i r : ℕ) (lt : i < length listed.memories) (known : r < length (readers_at circuit (memory_at tree (value_at listed.memories i)).memory)) where
    abbrev readers : List Reader
    readers = readers_at circuit (memory_at tree (value_at listed.memories i)).memory

    abbrev writers : List Writer
    writers = writers_at circuit (memory_at tree (value_at listed.memories i)).memory

    pub data-wire : Contains wires (wire (reader_at readers r).word (first_memory listed + i) (outside_memory tree listed i))
    data-wire = in-fields i (wire (reader_at readers r).word (first_memory listed + i) (outside_memory tree listed i)) lt (word-wire readers writers (outside_memory tree listed i) (first_memory listed + i) r known)

    pub addr-wire : Contains wires (wire (reader_at readers r).addr (outside_memory tree listed i) (first_memory listed + i))
    addr-wire = in-fields i (wire (reader_at readers r).addr (outside_memory tree listed i) (first_memory listed + i)) lt (address-wire readers writers (outside_memory tree listed i) (first_memory listed + i) r known)

    pub en-wire : Contains wires (wire (reader_at readers r).en (outside_memory tree listed i) (first_memory listed + i))
    en-wire = in-fields i (wire (reader_at readers r).en (outside_memory tree listed i) (first_memory listed + i)) lt (enable-wire readers writers (outside_memory tree listed i) (first_memory listed + i) r known)

  pub output-wire : (i : ℕ) → i < length circuit.outs → Contains wires (wire (value_at circuit.outs i) (owner_of circuit tree listed (value_at circuit.outs i)) (keeper_of (ports_of circuit tree listed entries) i))
  output-wire i lt =
      let from = owner_of circuit tree listed (value_at circuit.outs i) in
      let w = wire (value_at circuit.outs i) from (keeper_of b i) in
      Contains-append_right inputs (ports ++ (fields ++ outputs)) w
      (Contains-append_right ports (fields ++ outputs) w
      (Contains-append_right fields outputs w
      (numbered-in (output_wires circuit tree listed b) 0 circuit.outs i 0 w lt (0, omega arith, ap (λ k. wire (value_at circuit.outs i) from (keeper_of b k)) (zero-plus i)))))
