-- Whether the machine of an instance takes a channel doesn't depend on the cut: it takes what comes into the instance.
use Rattle.std.proofs.Common.{◌≡◌, ℕ, suc, ◌+◌, ◌<◌, List, [], Bool, true, false, not, Some, None, length, refl, sym, ◌∙◌, ap, subst, inl, inr, ◌⊎◌, arith}
use Rattle.std.specs.Prelude.{if◌then◌else◌, Contains}
use Rattle.std.proofs.lemmas.List.{get_or_default}
use Rattle.gg_flat_tree.specs.declared.tree.InstancePort.{InstancePort}
use Rattle.gg_flat.specs.Line.{value_at}
use Rattle.gg_flat.specs.Circuit.{FlatCircuit, readers_at, reader_at}
use Rattle.gg_flat.specs.WellFormed.{IsWellFormed}
use Rattle.gg_flat_tree.specs.Tree.{InstanceTree, IsTree, instance_at, memory_at, parent_place}
use Rattle.gg_flat_tree.specs.Scoped.{IsScoped, IsPort, IsInputOf, IsFieldOf, IsVisible, IsWritten, IsOwnSink, IsChildsInput, memory_fields}
use Rattle.gg_partfile.specs.declared.request.BridgeEntry.{BridgeEntry}
use Rattle.gg_cut_plan.specs.Ports.{ports_of}
use Rattle.gg_cut_plan.proofs.PortLemmas.{keeper-source}
use Rattle.gg_cut_plan.specs.declared.wires.Wire.{Wire}
use Rattle.gg_cut_plan.specs.declared.listed.Listed.{Listed}
use Rattle.gg_cut_plan.specs.Listed.{owner_of_instance, memory_owner}
use Rattle.gg_cut_plan.specs.Machines.{first_memory}
use Rattle.gg_cut_plan.specs.Channels.{wire, wires_of}
use Rattle.gg_cut_plan.proofs.WireLemmas.{unit_or_hub-below}
use Rattle.gg_cut_split.specs.inside.Apart.{AreApart}
use Rattle.gg_cut_split.proofs.ClosedLemmas.TreeLemmas.{innermost-one}
use Rattle.gg_cut_split.proofs.ClosedLemmas.PlaceLemmas.{owner-unit, owner-top, owner-outside}
use Rattle.gg_cut_split.proofs.ClosedLemmas.KindLemmas.{IsInputWire, IsOutputWire, IsPortWire, IsFieldWire, IsInto, IsWordWire, Kind, OfInput, OfPort, OfField, OfOutput, outside_unit, outside_memory, kind-of, data-wire, word-field}
use Rattle.gg_cut_split.proofs.ClosedLemmas.NameLemmas.{port-no-field, field-one}
use Rattle.gg_cut_split.proofs.ClosedLemmas.OnceLemmas.{IsChosen, IsStopSignal, top-input, top-port, out-cases, stop-port, stop-field, port-one, same-instance, channel-one}
use Rattle.gg_cut_split.proofs.ClosedLemmas.MakerLemmas.{field-listed}
use Rattle.gg_cut_split.proofs.ClosedLemmas.ClosedLemmas.{owner-listed}

-- ---- what comes into an instance

-- signal t is the data of a reader of the memory at place j
pub record IsDatum (circuit : FlatCircuit) (tree : InstanceTree) (j t : ℕ) : Type 0 where
  pub reader : ℕ
  pub there : reader < length (readers_at circuit (memory_at tree j).memory)
  pub is : (reader_at (readers_at circuit (memory_at tree j).memory) reader).word ≡ t

-- signal t is an output of the instance at place k
pub record IsOutputOf (tree : InstanceTree) (k t : ℕ) : Type 0 where
  pub known : k < length tree.instances
  pub port : InstancePort
  pub listed : Contains (instance_at tree k).ports port
  pub is : port.signal ≡ t
  pub output : port.is_input ≡ false

-- Signal t comes into the instance at place k: it is an input of the instance, an output of one just below it, or the data of a
-- reader of one of its memories.
pub data Comes (circuit : FlatCircuit) (tree : InstanceTree) (k t : ℕ) : Type 0 where
  Down : IsInputOf tree k t → Comes circuit tree k t
  Up : (child : ℕ) → (instance_at tree child).parent ≡ Some k → IsOutputOf tree child t → Comes circuit tree k t
  Read : (j : ℕ) → j < length tree.memories → (memory_at tree j).instance ≡ k → IsDatum circuit tree j t → Comes circuit tree k t

module _ (circuit : FlatCircuit) (tree : InstanceTree) (listed : Listed) (entries : List BridgeEntry) (formed : IsWellFormed circuit) (fits : IsTree circuit tree) (scoped : IsScoped circuit tree) (apart : AreApart tree listed) where
  both : (b : Bool) → b ≡ true → b ≡ false → ⊥
  both true e f = absurd (cc)
  both false e f = absurd (cc)

  not-true : (b : Bool) → not b ≡ true → b ≡ false
  not-true true e = absurd (cc)
  not-true false e = refl

  none-some : (k : ℕ) → None ≡ Some k → ⊥
  none-some k e = absurd (cc)

  -- the top is in no instance
  no-parent : (child k : ℕ) → child ≡ 0 → (instance_at tree child).parent ≡ Some k → ⊥
  no-parent child k zeroth e = none-some k (sym fits.top.parent ∙ ap (λ i. (instance_at tree i).parent) (sym zeroth) ∙ e)

  input-port : (k t : ℕ) → IsInputOf tree k t → IsPort tree k t
  input-port k t i = record { known = i.known; port = i.port; listed = i.listed; is = i.is }

  output-port : (k t : ℕ) → IsOutputOf tree k t → IsPort tree k t
  output-port k t o = record { known = o.known; port = o.port; listed = o.listed; is = o.is }

  -- no signal is an input of an instance and an output of one
  in-out : (k i t : ℕ) → IsInputOf tree k t → IsOutputOf tree i t → ⊥
  in-out k i t a b =
      let same : k ≡ i = same-instance circuit tree listed fits scoped apart k i t (input-port k t a) (output-port i t b) in
      let among : Contains (instance_at tree k).ports b.port = subst (λ n. Contains (instance_at tree n).ports b.port) (sym same) b.listed in
      let one = port-one circuit tree listed fits scoped apart k a.port b.port a.known a.listed among (a.is ∙ sym b.is) in
      both a.port.is_input a.input (ap (λ (p : InstancePort). p.is_input) one ∙ b.output)

  pub datum-field : (j t : ℕ) → IsDatum circuit tree j t → IsFieldOf circuit tree j t
  datum-field j t d = subst (λ s. IsFieldOf circuit tree j s) d.is (word-field circuit (memory_at tree j).memory d.reader d.there)

  no-datum : (k j t : ℕ) → j < length tree.memories → IsPort tree k t → IsDatum circuit tree j t → ⊥
  no-datum k j t lt port d = port-no-field circuit tree fits scoped k j t lt port (datum-field j t d)

  -- where a signal is visible that is a port of the instance at place i
  port-seen : (k i t : ℕ) → IsPort tree i t → IsVisible tree k t → (k ≡ i) ⊎ ((instance_at tree i).parent ≡ Some k)
  port-seen k i t port (inl inner) = inl (innermost-one circuit tree fits k i t inner (scoped.ports i t port).own)
  port-seen k i t port (inr child) =
      let same = same-instance circuit tree listed fits scoped apart child.child i t child.port port in
      inr (subst (λ n. (instance_at tree n).parent ≡ Some k) same child.parent)

  -- where a field is visible
  field-seen : (k j t : ℕ) → j < length tree.memories → IsFieldOf circuit tree j t → IsVisible tree k t → (memory_at tree j).instance ≡ k
  field-seen k j t lt field (inl inner) = innermost-one circuit tree fits (memory_at tree j).instance k t (scoped.fields j t lt field).own inner
  field-seen k j t lt field (inr child) = absurd (port-no-field circuit tree fits scoped child.child j t lt child.port field)

  -- ---- where a driver is written

  -- no signal is written where it is declared and in the parent too
  sink-child : (k i s : ℕ) → IsOwnSink tree k s → IsChildsInput tree i s → ⊥
  sink-child k i s own child =
      let same : child.child ≡ k = innermost-one circuit tree fits child.child k s (scoped.ports child.child s (input-port child.child s child.input)).own own.own in
      own.inner (subst (λ n. IsInputOf tree n s) same child.input)

  pub written-one : (k i s : ℕ) → IsWritten tree k s → IsWritten tree i s → k ≡ i
  written-one k i s (inl a) (inl b) = innermost-one circuit tree fits k i s a.own b.own
  written-one k i s (inl a) (inr b) = absurd (sink-child k i s a b)
  written-one k i s (inr a) (inl b) = absurd (sink-child i k s b a)
  written-one k i s (inr a) (inr b) =
      let same = same-instance circuit tree listed fits scoped apart a.child b.child s (input-port a.child s a.input) (input-port b.child s b.input) in
      some-one (sym a.parent ∙ ap (λ n. (instance_at tree n).parent) same ∙ b.parent)
    where
      some-one : Some k ≡ Some i → k ≡ i
      some-one e = cc

  -- ---- in a cut

  -- the machine of an instance
  abbrev home : ℕ → ℕ
  home k = owner_of_instance tree listed.units k

  abbrev unit_at : ℕ → ℕ
  unit_at i = value_at listed.units i

  -- the unit's port of a channel, an input or an output
  pub data Side (w : Wire) (t : ℕ) : Type 0 where
    Goes : (i : ℕ) → i < length listed.units → IsInputOf tree (value_at listed.units i) t → w.consumer ≡ suc i → Side w t
    Leaves : (i : ℕ) → i < length listed.units → IsOutputOf tree (value_at listed.units i) t → w.consumer ≡ outside_unit tree listed i → Side w t

  side-of : (w : Wire) (t : ℕ) → w.signal ≡ t → IsPortWire tree listed w → Side w t
  side-of w t is p = by p.port.is_input refl
    where
      by : (b : Bool) → p.port.is_input ≡ b → Side w t
      by true e =
          let same : wire p.port.signal (outside_unit tree listed p.unit) (suc p.unit) ≡ w =
          subst (λ b. (if b then wire p.port.signal (outside_unit tree listed p.unit) (suc p.unit) else wire p.port.signal (suc p.unit) (outside_unit tree listed p.unit)) ≡ w) e p.is in
          Goes p.unit p.known (record { known = apart.known p.unit 0 p.known; port = p.port; listed = p.among; is = ap (λ (v : Wire). v.signal) same ∙ is; input = e }) (sym (ap (λ (v : Wire). v.consumer) same))
      by false e =
          let same : wire p.port.signal (suc p.unit) (outside_unit tree listed p.unit) ≡ w =
          subst (λ b. (if b then wire p.port.signal (outside_unit tree listed p.unit) (suc p.unit) else wire p.port.signal (suc p.unit) (outside_unit tree listed p.unit)) ≡ w) e p.is in
          Leaves p.unit p.known (record { known = apart.known p.unit 0 p.known; port = p.port; listed = p.among; is = ap (λ (v : Wire). v.signal) same ∙ is; output = e }) (sym (ap (λ (v : Wire). v.consumer) same))

  source-input : (w : Wire) (t : ℕ) → w.signal ≡ t → IsInputWire circuit tree listed entries w → IsInputOf tree 0 t
  source-input w t is f =
      let c = top-input circuit tree listed fits scoped apart t (f.place, f.known, get_or_default circuit.ins f.place t 0 f.known ∙ ap (λ (v : Wire). v.signal) (sym f.is) ∙ is) in
      record { known = fits.top.there; port = c.port; listed = c.among; is = c.is; input = c.passes }

  tray-signal : (w : Wire) (t : ℕ) → w.signal ≡ t → IsOutputWire circuit tree listed entries w → Contains circuit.outs t
  tray-signal w t is f = (f.place, f.known, get_or_default circuit.outs f.place t 0 f.known ∙ ap (λ (v : Wire). v.signal) (sym f.is) ∙ is)

  -- nothing that comes into an instance is an output of the top or a stop
  no-tray : (k t : ℕ) → Contains circuit.outs t → Comes circuit tree k t → ⊥
  no-tray k t out comes = by comes (out-cases circuit tree listed fits scoped apart t out)
    where
      top : IsChosen (instance_at tree 0).ports (λ port. not port.is_input) t → IsOutputOf tree 0 t
      top c = record { known = fits.top.there; port = c.port; listed = c.among; is = c.is; output = not-true c.port.is_input c.passes }

      by : Comes circuit tree k t → IsChosen (instance_at tree 0).ports (λ port. not port.is_input) t ⊎ IsStopSignal tree t → ⊥
      by (Down i) (inl c) = in-out k 0 t i (top c)
      by (Down i) (inr stop) = stop-port circuit tree listed fits scoped apart k t stop (input-port k t i)
      by (Up child parent o) (inl c) = no-parent child k (same-instance circuit tree listed fits scoped apart child 0 t (output-port child t o) (output-port 0 t (top c))) parent
      by (Up child parent o) (inr stop) = stop-port circuit tree listed fits scoped apart child t stop (output-port child t o)
      by (Read j lt in-here d) (inl c) = no-datum 0 j t lt (output-port 0 t (top c)) d
      by (Read j lt in-here d) (inr stop) = stop-field circuit tree listed fits scoped apart j t lt stop (datum-field j t d)

  -- what comes into an instance, its machine takes, if a channel carries it
  pub comes-taken : (k t : ℕ) (w : Wire) → Contains (wires_of circuit tree listed entries) w → w.signal ≡ t → Comes circuit tree k t → owner_of_instance tree listed.units k ≡ w.consumer
  comes-taken k t w among is comes = by (kind-of circuit tree listed entries w among) comes
    where
      source : IsInputWire circuit tree listed entries w → Comes circuit tree k t → home k ≡ w.consumer
      source f (Down i) =
          let same = same-instance circuit tree listed fits scoped apart k 0 t (input-port k t i) (input-port 0 t (source-input w t is f)) in
          ap home same ∙ owner-top circuit tree listed fits apart ∙ sym (ap (λ (v : Wire). v.consumer) f.is)
      source f (Up child parent o) = absurd (in-out 0 child t (source-input w t is f) o)
      source f (Read j lt in-here d) = absurd (no-datum 0 j t lt (input-port 0 t (source-input w t is f)) d)

      port : Side w t → Comes circuit tree k t → home k ≡ w.consumer
      port (Goes u lt i consumer) (Down j) =
          let same = same-instance circuit tree listed fits scoped apart k (unit_at u) t (input-port k t j) (input-port (unit_at u) t i) in
          ap home same ∙ owner-unit circuit tree listed fits apart u lt ∙ sym consumer
      port (Goes u lt i consumer) (Up child parent o) = absurd (in-out (unit_at u) child t i o)
      port (Goes u lt i consumer) (Read j below in-here d) = absurd (no-datum (unit_at u) j t below (input-port (unit_at u) t i) d)
      port (Leaves u lt o consumer) (Down i) = absurd (in-out k (unit_at u) t i o)
      port (Leaves u lt o consumer) (Up child parent p) =
          let same = same-instance circuit tree listed fits scoped apart child (unit_at u) t (output-port child t p) (output-port (unit_at u) t o) in
          sym (ap (λ q. home (parent_place q)) (ap (λ n. (instance_at tree n).parent) (sym same) ∙ parent)) ∙ sym consumer
      port (Leaves u lt o consumer) (Read j below in-here d) = absurd (no-datum (unit_at u) j t below (output-port (unit_at u) t o) d)

      field : (f : IsFieldWire circuit tree listed w) → IsFieldOf circuit tree (value_at listed.memories f.place) t → Comes circuit tree k t → home k ≡ w.consumer
      field f own (Down i) = absurd (port-no-field circuit tree fits scoped k (value_at listed.memories f.place) t (apart.memories f.place 0 f.known) (input-port k t i) own)
      field f own (Up child parent o) = absurd (port-no-field circuit tree fits scoped child (value_at listed.memories f.place) t (apart.memories f.place 0 f.known) (output-port child t o) own)
      field f own (Read j lt in-here d) =
          let same : j ≡ value_at listed.memories f.place = field-one circuit tree fits scoped j (value_at listed.memories f.place) t lt (apart.memories f.place 0 f.known) (datum-field j t d) own in
          let e = subst (λ n. IsDatum circuit tree n t) same d in
          let one = channel-one circuit tree listed entries fits scoped apart w (wire (reader_at (readers_at circuit (memory_at tree (value_at listed.memories f.place)).memory) e.reader).word (first_memory listed + f.place) (outside_memory tree listed f.place)) among (data-wire circuit tree listed entries f.place e.reader f.known e.there) (is ∙ sym e.is) in
          ap home (sym in-here ∙ ap (λ n. (memory_at tree n).instance) same) ∙ sym (ap (λ (v : Wire). v.consumer) one)

      by : Kind circuit tree listed entries w → Comes circuit tree k t → home k ≡ w.consumer
      by (OfInput f) c = source f c
      by (OfPort p) c = port (side-of w t is p) c
      by (OfField f) c = field f (subst (λ s. IsFieldOf circuit tree (value_at listed.memories f.place) s) is (field-listed circuit tree listed fits scoped apart w f)) c
      by (OfOutput f) c = absurd (no-tray k t (tray-signal w t is f) c)

  -- and what it takes and is visible there, comes into it
  pub taken-comes : (k t : ℕ) (w : Wire) → IsVisible tree k t → Contains (wires_of circuit tree listed entries) w → w.signal ≡ t → owner_of_instance tree listed.units k ≡ w.consumer → Comes circuit tree k t
  taken-comes k t w seen among is takes = by (kind-of circuit tree listed entries w among)
    where
      low : home k < suc (length listed.units)
      low = unit_or_hub-below tree listed.units k

      source : (i : IsInputOf tree 0 t) → (k ≡ 0) ⊎ ((instance_at tree 0).parent ≡ Some k) → Comes circuit tree k t
      source i (inl same) = Down (subst (λ n. IsInputOf tree n t) (sym same) i)
      source i (inr parent) = absurd (no-parent 0 k refl parent)

      goes : (u : ℕ) → u < length listed.units → IsInputOf tree (value_at listed.units u) t → w.consumer ≡ suc u → (k ≡ value_at listed.units u) ⊎ ((instance_at tree (value_at listed.units u)).parent ≡ Some k) → Comes circuit tree k t
      goes u lt i consumer (inl same) = Down (subst (λ n. IsInputOf tree n t) (sym same) i)
      goes u lt i consumer (inr parent) = absurd (owner-outside circuit tree listed fits apart u k lt parent (takes ∙ consumer))

      leaves : (u : ℕ) → u < length listed.units → IsOutputOf tree (value_at listed.units u) t → w.consumer ≡ outside_unit tree listed u → (k ≡ value_at listed.units u) ⊎ ((instance_at tree (value_at listed.units u)).parent ≡ Some k) → Comes circuit tree k t
      leaves u lt o consumer (inl same) =
          let below = fits.below (unit_at u) (apart.lower u 0 lt) (apart.known u 0 lt) in
          absurd (owner-outside circuit tree listed fits apart u below.above lt below.parent
          (sym (ap (λ q. home (parent_place q)) below.parent) ∙ sym consumer ∙ sym takes ∙ ap home same ∙ owner-unit circuit tree listed fits apart u lt))
      leaves u lt o consumer (inr parent) = Up (unit_at u) parent o

      port : Side w t → Comes circuit tree k t
      port (Goes u lt i consumer) = goes u lt i consumer (port-seen k (unit_at u) t (input-port (unit_at u) t i) seen)
      port (Leaves u lt o consumer) = leaves u lt o consumer (port-seen k (unit_at u) t (output-port (unit_at u) t o) seen)

      field : (f : IsFieldWire circuit tree listed w) → IsFieldOf circuit tree (value_at listed.memories f.place) t
          → IsInto (memory_fields circuit (memory_at tree (value_at listed.memories f.place)).memory) (outside_memory tree listed f.place) (first_memory listed + f.place) w
          ⊎ IsWordWire (readers_at circuit (memory_at tree (value_at listed.memories f.place)).memory) (outside_memory tree listed f.place) (first_memory listed + f.place) w → Comes circuit tree k t
      field f own (inl into) = let to = into.consumer in absurd (omega (arith, low, takes, to))
      field f own (inr word) =
          Read (value_at listed.memories f.place) (apart.memories f.place 0 f.known) (field-seen k (value_at listed.memories f.place) t (apart.memories f.place 0 f.known) own seen)
          (record { reader = word.reader; there = word.known; is = sym (ap (λ (v : Wire). v.signal) word.is) ∙ is })

      by : Kind circuit tree listed entries w → Comes circuit tree k t
      by (OfInput f) = let i = source-input w t is f in source i (port-seen k 0 t (input-port 0 t i) seen)
      by (OfPort p) = port (side-of w t is p)
      by (OfField f) = field f (subst (λ s. IsFieldOf circuit tree (value_at listed.memories f.place) s) is (field-listed circuit tree listed fits scoped apart w f)) f.is
      by (OfOutput f) =
          let to = ap (λ (v : Wire). v.consumer) f.is in
          let high = keeper-source (ports_of circuit tree listed entries) f.place in
          absurd (omega (arith, low, takes, to, high))

  -- ---- fields of memories

  -- the channel of a field is that of a listed memory
  pub record IsListedField (j t : ℕ) (w : Wire) : Type 0 where
    pub place : ℕ
    pub known : place < length listed.memories
    pub is : j ≡ value_at listed.memories place
    pub owner : memory_owner tree listed j ≡ first_memory listed + place
    pub side : (w.consumer ≡ first_memory listed + place) ⊎ (IsDatum circuit tree j t × (w.consumer < first_memory listed))

  pub field-channel : (j t : ℕ) (w : Wire) → j < length tree.memories → IsFieldOf circuit tree j t → Contains (wires_of circuit tree listed entries) w → w.signal ≡ t → IsListedField j t w
  field-channel j t w lt own among is = by (kind-of circuit tree listed entries w among)
    where
      no-port : (k : ℕ) → IsPort tree k t → ⊥
      no-port k port = port-no-field circuit tree fits scoped k j t lt port own

      port : Side w t → IsListedField j t w
      port (Goes u below i consumer) = absurd (no-port (unit_at u) (input-port (unit_at u) t i))
      port (Leaves u below o consumer) = absurd (no-port (unit_at u) (output-port (unit_at u) t o))

      out : IsChosen (instance_at tree 0).ports (λ port. not port.is_input) t ⊎ IsStopSignal tree t → ⊥
      out (inl c) = no-port 0 (top-port circuit tree listed fits scoped apart t (λ port. not port.is_input) c)
      out (inr stop) = stop-field circuit tree listed fits scoped apart j t lt stop own

      field : (f : IsFieldWire circuit tree listed w) → (j ≡ value_at listed.memories f.place)
          → IsInto (memory_fields circuit (memory_at tree (value_at listed.memories f.place)).memory) (outside_memory tree listed f.place) (first_memory listed + f.place) w
          ⊎ IsWordWire (readers_at circuit (memory_at tree (value_at listed.memories f.place)).memory) (outside_memory tree listed f.place) (first_memory listed + f.place) w → IsListedField j t w
      field f same which = record { place = f.place; known = f.known; is = same; owner = ap (memory_owner tree listed) same ∙ owner-listed circuit tree listed formed fits scoped apart f.place f.known; side = side which }
        where
          side : IsInto (memory_fields circuit (memory_at tree (value_at listed.memories f.place)).memory) (outside_memory tree listed f.place) (first_memory listed + f.place) w
              ⊎ IsWordWire (readers_at circuit (memory_at tree (value_at listed.memories f.place)).memory) (outside_memory tree listed f.place) (first_memory listed + f.place) w
              → (w.consumer ≡ first_memory listed + f.place) ⊎ (IsDatum circuit tree j t × (w.consumer < first_memory listed))
          side (inl into) = inl into.consumer
          side (inr word) =
              let low = unit_or_hub-below tree listed.units (memory_at tree (value_at listed.memories f.place)).instance in
              let to = ap (λ (v : Wire). v.consumer) word.is in
              inr (subst (λ n. IsDatum circuit tree n t) (sym same) (record { reader = word.reader; there = word.known; is = sym (ap (λ (v : Wire). v.signal) word.is) ∙ is }), omega (arith, low, to))

      by : Kind circuit tree listed entries w → IsListedField j t w
      by (OfInput f) = absurd (no-port 0 (input-port 0 t (source-input w t is f)))
      by (OfPort p) = port (side-of w t is p)
      by (OfField f) =
          let own-there = subst (λ s. IsFieldOf circuit tree (value_at listed.memories f.place) s) is (field-listed circuit tree listed fits scoped apart w f) in
          field f (field-one circuit tree fits scoped j (value_at listed.memories f.place) t lt (apart.memories f.place 0 f.known) own own-there) f.is
      by (OfOutput f) = absurd (out (out-cases circuit tree listed fits scoped apart t (tray-signal w t is f)))
