-- A machine is closed: it makes or takes what is named by the driver, the register or the memory of a signal that it makes.
use Rattle.std.proofs.Common.{◌≡◌, ◌≢◌, ℕ, ◌+◌, ◌<◌, ◌≤◌, List, [], length, get_or, true, refl, sym, ◌∙◌, ap, subst, Some, inl, inr, ◌⊎◌, slice_get, true-eqb, arith}
use Rattle.std.specs.Prelude.{◌==◌, map, Contains, All}
use Rattle.std.proofs.lemmas.Bool.{cases_lt, ne_eqb, eq-eqb}
use Rattle.std.proofs.lemmas.List.{get_or_default, get_or_past, length-map}
use Rattle.gg_flat.specs.declared.memory.Reader.{Reader}
use Rattle.gg_flat.specs.declared.memory.Memory.{Memory}
use Rattle.gg_flat.specs.declared.memory.Latency.{Latency}
use Rattle.gg_flat.specs.declared.memory.Latency.TheVariants.{Zero, One}
use Rattle.gg_flat.specs.declared.piece.Register.{Register}
use Rattle.gg_flat.specs.declared.piece.Driver.{Driver}
use Rattle.gg_flat.specs.declared.piece.Driver.TheVariants.{Input, Held}
use Rattle.gg_flat.specs.Line.{value_at}
use Rattle.gg_flat.specs.Circuit.{FlatCircuit, driver_at, readers_at, reader_at, latency_at}
use Rattle.gg_flat.specs.Reads.{NamesSignal, RegisterNames}
use Rattle.gg_flat.specs.WellFormed.{IsWellFormed, IsDataOf, MayDrive, reader_driver}
use Rattle.gg_flat_tree.specs.Tree.{InstanceTree, IsTree, memory_at}
use Rattle.gg_flat_tree.specs.Scoped.{IsScoped, IsFieldOf, memory_fields}
use Rattle.gg_partfile.specs.declared.request.BridgeEntry.{BridgeEntry}
use Rattle.gg_cut_plan.specs.Ports.{giver_of, ports_of}
use Rattle.gg_cut_plan.proofs.PortLemmas.{giver-low}
use Rattle.gg_cut_plan.specs.declared.wires.Wire.{Wire}
use Rattle.gg_cut_plan.specs.declared.listed.Listed.{Listed}
use Rattle.gg_cut_plan.specs.Listed.{owner_of_instance, memory_or, memory_owner}
use Rattle.gg_cut_plan.specs.Machines.{first_memory, first_source}
use Rattle.gg_cut_plan.specs.Channels.{wire, wires_of}
use Rattle.gg_cut_plan.specs.inside.Plan.{Makes}
use Rattle.gg_cut_plan.specs.Plan.{Takes, HasMemory}
use Rattle.gg_cut_plan.proofs.WireLemmas.{unit_or_hub-below}
use Rattle.gg_cut_split.specs.inside.Apart.{AreApart}
use Rattle.gg_cut_split.proofs.ClosedLemmas.ListLemmas.{Somewhere}
use Rattle.gg_cut_split.proofs.ClosedLemmas.PlaceLemmas.{place-none, place-is}
use Rattle.gg_cut_split.proofs.ClosedLemmas.KindLemmas.{outside_memory, input-wire, memory-wire, data-wire, addr-wire, en-wire, word-field}
use Rattle.gg_cut_split.proofs.ClosedLemmas.NameLemmas.{port-no-field, field-one}
use Rattle.gg_cut_split.proofs.ClosedLemmas.OnceLemmas.{channel-one, stop-field}
use Rattle.gg_cut_split.proofs.ClosedLemmas.MakerLemmas.{Gets, HasWire, IsOwned, find-unit, chosen-out, given-out, no-channel, gives, takes, owned, visible}
use Rattle.gg_cut_split.proofs.ClosedLemmas.WrittenLemmas.{IsWord, IsWrittenIn, made}

-- the driver of a reader's data names only the reader's address and enable
reader-names : (latency : Latency) (m r t : ℕ) (reader : Reader) → NamesSignal (reader_driver latency m r reader) t → (reader.addr ≡ t) ⊎ (reader.en ≡ t)
reader-names Zero m r t reader named = named
reader-names (One under) m r t reader named = absurd named

reader-no-register : (latency : Latency) (m r n : ℕ) (reader : Reader) → reader_driver latency m r reader ≡ Held n → ⊥
reader-no-register Zero m r n reader e = absurd (cc)
reader-no-register (One under) m r n reader e = absurd (cc)

module _ (circuit : FlatCircuit) (tree : InstanceTree) (listed : Listed) (formed : IsWellFormed circuit) (fits : IsTree circuit tree) (scoped : IsScoped circuit tree) (apart : AreApart tree listed) where
  -- only a memory of the circuit has readers
  pub reader-known : (m r : ℕ) → r < length (readers_at circuit m) → m < length circuit.memories
  reader-known m r lt = by (cases_lt m (length circuit.memories))
    where
      by : (m < length circuit.memories) ⊎ (length circuit.memories ≤ m) → m < length circuit.memories
      by (inl less) = less
      by (inr le) =
          let none : readers_at circuit m ≡ [] = get_or_past (map (λ (k : Memory). k.readers) circuit.memories) m [] (omega (arith, le, length-map circuit.memories (λ (k : Memory). k.readers))) in
          absurd (omega (arith, lt, ap length none))

  -- the owner of a listed memory is the machine of its place among the listed ones; the owner of another is its instance's machine
  pub owner-listed : (i : ℕ) → i < length listed.memories → memory_owner tree listed (value_at listed.memories i) ≡ first_memory listed + i
  owner-listed i lt =
      ap (memory_or (length listed.units) (owner_of_instance tree listed.units (memory_at tree (value_at listed.memories i)).instance))
      (place-is (λ j. j == value_at listed.memories i) listed.memories i lt
      (λ d. eq (get_or listed.memories i d) (get_or_default listed.memories i d 0 lt))
      (λ j d less. ne_eqb (get_or listed.memories j d) (value_at listed.memories i) (λ same. let up = apart.ascending j i d less lt in let read = get_or_default listed.memories i d 0 lt in absurd (omega (arith, up, same, read)))))
    where
      eq : (n : ℕ) → n ≡ value_at listed.memories i → (n == value_at listed.memories i) ≡ true
      eq n e = eq-eqb n (value_at listed.memories i) e

  pub owner-unlisted : (j : ℕ) → All (λ k. k ≢ j) listed.memories → memory_owner tree listed j ≡ owner_of_instance tree listed.units (memory_at tree j).instance
  owner-unlisted j none =
      ap (memory_or (length listed.units) (owner_of_instance tree listed.units (memory_at tree j).instance))
      (place-none (λ k. k == j) listed.memories (λ i d lt. ne_eqb (get_or listed.memories i d) j (none i d lt)))

module _ (circuit : FlatCircuit) (tree : InstanceTree) (listed : Listed) (entries : List BridgeEntry) (formed : IsWellFormed circuit) (fits : IsTree circuit tree) (scoped : IsScoped circuit tree) (apart : AreApart tree listed) where
  abbrev wires : List Wire
  wires = wires_of circuit tree listed entries

  abbrev memory_of : ℕ → ℕ
  memory_of i = (memory_at tree (value_at listed.memories i)).memory

  word-driver : (m s : ℕ) → (w : IsWord circuit tree listed m s) → driver_at circuit s ≡ reader_driver (latency_at circuit (memory_of w.place)) (memory_of w.place) w.reader (reader_at (readers_at circuit (memory_of w.place)) w.reader)
  word-driver m s w = ap (driver_at circuit) w.is ∙ formed.reads (memory_of w.place) (reader-known circuit tree listed formed fits scoped apart (memory_of w.place) w.reader w.there) w.reader w.there

  -- a machine makes or takes what is named by the driver of a signal that it makes
  pub closed : (m s t : ℕ) → m < first_source listed → Makes circuit tree listed (wires_of circuit tree listed entries) m s → NamesSignal (driver_at circuit s) t → Gets circuit tree listed entries fits scoped apart m t
  closed m s t low makes named = by (made circuit tree listed entries fits scoped apart m s low makes)
    where
      by : IsWrittenIn tree listed m s ⊎ IsWord circuit tree listed m s → Gets circuit tree listed entries fits scoped apart m t
      by (inl in-own) = subst (λ n. Gets circuit tree listed entries fits scoped apart n t) in-own.owner (visible circuit tree listed entries fits scoped apart in-own.place t (scoped.drivers in-own.place s t in-own.written named))
      by (inr w) =
          inr (subst (λ n. Takes (wires_of circuit tree listed entries) n t) (sym w.number)
          (at (reader-names (latency_at circuit (memory_of w.place)) (memory_of w.place) w.reader t (reader_at (readers_at circuit (memory_of w.place)) w.reader) (subst (λ (d : Driver). NamesSignal d t) (word-driver m s w) named))))
        where
          at : ((reader_at (readers_at circuit (memory_of w.place)) w.reader).addr ≡ t) ⊎ ((reader_at (readers_at circuit (memory_of w.place)) w.reader).en ≡ t) → Takes (wires_of circuit tree listed entries) (first_memory listed + w.place) t
          at (inl e) =
              subst (λ u. Takes (wires_of circuit tree listed entries) (first_memory listed + w.place) u) e
              (takes circuit tree listed entries fits scoped apart (reader_at (readers_at circuit (memory_of w.place)) w.reader).addr (outside_memory tree listed w.place) (first_memory listed + w.place) (addr-wire circuit tree listed entries w.place w.reader w.known w.there))
          at (inr e) =
              subst (λ u. Takes (wires_of circuit tree listed entries) (first_memory listed + w.place) u) e
              (takes circuit tree listed entries fits scoped apart (reader_at (readers_at circuit (memory_of w.place)) w.reader).en (outside_memory tree listed w.place) (first_memory listed + w.place) (en-wire circuit tree listed entries w.place w.reader w.known w.there))

  -- and what is named by that signal's register
  pub register-closed : (m s r t : ℕ) (register : Register) → m < first_source listed → Makes circuit tree listed (wires_of circuit tree listed entries) m s → driver_at circuit s ≡ Held r → slice_get circuit.registers r ≡ Some register → RegisterNames register t → Gets circuit tree listed entries fits scoped apart m t
  register-closed m s r t register low makes held found named = by (made circuit tree listed entries fits scoped apart m s low makes)
    where
      by : IsWrittenIn tree listed m s ⊎ IsWord circuit tree listed m s → Gets circuit tree listed entries fits scoped apart m t
      by (inl in-own) = subst (λ n. Gets circuit tree listed entries fits scoped apart n t) in-own.owner (visible circuit tree listed entries fits scoped apart in-own.place t (scoped.registers in-own.place s r t register in-own.written held found named))
      by (inr w) =
          absurd
          (reader-no-register (latency_at circuit (memory_of w.place)) (memory_of w.place) w.reader r (reader_at (readers_at circuit (memory_of w.place)) w.reader) (sym (word-driver m s w) ∙ held))

  -- ---- inputs

  -- a machine before the sources doesn't make a top input
  pub input-taken : (m s place : ℕ) → m < first_source listed → s < length circuit.signals → driver_at circuit s ≡ Input place → ¬ Makes circuit tree listed (wires_of circuit tree listed entries) m s
  input-taken m s place low lt e makes = by makes
    where
      input : (place < length circuit.ins) × (value_at circuit.ins place ≡ s)
      input = subst (MayDrive circuit s) e (formed.drivers s lt)

      by : Makes circuit tree listed (wires_of circuit tree listed entries) m s → ⊥
      by (inl own) = no-channel circuit tree listed entries fits scoped apart s (wire (value_at circuit.ins place) (giver_of (ports_of circuit tree listed entries) place) 0) own.2 (input-wire circuit tree listed entries place input.0) input.1
      by (inr h) =
          let w = given-out circuit tree listed entries m s h in
          let same = channel-one circuit tree listed entries fits scoped apart w.wire (wire (value_at circuit.ins place) (giver_of (ports_of circuit tree listed entries) place) 0) w.among (input-wire circuit tree listed entries place input.0) (w.is ∙ sym input.1) in
          let from : w.wire.producer ≡ m = true-eqb w.wire.producer m (sym w.passes) in
          let number = ap (λ (v : Wire). v.producer) same in
          let high = giver-low (ports_of circuit tree listed entries) place in
          omega (arith, low, from, number, high)

  -- ---- memories

  -- a memory is listed, or isn't
  find-listed : (j : ℕ) → Somewhere (λ k. j ≡ k) listed.memories ⊎ All (λ k. j ≢ k) listed.memories
  find-listed j = find-unit listed.memories j

  flip-all : (j : ℕ) (places : List ℕ) → All (λ k. j ≢ k) places → All (λ k. k ≢ j) places
  flip-all j places none i d lt same = none i d lt (sym same)

  -- a field of a memory that isn't listed has no channel, and belongs to the machine of the memory's instance
  pub unlisted-owned : (j s : ℕ) → j < length tree.memories → All (λ k. j ≢ k) listed.memories → IsFieldOf circuit tree j s → IsOwned circuit tree listed entries fits scoped apart s (memory_at tree j).instance
  unlisted-owned j s lt none field =
      owned circuit tree listed entries fits scoped apart (memory_at tree j).instance s (scoped.fields j s lt field).own
      (λ i d inside other. none i d inside (field-one circuit tree fits scoped j (get_or listed.memories i d) s lt (apart.memories i d inside) field other))
      (λ stop. stop-field circuit tree listed fits scoped apart j s lt stop field)
      (λ port. absurd (port-no-field circuit tree fits scoped (memory_at tree j).instance j s lt port field))

  -- a machine makes or takes the fields of its memories
  pub fields-closed : (m k s : ℕ) → HasMemory tree listed m k → Contains (memory_fields circuit k) s → s < length circuit.signals → Gets circuit tree listed entries fits scoped apart m s
  fields-closed m k s has field lt = by (find-listed has.place)
    where
      own : IsFieldOf circuit tree has.place s
      own = subst (λ n. Contains (memory_fields circuit n) s) (sym has.is) field

      by : Somewhere (λ j. has.place ≡ j) listed.memories ⊎ All (λ j. has.place ≢ j) listed.memories → Gets circuit tree listed entries fits scoped apart m s
      by (inr none) =
          let o = unlisted-owned has.place s has.known none own in
          inl (inl (lt, o.owner ∙ sym (owner-unlisted circuit tree listed formed fits scoped apart has.place (flip-all has.place listed.memories none)) ∙ has.owner, o.inner))
      by (inl at) = subst (λ n. Gets circuit tree listed entries fits scoped apart n s) number (ends (memory-wire circuit tree listed entries at.place s at.within (subst (λ j. IsFieldOf circuit tree j s) (at.holds 0) own)))
        where
          number : first_memory listed + at.place ≡ m
          number = sym (owner-listed circuit tree listed formed fits scoped apart at.place at.within) ∙ ap (memory_owner tree listed) (sym (at.holds 0)) ∙ has.owner

          ends : Contains (wires_of circuit tree listed entries) (wire s (outside_memory tree listed at.place) (first_memory listed + at.place)) ⊎ Contains (wires_of circuit tree listed entries) (wire s (first_memory listed + at.place) (outside_memory tree listed at.place)) → Gets circuit tree listed entries fits scoped apart (first_memory listed + at.place) s
          ends (inl w) = inr (takes circuit tree listed entries fits scoped apart s (outside_memory tree listed at.place) (first_memory listed + at.place) w)
          ends (inr w) = inl (gives circuit tree listed entries fits scoped apart s (first_memory listed + at.place) (outside_memory tree listed at.place) w)

  -- a machine doesn't take the data of its memories' readers
  pub words-made : (m k r : ℕ) → HasMemory tree listed m k → r < length (readers_at circuit k) → ¬ Takes (wires_of circuit tree listed entries) m (reader_at (readers_at circuit k) r).word
  words-made m k r has lt taken = by (find-listed has.place)
    where
      w : HasWire (wires_of circuit tree listed entries) (λ (v : Wire). v.consumer == m) (reader_at (readers_at circuit k) r).word
      w = chosen-out (wires_of circuit tree listed entries) (λ (v : Wire). v.consumer == m) (reader_at (readers_at circuit k) r).word taken

      to : w.wire.consumer ≡ m
      to = true-eqb w.wire.consumer m (sym w.passes)

      by : Somewhere (λ j. has.place ≡ j) listed.memories ⊎ All (λ j. has.place ≢ j) listed.memories → ⊥
      by (inr none) =
          let field : IsFieldOf circuit tree has.place (reader_at (readers_at circuit k) r).word = subst (λ n. Contains (memory_fields circuit n) (reader_at (readers_at circuit k) r).word) (sym has.is) (word-field circuit k r lt) in
          no-channel circuit tree listed entries fits scoped apart (reader_at (readers_at circuit k) r).word w.wire (unlisted-owned has.place (reader_at (readers_at circuit k) r).word has.known none field).inner w.among w.is
      by (inl at) =
          let same : memory_of at.place ≡ k = ap (λ j. (memory_at tree j).memory) (sym (at.holds 0)) ∙ has.is in
          let there : r < length (readers_at circuit (memory_of at.place)) = subst (λ n. r < length (readers_at circuit n)) (sym same) lt in
          let one = channel-one circuit tree listed entries fits scoped apart w.wire (wire (reader_at (readers_at circuit (memory_of at.place)) r).word (first_memory listed + at.place) (outside_memory tree listed at.place)) w.among (data-wire circuit tree listed entries at.place r at.within there) (w.is ∙ ap (λ n. (reader_at (readers_at circuit n) r).word) (sym same)) in
          let number : first_memory listed + at.place ≡ m = sym (owner-listed circuit tree listed formed fits scoped apart at.place at.within) ∙ ap (memory_owner tree listed) (sym (at.holds 0)) ∙ has.owner in
          let out : outside_memory tree listed at.place ≡ m = sym (ap (λ (v : Wire). v.consumer) one) ∙ to in
          let below = unit_or_hub-below tree listed.units (memory_at tree (value_at listed.memories at.place)).instance in
          omega (arith, number, out, below)

  -- a machine that makes the data of a memory's reader has that memory
  pub banks-closed : (m s j r : ℕ) → Makes circuit tree listed (wires_of circuit tree listed entries) m s → j < length tree.memories → IsDataOf circuit (memory_at tree j).memory r s → HasMemory tree listed m (memory_at tree j).memory
  banks-closed m s j r makes lt word = by (find-listed j)
    where
      field : IsFieldOf circuit tree j s
      field = subst (λ t. IsFieldOf circuit tree j t) word.1 (word-field circuit (memory_at tree j).memory r word.0)

      has : memory_owner tree listed j ≡ m → HasMemory tree listed m (memory_at tree j).memory
      has owner = record { place = j; known = lt; is = refl; owner = owner }

      by : Somewhere (λ k. j ≡ k) listed.memories ⊎ All (λ k. j ≢ k) listed.memories → HasMemory tree listed m (memory_at tree j).memory
      by (inr none) = has (owner-unlisted circuit tree listed formed fits scoped apart j (flip-all j listed.memories none) ∙ at makes)
        where
          o : IsOwned circuit tree listed entries fits scoped apart s (memory_at tree j).instance
          o = unlisted-owned j s lt none field

          at : Makes circuit tree listed (wires_of circuit tree listed entries) m s → owner_of_instance tree listed.units (memory_at tree j).instance ≡ m
          at (inl own) = sym o.owner ∙ own.1
          at (inr h) = absurd (let w = given-out circuit tree listed entries m s h in no-channel circuit tree listed entries fits scoped apart s w.wire o.inner w.among w.is)
      by (inl at) = has (ap (memory_owner tree listed) (at.holds 0) ∙ owner-listed circuit tree listed formed fits scoped apart at.place at.within ∙ from makes)
        where
          same : memory_of at.place ≡ (memory_at tree j).memory
          same = ap (λ k. (memory_at tree k).memory) (sym (at.holds 0))

          there : r < length (readers_at circuit (memory_of at.place))
          there = subst (λ n. r < length (readers_at circuit n)) (sym same) word.0

          signal : (reader_at (readers_at circuit (memory_of at.place)) r).word ≡ s
          signal = ap (λ n. (reader_at (readers_at circuit n) r).word) same ∙ word.1

          channel : Contains (wires_of circuit tree listed entries) (wire (reader_at (readers_at circuit (memory_of at.place)) r).word (first_memory listed + at.place) (outside_memory tree listed at.place))
          channel = data-wire circuit tree listed entries at.place r at.within there

          from : Makes circuit tree listed (wires_of circuit tree listed entries) m s → first_memory listed + at.place ≡ m
          from (inl own) = absurd (no-channel circuit tree listed entries fits scoped apart s (wire (reader_at (readers_at circuit (memory_of at.place)) r).word (first_memory listed + at.place) (outside_memory tree listed at.place)) own.2 channel signal)
          from (inr h) =
              let w = given-out circuit tree listed entries m s h in
              let one = channel-one circuit tree listed entries fits scoped apart w.wire (wire (reader_at (readers_at circuit (memory_of at.place)) r).word (first_memory listed + at.place) (outside_memory tree listed at.place)) w.among channel (w.is ∙ sym signal) in
              sym (ap (λ (v : Wire). v.producer) one) ∙ true-eqb w.wire.producer m (sym w.passes)
