-- What a machine has makes a part.
use Rattle.std.proofs.Common.{◌≡◌, ◌≢◌, ℕ, ◌+◌, ◌<◌, List, [], length, map, get_or, Bool, refl, sym, ◌∙◌, ap, subst, inl, inr, arith}
use Rattle.std.specs.Prelude.{◌↔◌, ◌==◌, filter, Contains, All, AllPairs}
use Rattle.std.specs.List.{range_with_len}
use Rattle.std.proofs.lemmas.List.{get_or-map, length-map}
use Rattle.std.proofs.lemmas.List.Elements.{All-contains, Contains-get_or}
use Rattle.std.proofs.lemmas.List.Kept.{AllPairs-filter}
use Rattle.std.proofs.lemmas.List.FromFn.{get_or-range_with_len, length-range_with_len}
use Rattle.gg_flat.specs.declared.piece.Driver.{Driver}
use Rattle.gg_flat.specs.declared.piece.Driver.TheVariants.{Input, Held, MemoryWord, ReadRegister, Computed}
use Rattle.gg_flat_tree.specs.declared.tree.MemoryInstance.{MemoryInstance}
use Rattle.gg_flat.specs.Circuit.{FlatCircuit, driver_at}
use Rattle.gg_flat.specs.WellFormed.{IsWellFormed, IsDataOf, MayDrive}
use Rattle.gg_flat_tree.specs.Tree.{InstanceTree, IsTree, memory_at}
use Rattle.gg_flat_tree.specs.Scoped.{IsScoped, IsFieldOf, memory_fields}
use Rattle.gg_flat.proofs.ListLemmas.{Contains-map}
use Rattle.gg_part.specs.inside.Choice.{IsChoice, NamesMemory}
use Rattle.gg_partfile.specs.declared.request.BridgeEntry.{BridgeEntry}
use Rattle.gg_cut_plan.specs.declared.wires.Wire.{Wire}
use Rattle.gg_cut_plan.specs.declared.listed.Listed.{Listed}
use Rattle.gg_cut_plan.specs.Machines.{first_source}
use Rattle.gg_cut_plan.specs.Channels.{wire, wires_of}
use Rattle.gg_cut_plan.specs.inside.Channels.{channel_signals}
use Rattle.gg_cut_plan.specs.Plan.{wire_at, channels_to, channels_from, signals_of, givens_of, Takes, HasMemory}
use Rattle.gg_cut_plan.specs.inside.Plan.{Makes}
use Rattle.gg_cut_plan.proofs.ChannelLemmas.{wires-signals}
use Rattle.gg_cut_plan.proofs.KnownLemmas.{signals-known, memory-known}
use Rattle.gg_cut_split.specs.inside.Apart.{AreApart}
use Rattle.gg_cut_split.proofs.ClosedLemmas.ListLemmas.{Somewhere, map-cases, AllPairs-map}
use Rattle.gg_cut_split.proofs.ClosedLemmas.TreeLemmas.{innermost-known}
use Rattle.gg_cut_split.proofs.ClosedLemmas.OnceLemmas.{wires-once}
use Rattle.gg_cut_split.proofs.ClosedLemmas.MakerLemmas.{Gets, chosen-out, given-out}
use Rattle.gg_cut_split.proofs.ClosedLemmas.ClosedLemmas.{closed, register-closed, input-taken, fields-closed, words-made, banks-closed, reader-known}
use Rattle.gg_cut_split.proofs.ClosedLemmas.CountLemmas.{all-of}

module _ (circuit : FlatCircuit) (tree : InstanceTree) (listed : Listed) (formed : IsWellFormed circuit) (fits : IsTree circuit tree) (scoped : IsScoped circuit tree) (apart : AreApart tree listed) where
  -- ---- memories

  -- each memory of the circuit has its place in the tree
  pub place-of-memory : (k : ℕ) → k < length circuit.memories → Somewhere (λ (memory : MemoryInstance). memory.memory ≡ k) tree.memories
  place-of-memory k lt =
      map-cases (λ (memory : MemoryInstance). memory.memory) tree.memories k
      (all-of (length circuit.memories) (map (λ (memory : MemoryInstance). memory.memory) tree.memories) k
      (AllPairs-map (λ a b. a ≢ b) (λ (memory : MemoryInstance). memory.memory) tree.memories fits.once)
      below
      (length-map tree.memories (λ (memory : MemoryInstance). memory.memory) ∙ fits.count)
      lt)
    where
      below : All (λ x. x < length circuit.memories) (map (λ (memory : MemoryInstance). memory.memory) tree.memories)
      below i d inside =
          let within : i < length tree.memories = omega (arith, inside, length-map tree.memories (λ (memory : MemoryInstance). memory.memory)) in
          subst (λ x. x < length circuit.memories) (sym (get_or-map (λ (memory : MemoryInstance). memory.memory) tree.memories i (record { instance = 0; memory = 0; ports = []; clocks = [] }) d within)) (memory-known circuit tree formed fits i within)

module _ (circuit : FlatCircuit) (tree : InstanceTree) (listed : Listed) (entries : List BridgeEntry) (formed : IsWellFormed circuit) (fits : IsTree circuit tree) (scoped : IsScoped circuit tree) (apart : AreApart tree listed) where
  abbrev wires : List Wire
  wires = wires_of circuit tree listed entries

  -- ---- signals of channels

  pub wire-known : (w : Wire) → Contains (wires_of circuit tree listed entries) w → w.signal < length circuit.signals
  wire-known w h =
      All-contains (λ s. s < length circuit.signals) (channel_signals circuit tree listed) w.signal (signals-known circuit tree formed fits listed apart.known apart.memories)
      (subst (λ (l : List ℕ). Contains l w.signal) (wires-signals circuit tree listed entries) (Contains-map (λ (v : Wire). v.signal) wires w h))

  -- no two channels carry the same signal
  pub pairs-once : AllPairs (λ (v w : Wire). v.signal ≢ w.signal) (wires_of circuit tree listed entries)
  pairs-once i j d less lt same =
      let read = λ (k : ℕ) (inside : k < length (wires_of circuit tree listed entries)). get_or-map (λ (w : Wire). w.signal) (wires_of circuit tree listed entries) k d 0 inside in
      let low : i < length (wires_of circuit tree listed entries) = omega (arith, less, lt) in
      wires-once circuit tree listed entries fits scoped apart i j 0 less (omega (arith, lt, length-map (wires_of circuit tree listed entries) (λ (w : Wire). w.signal))) (read i low ∙ same ∙ sym (read j lt))

  pub gets-known : (m s : ℕ) → Gets circuit tree listed entries fits scoped apart m s → s < length circuit.signals
  gets-known m s (inl (inl own)) = own.0
  gets-known m s (inl (inr h)) = let w = given-out circuit tree listed entries m s h in subst (λ t. t < length circuit.signals) w.is (wire-known w.wire w.among)
  gets-known m s (inr h) = let w = chosen-out (wires_of circuit tree listed entries) (λ (v : Wire). v.consumer == m) s h in subst (λ t. t < length circuit.signals) w.is (wire-known w.wire w.among)

  chosen-once : (test : ℕ → Bool) → AllPairs (λ a b. a ≢ b) (signals_of (wires_of circuit tree listed entries) (filter test (range_with_len 0 (length (wires_of circuit tree listed entries)))))
  chosen-once test =
      AllPairs-map (λ a b. a ≢ b) (λ c. (wire_at (wires_of circuit tree listed entries) c).signal) (filter test (range_with_len 0 (length (wires_of circuit tree listed entries))))
      (AllPairs-filter (λ c d. (wire_at (wires_of circuit tree listed entries) c).signal ≢ (wire_at (wires_of circuit tree listed entries) d).signal) test (range_with_len 0 (length (wires_of circuit tree listed entries))) pairs)
    where
      number : (i d : ℕ) → i < length (wires_of circuit tree listed entries) → get_or (range_with_len 0 (length (wires_of circuit tree listed entries))) i d ≡ i
      number i d lt = get_or-range_with_len 0 (length (wires_of circuit tree listed entries)) i d lt ∙ (let same : 0 + i ≡ i = omega arith in same)

      signal : (i : ℕ) → i < length (wires_of circuit tree listed entries) → get_or (map (λ (w : Wire). w.signal) (wires_of circuit tree listed entries)) i 0 ≡ (wire_at (wires_of circuit tree listed entries) i).signal
      signal i lt = get_or-map (λ (w : Wire). w.signal) (wires_of circuit tree listed entries) i (wire 0 0 0) 0 lt

      pairs : AllPairs (λ c d. (wire_at (wires_of circuit tree listed entries) c).signal ≢ (wire_at (wires_of circuit tree listed entries) d).signal) (range_with_len 0 (length (wires_of circuit tree listed entries)))
      pairs i j d less lt same =
          let inside : j < length (wires_of circuit tree listed entries) = omega (arith, lt, length-range_with_len 0 (length (wires_of circuit tree listed entries))) in
          let low : i < length (wires_of circuit tree listed entries) = omega (arith, less, inside) in
          wires-once circuit tree listed entries fits scoped apart i j 0 less (omega (arith, inside, length-map (wires_of circuit tree listed entries) (λ (w : Wire). w.signal)))
          (signal i low ∙ ap (λ c. (wire_at (wires_of circuit tree listed entries) c).signal) (sym (number i d low)) ∙ same ∙ ap (λ c. (wire_at (wires_of circuit tree listed entries) c).signal) (number j d inside) ∙ sym (signal j inside))

  -- ---- the choice

  module _ (m : ℕ) (globals memories : List ℕ) (low : m < first_source listed) (signals : (s : ℕ) → Contains globals s ↔ Gets circuit tree listed entries fits scoped apart m s) (once : AllPairs (λ a b. a ≢ b) globals) (banks : (k : ℕ) → Contains memories k ↔ HasMemory tree listed m k) (memories-once : AllPairs (λ a b. a ≢ b) memories) where
    -- a signal that the machine has and doesn't take, it makes
    maker : (s : ℕ) → Contains globals s → ¬ Takes (wires_of circuit tree listed entries) m s → Makes circuit tree listed (wires_of circuit tree listed entries) m s
    maker s h not-taken = by ((signals s).0 h)
      where
        by : Gets circuit tree listed entries fits scoped apart m s → Makes circuit tree listed (wires_of circuit tree listed entries) m s
        by (inl makes) = makes
        by (inr takes) = absurd (not-taken takes)

    known : (s : ℕ) → Contains globals s → s < length circuit.signals
    known s h = gets-known m s ((signals s).0 h)

    reads : (s k : ℕ) (driver : Driver) → driver_at circuit s ≡ driver → NamesMemory driver k → s < length circuit.signals → (r : ℕ) × IsDataOf circuit k r s
    reads s k (Input place) e named lt = absurd named
    reads s k (Held register) e named lt = absurd named
    reads s k (MemoryWord memory r addr en) e named lt = (r, subst (λ n. IsDataOf circuit n r s) named (subst (MayDrive circuit s) e (formed.drivers s lt)))
    reads s k (ReadRegister memory r) e named lt = (r, subst (λ n. IsDataOf circuit n r s) named (subst (MayDrive circuit s) e (formed.drivers s lt)))
    reads s k (Computed line) e named lt = absurd named

    bank : (s k : ℕ) → Contains globals s → ¬ Takes (wires_of circuit tree listed entries) m s → NamesMemory (driver_at circuit s) k → Contains memories k
    bank s k h not-taken read =
        let word = reads s k (driver_at circuit s) refl read (known s h) in
        let at = place-of-memory circuit tree listed formed fits scoped apart k (reader-known circuit tree listed formed fits scoped apart k word.0 word.1.0) in
        let same : (memory_at tree at.place).memory ≡ k = at.holds (record { instance = 0; memory = 0; ports = []; clocks = [] }) in
        (banks k).1
        (subst (λ n. HasMemory tree listed m n) same
        (banks-closed circuit tree listed entries formed fits scoped apart m s at.place word.0 (maker s h not-taken) at.within (subst (λ n. IsDataOf circuit n word.0 s) (sym same) word.1)))

    field-of : (k s : ℕ) → Contains memories k → Contains (memory_fields circuit k) s → Contains globals s
    field-of k s h field =
        let has = (banks k).0 h in
        let own : IsFieldOf circuit tree has.place s = subst (λ n. Contains (memory_fields circuit n) s) (sym has.is) field in
        let lt = innermost-known circuit tree fits (memory_at tree has.place).instance s (scoped.fields has.place s has.known own).own in
        (signals s).1 (fields-closed circuit tree listed entries formed fits scoped apart m k s has field lt)

    pub choice : IsChoice circuit globals (signals_of (wires_of circuit tree listed entries) (channels_to (wires_of circuit tree listed entries) m)) (givens_of (wires_of circuit tree listed entries) (channels_from (wires_of circuit tree listed entries) m)) memories
    choice =
        record {
          within = λ i d lt. known (get_or globals i d) (Contains-get_or globals i d lt);
          once = once;
          ins_once = chosen-once (λ c. (wire_at (wires_of circuit tree listed entries) c).consumer == m);
          ins = λ i d lt. (signals (get_or taken i d)).1 (inr (Contains-get_or taken i d lt));
          outs = λ i d lt. (signals (get_or exits i d)).1 (inl (inr (Contains-get_or exits i d lt)));
          given = λ s place e h. given s place e (known s h) ((signals s).0 h);
          closed = λ s t h not-taken named. (signals t).1 (closed circuit tree listed entries formed fits scoped apart m s t low (maker s h not-taken) named);
          registers = λ s r t register h not-taken held found named. (signals t).1 (register-closed circuit tree listed entries formed fits scoped apart m s r t register low (maker s h not-taken) held found named);
          memory_within = λ i d lt. memory-within (get_or memories i d) (Contains-get_or memories i d lt);
          memories_once = memories-once;
          banks = bank;
          fields = field-of;
          answers = λ k r h lt. words-made circuit tree listed entries formed fits scoped apart m k r ((banks k).0 h) lt;
        }
      where
        taken : List ℕ
        taken = signals_of (wires_of circuit tree listed entries) (channels_to (wires_of circuit tree listed entries) m)

        exits : List ℕ
        exits = givens_of (wires_of circuit tree listed entries) (channels_from (wires_of circuit tree listed entries) m)

        given : (s place : ℕ) → driver_at circuit s ≡ Input place → s < length circuit.signals → Gets circuit tree listed entries fits scoped apart m s → Takes (wires_of circuit tree listed entries) m s
        given s place e lt (inl makes) = absurd (input-taken circuit tree listed entries formed fits scoped apart m s place low lt e makes)
        given s place e lt (inr takes) = takes

        memory-within : (k : ℕ) → Contains memories k → k < length circuit.memories
        memory-within k h = let has = (banks k).0 h in subst (λ n. n < length circuit.memories) has.is (memory-known circuit tree formed fits has.place has.known)
