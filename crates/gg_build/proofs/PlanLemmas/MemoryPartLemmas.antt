-- The part of a listed memory: its memory, whose fields are just its in-signals and its out-signals.
use Rattle.std.proofs.Common.{◌≡◌, ◌≢◌, ℕ, ◌+◌, ◌-◌, ◌<◌, ◌≤◌, List, [], ◌∷◌, ◌++◌, length, map, get_or, Bool, true, refl, sym, ◌∙◌, ap, ap₂, subst, inl, inr, ◌⊎◌, arith}
use Rattle.std.specs.Prelude.{All, AllPairs, Contains, ◌==◌, ◌&&◌, ◌||◌, nat_le}
use Rattle.std.proofs.lemmas.Bool.{le-leb, lt-ltb}
use Rattle.std.proofs.lemmas.List.{length-map, get_or-map}
use Rattle.std.proofs.lemmas.List.Elements.{Contains-append_left, Contains-append_right, Contains-get_or}
use Rattle.gg_flat.specs.declared.memory.Reader.{Reader}
use Rattle.gg_flat.specs.declared.memory.Writer.{Writer}
use Rattle.gg_flat.specs.declared.memory.Memory.{Memory}
use Rattle.gg_flat.specs.Line.{value_at}
use Rattle.gg_flat.specs.Circuit.{readers_at}
use Rattle.gg_flat_tree.specs.Tree.{memory_at}
use Rattle.gg_flat_tree.specs.Scoped.{writers_at}
use Rattle.gg_flat.proofs.ListLemmas.{Contains-map}
use Rattle.gg_part.specs.KeepsToTree.{KeepsToTree}
use Rattle.gg_order.specs.Design.{Ordered, IsDesign}
use Rattle.gg_partfile.specs.declared.request.Request.{Request}
use Rattle.gg_part.specs.Part.{IsMemoryFrom, MemoryBelow, in_whole}
use Rattle.gg_part.specs.declared.part.Part.{Part}
use Rattle.gg_cut_plan.specs.declared.wires.Wire.{Wire as Link}
use Rattle.gg_cut_plan.specs.Listed.{listed_of, first_place, unit_or_hub, memory_or, has_signal, owner_of, owner_of_instance}
use Rattle.gg_cut_plan.specs.Machines.{first_memory, first_source}
use Rattle.gg_cut_plan.specs.Ports.{first_bridge}
use Rattle.gg_cut_plan.specs.Channels.{wire, flattened, reader_wires, writer_wires, wires_of}
use Rattle.gg_cut_plan.specs.Direct.{is_piped, plan_hub}
use Rattle.gg_cut_plan.specs.Plan.{wire_at as link_at, channels_to, channels_from, signals_of, givens_of, IsInner, MakesBy, Takes, HasMemory, IsCutPart}
use Rattle.gg_cut_plan.proofs.WireLemmas.{unit-below, unit_or_hub-below}
use Rattle.gg_cut_split.specs.inside.Apart.{AreApart, AreFew}
use Rattle.gg_cut_split.proofs.ClosedLemmas.ListLemmas.{Somewhere, map-cases, flattened-in, AllPairs-append, AllPairs-map}
use Rattle.gg_cut_split.proofs.ClosedLemmas.KindLemmas.{outside_memory, in-fields}
use Rattle.gg_cut_split.proofs.ClosedLemmas.MakerLemmas.{find-unit, no-field-place, out-owner, takes}
use Rattle.gg_cut_split.proofs.ClosedLemmas.WrittenLemmas.{inner-plain}
use Rattle.gg_cut_split.proofs.ClosedLemmas.ClosedLemmas.{owner-listed, owner-unlisted}
use Rattle.gg_cut_routes.specs.inside.Routes.{AreRoutes}
use Rattle.gg_cut_routes.proofs.RouteLemmas.{IsBase}
use Rattle.gg_cut_routes.proofs.PlanLemmas.{plan-base}
use Rattle.gg_cut_routes.proofs.UnitLemmas.{ins-still}
use Rattle.gg_memunit.proofs.UnitLemmas.{sole}
use Rattle.gg_build.specs.inside.Given.{cut_of}
use Rattle.gg_build.proofs.PlanLemmas.NumberLemmas.{numbers-once, one-in, one-is}
use Rattle.gg_build.proofs.PlanLemmas.ListedLemmas.{taken-is, given-is}
use Rattle.gg_build.proofs.PlanLemmas.SideLemmas.{link-one}
use Rattle.gg_build.proofs.PlanLemmas.StillLemmas.{words-still, memory-plain}
use Rattle.gg_build.proofs.PlanLemmas.WordLemmas.{memory-gives, memory-few}
use Rattle.gg_build.proofs.PlanLemmas.BackLemmas.{distinct-back, contains-back, words-back}
use Rattle.gg_flat.specs.Renaming.{renamed_memory, renamed_reader, renamed_writer}

-- The fields of a reader that go to the memory are among these signals, and those of a writer too.
abbrev pub ReaderAmong : List ℕ → Reader → Type 0
ReaderAmong ins reader = Contains ins reader.addr × Contains ins reader.en

abbrev pub WriterAmong : List ℕ → Writer → Type 0
WriterAmong ins writer = Contains ins writer.addr × Contains ins writer.en × Contains ins writer.word × Contains ins writer.mask

-- A part with this memory alone: what goes to the memory is just the in-signals, and what it gives, in order, the out-signals.
-- There are no other signals, and each is there once.
pub record IsMemoryPart (part : Part) (memory : Memory) : Type 0 where
  pub count : length part.memories ≡ 1
  pub only : part.piece.memories ≡ memory ∷ []
  pub below : MemoryBelow (length part.globals) memory
  pub looks : All (ReaderAmong part.piece.ins) memory.readers
  pub writes : All (WriterAmong part.piece.ins) memory.writers
  pub words : part.piece.outs ≡ map (λ (reader : Reader). reader.word) memory.readers
  pub few : length memory.readers + length memory.writers ≤ 16384
  pub sides : (s : ℕ) → s < length part.globals → Contains (part.piece.ins ++ part.piece.outs) s
  pub ins_once : AllPairs (λ a b. a ≢ b) part.piece.ins
  pub once : AllPairs (λ a b. a ≢ b) (part.piece.ins ++ part.piece.outs)

module _ (design : Ordered) (request : Request) (m : ℕ) (part : Part) (is : IsDesign design) (keeps : KeepsToTree design.circuit design.tree) (apart : AreApart design.tree (listed_of design.tree request)) (routed : AreRoutes design (listed_of design.tree request) request.bridges (plan_hub design.circuit design.tree request))
    (low : first_memory (listed_of design.tree request) ≤ m) (high : m < first_source (listed_of design.tree request)) (cut : IsCutPart design (listed_of design.tree request) (plan_hub design.circuit design.tree request) m part) where
  open design use {circuit, tree}
  open cut_of design request use {listed, hub, bridges as b, wires as links}

  -- the channels before the routing
  abbrev plain : List Link
  plain = wires_of circuit tree listed request.bridges

  abbrev i : ℕ
  i = m - first_memory listed

  abbrev own : ℕ
  own = (memory_at tree (value_at listed.memories i)).memory

  base : IsBase hub
  base = plan-base design listed (is_piped circuit request) request.bridges request.direct is keeps apart

  -- it is a listed memory, and not the hub
  is-quiet : hub.silent m ≡ true
  is-quiet = ap₂ (λ (a c : Bool). (a && c) || nat_le (first_bridge b) m) (le-leb (first_memory listed) m low) (lt-ltb m (first_source listed) high)

  no-hub : m ≢ 0
  no-hub same = omega (arith, same, low)

  there : i < length listed.memories
  there = omega (arith, low, high)

  number : first_memory listed + i ≡ m
  number = omega (arith, low)

  -- out-signals are the hub's or a unit's
  outputs-apart : (k : ℕ) → k < length circuit.outs → owner_of circuit tree listed (value_at circuit.outs k) ≢ m
  outputs-apart k lt same = omega (arith, same, out-owner circuit tree listed keeps.fitting keeps.scoped apart k lt, low)

  -- ---- the memory

  has : HasMemory tree listed m own
  has = record { place = value_at listed.memories i; known = apart.memories i 0 there; is = refl; owner = owner-listed circuit tree listed is.formed keeps.fitting keeps.scoped apart i there ∙ number }

  own-only : (k : ℕ) → HasMemory tree listed m k → k ≡ own
  own-only k h = by (find-unit listed.memories h.place)
    where
      by : Somewhere (λ j. h.place ≡ j) listed.memories ⊎ All (λ j. h.place ≢ j) listed.memories → k ≡ own
      by (inl at) =
          let to : first_memory listed + at.place ≡ m = sym (owner-listed circuit tree listed is.formed keeps.fitting keeps.scoped apart at.place at.within) ∙ ap (λ j. memory_or (length listed.units) (owner_of_instance tree listed.units (memory_at tree j).instance) (first_place (λ d. d == j) listed.memories)) (sym (at.holds 0)) ∙ h.owner in
          let same : at.place ≡ i = omega (arith, to, number) in
          sym h.is ∙ ap (λ j. (memory_at tree j).memory) (at.holds 0 ∙ ap (value_at listed.memories) same)
      by (inr none) =
          let to = sym (owner-unlisted circuit tree listed is.formed keeps.fitting keeps.scoped apart h.place (λ j d lt same. none j d lt (sym same))) ∙ h.owner in
          let below = unit_or_hub-below tree listed.units (memory_at tree h.place).instance in
          absurd (omega (arith, to, below, low))

  count : length part.memories ≡ 1
  count = one-in part.memories own cut.is.memories_once ((cut.memories own).1 has) (λ k h. own-only k ((cut.memories k).0 h))

  first : value_at part.memories 0 ≡ own
  first = one-is part.memories own count ((cut.memories own).1 has)

  -- ---- the signals

  in-low : (k : ℕ) → k < length part.piece.ins → value_at part.piece.ins k < length part.globals
  in-low k lt = (cut.is.ins k lt).0

  in-part : (s : ℕ) → s < length part.globals → Takes links m (value_at part.globals s) → Contains part.piece.ins s
  in-part s lt h = contains-back part.globals cut.is.once part.piece.ins (signals_of links (channels_to links m)) s in-low cut.ins lt h

  -- no signal without a channel belongs to the memory
  inner-low : (s : ℕ) → IsInner plain s → owner_of circuit tree listed s < first_memory listed
  inner-low s inner =
      let other = unit_or_hub (first_place (has_signal tree s) listed.units) in
      let none = ap (memory_or (length listed.units) other) (no-field-place circuit tree listed s (inner-plain circuit tree listed request.bridges keeps.fitting keeps.scoped apart s inner)) in
      let below = unit-below (has_signal tree s) listed.units in
      omega (arith, none, below)

  sides : (s : ℕ) → s < length part.globals → Contains (part.piece.ins ++ part.piece.outs) s
  sides s lt = by ((cut.signals (value_at part.globals s)).0 (Contains-get_or part.globals s 0 lt))
    where
      by : MakesBy hub m (value_at part.globals s) ⊎ Takes links m (value_at part.globals s) → Contains (part.piece.ins ++ part.piece.outs) s
      by (inl (inl inner)) = let below = inner-low (value_at part.globals s) inner.2 in absurd (omega (arith, below, inner.1, low))
      by (inl (inr gives)) = Contains-append_right part.piece.ins part.piece.outs s (contains-back part.globals cut.is.once part.piece.outs (givens_of links (channels_from links m)) s cut.is.outs cut.outs lt gives)
      by (inr taken) = Contains-append_left part.piece.ins part.piece.outs s (in-part s lt taken)

  -- the out-signals are the signals of the channels that the machine gives
  outs-are : map (value_at part.globals) part.piece.outs ≡ signals_of links (channels_from links m)
  outs-are = cut.outs ∙ memory-plain hub base m is-quiet no-hub

  ins-once : AllPairs (λ a b. a ≢ b) part.piece.ins
  ins-once =
      let channels = channels_to links m in
      distinct-back (value_at part.globals) part.piece.ins (signals_of links channels) cut.ins
      (AllPairs-map (λ a b. a ≢ b) (λ c. (link_at links c).signal) channels (λ j k d less lt same.
      let a = (taken-is links m (get_or channels j d) (Contains-get_or channels j d (omega (arith, less, lt)))).known in
      let b = (taken-is links m (get_or channels k d) (Contains-get_or channels k d lt)).known in
      numbers-once (λ c. (link_at links c).consumer == m) (length links) j k d less lt (link-one links (get_or channels j d) (get_or channels k d) routed.once a b same)))

  outs-once : AllPairs (λ a b. a ≢ b) part.piece.outs
  outs-once =
      let channels = channels_from links m in
      distinct-back (value_at part.globals) part.piece.outs (signals_of links channels) outs-are
      (AllPairs-map (λ a b. a ≢ b) (λ c. (link_at links c).signal) channels (λ j k d less lt same.
      let a = (given-is links m (get_or channels j d) (Contains-get_or channels j d (omega (arith, less, lt)))).known in
      let b = (given-is links m (get_or channels k d) (Contains-get_or channels k d lt)).known in
      numbers-once (λ c. (link_at links c).producer == m) (length links) j k d less lt (link-one links (get_or channels j d) (get_or channels k d) routed.once a b same)))

  -- the machine doesn't take what it gives
  cross : (x y : ℕ) → Contains part.piece.ins x → Contains part.piece.outs y → x ≢ y
  cross x y p q same =
      let to = channels_to links m in
      let from = channels_from links m in
      let c = map-cases (λ k. (link_at links k).signal) to (value_at part.globals x) (subst (λ (l : List ℕ). Contains l (value_at part.globals x)) cut.ins (Contains-map (value_at part.globals) part.piece.ins x p)) in
      let d = map-cases (λ k. (link_at links k).given) from (value_at part.globals y) (subst (λ (l : List ℕ). Contains l (value_at part.globals y)) cut.outs (Contains-map (value_at part.globals) part.piece.outs y q)) in
      let taken = taken-is links m (get_or to c.place 0) (Contains-get_or to c.place 0 c.within) in
      let given = given-is links m (get_or from d.place 0) (Contains-get_or from d.place 0 d.within) in
      let r = link_at links (get_or from d.place 0) in
      let w = link_at links (get_or to c.place 0) in
      routed.no_echo r w (Contains-get_or links (get_or from d.place 0) (wire 0 0 0) given.known) (Contains-get_or links (get_or to c.place 0) (wire 0 0 0) taken.known) (given.producer ∙ sym taken.consumer)
      (d.holds 0 ∙ ap (value_at part.globals) (sym same) ∙ sym (c.holds 0))

  once : AllPairs (λ a b. a ≢ b) (part.piece.ins ++ part.piece.outs)
  once = AllPairs-append (λ a b. a ≢ b) part.piece.ins part.piece.outs ins-once outs-once cross

  -- ---- the memory's fields

  module _ (memory : Memory) (only : part.piece.memories ≡ memory ∷ []) where
    from : IsMemoryFrom circuit part.piece part.globals part.memories part.clocks 0
    from = cut.is.memory_from 0 (omega (arith, count))

    pub known : own < length circuit.memories
    known = subst (λ k. k < length circuit.memories) first from.within

    pub whole : get_or circuit.memories own memory ≡ renamed_memory (in_whole part.globals part.clocks) memory
    whole =
        ap (λ k. get_or circuit.memories k memory) (sym first)
        ∙ from.is memory memory
        ∙ ap (λ (l : List Memory). renamed_memory (in_whole part.globals part.clocks) (get_or l 0 memory)) only

    readers : readers_at circuit own ≡ map (renamed_reader (in_whole part.globals part.clocks)) memory.readers
    readers = get_or-map (λ (x : Memory). x.readers) circuit.memories own memory [] known ∙ ap (λ (x : Memory). x.readers) whole

    writers : writers_at circuit own ≡ map (renamed_writer (in_whole part.globals part.clocks)) memory.writers
    writers = get_or-map (λ (x : Memory). x.writers) circuit.memories own memory [] known ∙ ap (λ (x : Memory). x.writers) whole

    below : MemoryBelow (length part.globals) memory
    below = subst (λ (l : List Memory). MemoryBelow (length part.globals) (get_or l 0 memory)) only (from.below memory)

    abbrev outside : ℕ
    outside = outside_memory tree listed i

    abbrev from_readers : List Link
    from_readers = flattened (reader_wires outside (first_memory listed + i)) (readers_at circuit own)

    abbrev from_writers : List Link
    from_writers = flattened (writer_wires outside (first_memory listed + i)) (writers_at circuit own)

    reader-link : (r : ℕ) (any : Reader) (w : Link) → r < length memory.readers → Contains (reader_wires outside (first_memory listed + i) (renamed_reader (in_whole part.globals part.clocks) (get_or memory.readers r any))) w → Contains plain w
    reader-link r any w lt h =
        let rename = renamed_reader (in_whole part.globals part.clocks) in
        let inside : r < length (readers_at circuit own) = omega (arith, lt, ap length readers, length-map memory.readers rename) in
        let at : get_or (readers_at circuit own) r (rename any) ≡ rename (get_or memory.readers r any) = ap (λ (l : List Reader). get_or l r (rename any)) readers ∙ get_or-map rename memory.readers r any (rename any) lt in
        in-fields circuit tree listed request.bridges i w there
        (Contains-append_left from_readers from_writers w
        (flattened-in (reader_wires outside (first_memory listed + i)) (readers_at circuit own) r (rename any) w inside
        (subst (λ (x : Reader). Contains (reader_wires outside (first_memory listed + i) x) w) (sym at) h)))

    writer-link : (r : ℕ) (any : Writer) (w : Link) → r < length memory.writers → Contains (writer_wires outside (first_memory listed + i) (renamed_writer (in_whole part.globals part.clocks) (get_or memory.writers r any))) w → Contains plain w
    writer-link r any w lt h =
        let rename = renamed_writer (in_whole part.globals part.clocks) in
        let inside : r < length (writers_at circuit own) = omega (arith, lt, ap length writers, length-map memory.writers rename) in
        let at : get_or (writers_at circuit own) r (rename any) ≡ rename (get_or memory.writers r any) = ap (λ (l : List Writer). get_or l r (rename any)) writers ∙ get_or-map rename memory.writers r any (rename any) lt in
        in-fields circuit tree listed request.bridges i w there
        (Contains-append_right from_readers from_writers w
        (flattened-in (writer_wires outside (first_memory listed + i)) (writers_at circuit own) r (rename any) w inside
        (subst (λ (x : Writer). Contains (writer_wires outside (first_memory listed + i) x) w) (sym at) h)))

    -- a field that goes to the memory is an in-signal
    to-part : (s : ℕ) → s < length part.globals → Contains plain (wire (value_at part.globals s) outside (first_memory listed + i)) → Contains part.piece.ins s
    to-part s lt h =
        in-part s lt (subst (λ (l : List ℕ). Contains l (value_at part.globals s)) (sym (ins-still hub base m no-hub))
        (subst (λ k. Takes plain k (value_at part.globals s)) number (takes circuit tree listed request.bridges keeps.fitting keeps.scoped apart (value_at part.globals s) outside (first_memory listed + i) h)))

    looks : All (ReaderAmong part.piece.ins) memory.readers
    looks r any lt =
        let reader = get_or memory.readers r any in
        let at = below.readers r any lt in (
          to-part reader.addr at.0 (reader-link r any (wire (value_at part.globals reader.addr) outside (first_memory listed + i)) lt (0, omega arith, refl)),
          to-part reader.en at.1 (reader-link r any (wire (value_at part.globals reader.en) outside (first_memory listed + i)) lt (1, omega arith, refl)),
        )

    writes : All (WriterAmong part.piece.ins) memory.writers
    writes r any lt =
        let writer = get_or memory.writers r any in
        let at = below.writers r any lt in (
          to-part writer.addr at.0 (writer-link r any (wire (value_at part.globals writer.addr) outside (first_memory listed + i)) lt (0, omega arith, refl)),
          to-part writer.en at.1 (writer-link r any (wire (value_at part.globals writer.en) outside (first_memory listed + i)) lt (1, omega arith, refl)),
          to-part writer.word at.2 (writer-link r any (wire (value_at part.globals writer.word) outside (first_memory listed + i)) lt (2, omega arith, refl)),
          to-part writer.mask at.3 (writer-link r any (wire (value_at part.globals writer.mask) outside (first_memory listed + i)) lt (3, omega arith, refl)),
        )

    words : part.piece.outs ≡ map (λ (reader : Reader). reader.word) memory.readers
    words =
        words-back part.globals cut.is.once part.clocks part.piece.outs memory.readers cut.is.outs below.readers
        (outs-are ∙ words-still hub base m is-quiet no-hub ∙ memory-gives circuit tree listed request.bridges m i there number outputs-apart ∙ ap (map (λ (reader : Reader). reader.word)) readers)

    few : AreFew circuit tree request → length memory.readers + length memory.writers ≤ 16384
    few are =
        let channels = are.channels in
        let ports = memory-few circuit tree listed (is_piped circuit request) request.bridges request.direct base i there in
        let reads : length (readers_at circuit own) ≡ length memory.readers = ap length readers ∙ length-map memory.readers (renamed_reader (in_whole part.globals part.clocks)) in
        let writes : length (writers_at circuit own) ≡ length memory.writers = ap length writers ∙ length-map memory.writers (renamed_writer (in_whole part.globals part.clocks)) in
        omega (arith, channels, ports, reads, writes)

  pub memory-part : AreFew circuit tree request → (memory : Memory) × IsMemoryPart part memory
  memory-part are =
      let found = sole part.piece.memories (cut.is.memory_count ∙ count) in
      let memory = found.0 in
      let only = found.1 in (
        memory,
        record {
          count = count;
          only = only;
          below = below memory only;
          looks = looks memory only;
          writes = writes memory only;
          words = words memory only;
          few = few memory only are;
          sides = sides;
          ins_once = ins-once;
          once = once;
        },
      )
