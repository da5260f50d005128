-- A part of a well-formed circuit is well formed.
use Rattle.std.proofs.Common.{◌≡◌, ◌≢◌, ℕ, ◌<◌, List, [], length, map, get_or, refl, sym, ◌∙◌, ap, ap₂, subst, arith}
use Rattle.std.specs.Prelude.{Option, None, AllPairs}
use Rattle.std.proofs.lemmas.List.{get_or-map, length-map}
use Rattle.gg_bits.specs.Shape.{Shape, shape, uint}
use Rattle.gg_flat.specs.declared.line.Node.{Node}
use Rattle.gg_flat.specs.declared.memory.Latency.{Latency}
use Rattle.gg_flat.specs.declared.memory.Latency.TheVariants.{Zero, One as Late}
use Rattle.gg_flat.specs.declared.memory.Reader.{Reader}
use Rattle.gg_flat.specs.declared.memory.Memory.{Memory}
use Rattle.gg_flat.specs.declared.piece.Register.{Register}
use Rattle.gg_flat.specs.declared.piece.Driver.{Driver}
use Rattle.gg_flat.specs.declared.piece.Driver.TheVariants.{Input, Held, MemoryWord, ReadRegister, Computed}
use Rattle.gg_flat.specs.Line.{value_at, shape_at, HasType, IsSource}
use Rattle.gg_flat.specs.Circuit.{FlatCircuit, signal_shapes, driver_at, readers_at, latency_at, reader_at}
use Rattle.gg_flat_tree.specs.Tree.{path_at}
use Rattle.gg_flat.specs.WellFormed.{IsDataOf, MayDrive, IsRegister, IsMemory, IsClock, IsClockedMemory, IsWellFormed, reader_driver}
use Rattle.gg_flat.proofs.ListLemmas.{some-item, once-apart}
use Rattle.gg_part.specs.Part.{IsPart, IsFrom, in_whole, NamesBelow, RegisterBelow, MemoryBelow}
use Rattle.gg_part.specs.inside.Part.{ReadsAmong}
use Rattle.gg_flat.proofs.RenamedLineLaws.{IsTypedBack, source-back}
use Rattle.gg_flat.proofs.RenamedLaws.{register-back, memory-back, memory-weaken}
use Rattle.gg_part.proofs.RunLemmas.{shape-part, length-shapes}
use Rattle.gg_flat.specs.Renaming.{renamed_line, renamed_memory, renamed_reader, renamed_register}

module _ (whole part : FlatCircuit) (globals held memories : List ℕ) (clocks : List (Option ℕ)) (is : IsPart whole part globals held memories clocks) where
  type-part : (s : ℕ) (to : Shape) → s < length globals → HasType (signal_shapes whole) (value_at globals s) to → HasType (signal_shapes part) s to
  type-part s to lt typed = (omega (arith, lt, length-shapes whole part globals held memories clocks is), shape-part whole part globals held memories clocks is s lt ∙ typed.1)

  -- what is a signal of the whole of some shape is one of the part
  typed-back : (s : ℕ) → s < length globals → IsTypedBack (value_at globals) (HasType (signal_shapes part)) (HasType (signal_shapes whole)) s
  typed-back s lt to typed = type-part s to lt typed

  source-part : (sink : Shape) (line : List Node) → NamesBelow (length globals) line → IsSource (HasType (signal_shapes whole)) sink (renamed_line (value_at globals) line) → IsSource (HasType (signal_shapes part)) sink line
  source-part sink line below source =
      source-back (value_at globals) (HasType (signal_shapes part)) (HasType (signal_shapes whole)) sink line (λ s named. typed-back s (below s named)) source

  register-part : (register : Register) → RegisterBelow (length globals) register → IsRegister (HasType (signal_shapes whole)) (renamed_register (in_whole globals clocks) register) → IsRegister (HasType (signal_shapes part)) register
  register-part register below typed =
      register-back (in_whole globals clocks) (HasType (signal_shapes part)) (HasType (signal_shapes whole)) register (λ s named. typed-back s (below s named)) typed

  memory-part : (memory : Memory) → MemoryBelow (length globals) memory → IsMemory (HasType (signal_shapes whole)) (renamed_memory (in_whole globals clocks) memory) → IsMemory (HasType (signal_shapes part)) memory
  memory-part memory below typed =
      memory-back (in_whole globals clocks) (HasType (signal_shapes part)) (HasType (signal_shapes whole)) memory
      (memory-weaken (λ s. s < length globals) (IsTypedBack (value_at globals) (HasType (signal_shapes part)) (HasType (signal_shapes whole))) memory typed-back below) typed

  readers-part : (m : ℕ) → m < length memories → readers_at whole (value_at memories m) ≡ map (λ reader. renamed_reader (in_whole globals clocks) reader) (readers_at part m)
  readers-part m lt =
      let within : m < length part.memories = omega (arith, lt, is.memory_count) in
      let some = some-item part.memories m within in
      let local = get_or part.memories m some in
      let at = is.memory_from m lt in
      get_or-map (λ (k : Memory). k.readers) whole.memories (value_at memories m) (renamed_memory (in_whole globals clocks) local) [] at.within
      ∙ ap (λ (k : Memory). k.readers) (at.is some (renamed_memory (in_whole globals clocks) local))
      ∙ ap (map (λ reader. renamed_reader (in_whole globals clocks) reader)) (sym (get_or-map (λ (k : Memory). k.readers) part.memories m some [] within))

  latency-part : (m : ℕ) → m < length memories → latency_at whole (value_at memories m) ≡ latency_at part m
  latency-part m lt =
      let within : m < length part.memories = omega (arith, lt, is.memory_count) in
      let some = some-item part.memories m within in
      let local = get_or part.memories m some in
      let at = is.memory_from m lt in
      get_or-map (λ (k : Memory). k.latency) whole.memories (value_at memories m) (renamed_memory (in_whole globals clocks) local) Zero at.within
      ∙ ap (λ (k : Memory). k.latency) (at.is some (renamed_memory (in_whole globals clocks) local))
      ∙ sym (get_or-map (λ (k : Memory). k.latency) part.memories m some Zero within)

  reader-among : (m r : ℕ) → m < length memories → r < length (readers_at part m) → ReadsAmong (length globals) (reader_at (readers_at part m) r)
  reader-among m r lt inside =
      let within : m < length part.memories = omega (arith, lt, is.memory_count) in
      let some = some-item part.memories m within in
      let same : readers_at part m ≡ (get_or part.memories m some).readers = get_or-map (λ (k : Memory). k.readers) part.memories m some [] within in
      subst (λ (l : List Reader). ReadsAmong (length globals) (reader_at l r)) (sym same) (((is.memory_from m lt).below some).readers r (record { addr = 0; en = 0; word = 0; clock = None }) (subst (λ (l : List Reader). r < length l) same inside))

  -- reader r of memory m, in the whole's numbers
  reader-renamed : (m r : ℕ) → m < length memories → r < length (readers_at part m) → reader_at (readers_at whole (value_at memories m)) r ≡ renamed_reader (in_whole globals clocks) (reader_at (readers_at part m) r)
  reader-renamed m r lt inside =
      ap (λ l. reader_at l r) (readers-part m lt) ∙ get_or-map (λ reader. renamed_reader (in_whole globals clocks) reader) (readers_at part m) r (record { addr = 0; en = 0; word = 0; clock = None }) (record { addr = 0; en = 0; word = 0; clock = None }) inside

  of-part : (m r s : ℕ) → m < length memories → s < length globals → IsDataOf whole (value_at memories m) r (value_at globals s) → IsDataOf part m r s
  of-part m r s lt known of =
      let inside : r < length (readers_at part m) = omega (arith, of.0, ap length (readers-part m lt), length-map (readers_at part m) (λ reader. renamed_reader (in_whole globals clocks) reader)) in
      let same : value_at globals (reader_at (readers_at part m) r).word ≡ value_at globals s = ap (λ (k : Reader). k.word) (sym (reader-renamed m r lt inside)) ∙ of.1 in
      (inside, once-apart globals 0 is.once (reader_at (readers_at part m) r).word s (reader-among m r lt inside).2 known same)

  -- ---- drivers

  drive-part : (s : ℕ) (outer inner : Driver) → s < length globals → IsFrom part.ins globals held memories s outer inner → MayDrive whole (value_at globals s) outer → MayDrive part s inner
  drive-part s outer (Input place) known from may = from
  drive-part s outer (Held r) known from may =
      let old = subst (MayDrive whole (value_at globals s)) from.1 may in
      let within : r < length part.registers = omega (arith, from.0, is.register_count) in
      let some = some-item part.registers r within in
      let local = get_or part.registers r some in
      let at = is.register_from r from.0 in (
        within,
        get_or-map (λ (x : Register). shape x.ty) part.registers r some (uint 0) within
            ∙ ap (λ (x : Register). shape x.ty) (sym (at.is some (renamed_register (in_whole globals clocks) local)))
            ∙ sym (get_or-map (λ (x : Register). shape x.ty) whole.registers (value_at held r) (renamed_register (in_whole globals clocks) local) (uint 0) at.within)
            ∙ old.1
            ∙ sym (shape-part whole part globals held memories clocks is s known),
      )
  drive-part s outer (MemoryWord m r addr en) known from may = of-part m r s from.0 known (subst (MayDrive whole (value_at globals s)) from.3 may)
  drive-part s outer (ReadRegister m r) known from may = of-part m r s from.0 known (subst (MayDrive whole (value_at globals s)) from.1 may)
  drive-part s outer (Computed line) known from may =
      let old = subst (MayDrive whole (value_at globals s)) from.1 may in
      subst (λ sink. IsSource (HasType (signal_shapes part)) sink line) (sym (shape-part whole part globals held memories clocks is s known)) (source-part (shape_at (signal_shapes whole) (value_at globals s)) line from.0 old)

  -- the driver of a reader's data, in the part
  driven-part : (m r s : ℕ) (latency : Latency) (reader : Reader) (inner : Driver) → m < length memories → ReadsAmong (length globals) reader → ((place : ℕ) → inner ≢ Input place) → IsFrom part.ins globals held memories s (reader_driver latency (value_at memories m) r (renamed_reader (in_whole globals clocks) reader)) inner → inner ≡ reader_driver latency m r reader
  driven-part m r s latency reader (Input place) lt among given from = absurd (given place refl)
  driven-part m r s Zero reader (Held k) lt among given from = absurd (held≢word from.1)
    where
      held≢word : {k m r a e : ℕ} {A : Type 0} → MemoryWord m r a e ≡ Held k → A
      held≢word e = absurd (cc)
  driven-part m r s (Late under) reader (Held k) lt among given from = absurd (held≢read from.1)
    where
      held≢read : {k m r : ℕ} {A : Type 0} → ReadRegister m r ≡ Held k → A
      held≢read e = absurd (cc)
  driven-part m r s Zero reader (MemoryWord m2 r2 addr en) lt among given from =
      let parts = word-parts from.3 in
      let memory : m2 ≡ m = once-apart memories 0 is.memories_once m2 m from.0 lt (sym parts.0) in
      let port : r2 ≡ r = sym parts.1 in
      let address : addr ≡ reader.addr = once-apart globals 0 is.once addr reader.addr from.1 among.0 (sym parts.2) in
      let enable : en ≡ reader.en = once-apart globals 0 is.once en reader.en from.2 among.1 (sym parts.3) in
      ap₂ (λ m r. MemoryWord m r addr en) memory port ∙ ap₂ (λ a e. MemoryWord m r a e) address enable
    where
      word-parts : {m r a e m2 r2 a2 e2 : ℕ} → MemoryWord m r a e ≡ MemoryWord m2 r2 a2 e2 → (m ≡ m2) × (r ≡ r2) × (a ≡ a2) × (e ≡ e2)
      word-parts e = (cc, cc, cc, cc)
  driven-part m r s (Late under) reader (MemoryWord m2 r2 addr en) lt among given from = absurd (cc)
  driven-part m r s Zero reader (ReadRegister m2 r2) lt among given from = absurd (cc)
  driven-part m r s (Late under) reader (ReadRegister m2 r2) lt among given from =
      let parts = read-parts from.1 in
      ap₂ ReadRegister (once-apart memories 0 is.memories_once m2 m from.0 lt (sym parts.0)) (sym parts.1)
    where
      read-parts : {m r m2 r2 : ℕ} → ReadRegister m r ≡ ReadRegister m2 r2 → (m ≡ m2) × (r ≡ r2)
      read-parts e = (cc, cc)
  driven-part m r s Zero reader (Computed line) lt among given from = absurd (cc)
  driven-part m r s (Late under) reader (Computed line) lt among given from = absurd (cc)

  -- ---- paths

  distinct-part : AllPairs (λ a b. a ≢ b) whole.paths → length whole.paths ≡ length whole.signals → AllPairs (λ a b. a ≢ b) (map (path_at whole.paths) globals)
  distinct-part distinct named i j d lt within same =
      let li : i < length globals = omega (arith, lt, within, length-map globals (path_at whole.paths)) in
      let lj : j < length globals = omega (arith, within, length-map globals (path_at whole.paths)) in
      let equal : path_at whole.paths (value_at globals i) ≡ path_at whole.paths (value_at globals j) =
      sym (get_or-map (path_at whole.paths) globals i 0 d li) ∙ same ∙ get_or-map (path_at whole.paths) globals j 0 d lj in
      let one : value_at globals i ≡ value_at globals j = once-apart whole.paths [] distinct (value_at globals i) (value_at globals j) (omega (arith, is.within i li, named)) (omega (arith, is.within j lj, named)) equal in
      let place : i ≡ j = once-apart globals 0 is.once i j li lj one in
      omega (arith, place, lt)

pub IsWellFormed-part : (whole part : FlatCircuit) (globals held memories : List ℕ) (clocks : List (Option ℕ)) → IsWellFormed whole → IsPart whole part globals held memories clocks → IsWellFormed part
IsWellFormed-part whole part globals held memories clocks formed is =
    record {
      named = ap length is.paths ∙ length-map globals (path_at whole.paths) ∙ sym is.count;
      distinct = subst (λ (l : List (List ℕ)). AllPairs (λ a b. a ≢ b) l) (sym is.paths) (distinct-part whole part globals held memories clocks is formed.distinct formed.named);
      drivers = λ s lt.
          let known : s < length globals = omega (arith, lt, is.count) in
          drive-part whole part globals held memories clocks is s (driver_at whole (value_at globals s)) (driver_at part s) known (is.drivers s known) (formed.drivers (value_at globals s) (is.within s known));
      ins = λ place lt. let at = is.ins place lt in (omega (arith, at.0, is.count), at.1);
      outs = λ place lt. omega (arith, is.outs place lt, is.count);
      registers = λ r d lt.
          let known : r < length held = omega (arith, lt, is.register_count) in
          let at = is.register_from r known in
          let local = get_or part.registers r d in
          let old = subst (IsRegister (HasType (signal_shapes whole))) (at.is d (renamed_register (in_whole globals clocks) local)) (formed.registers (value_at held r) (renamed_register (in_whole globals clocks) local) at.within) in
          register-part whole part globals held memories clocks is local (at.below d) old;
      register_clocks = λ r d lt.
          let known : r < length held = omega (arith, lt, is.register_count) in
          subst (λ n. IsClock n (get_or part.registers r d).clock) (sym is.clock_count) ((is.register_from r known).clocked d);
      memory_clocks = λ m d lt.
          let known : m < length memories = omega (arith, lt, is.memory_count) in
          subst (λ n. IsClockedMemory n (get_or part.memories m d)) (sym is.clock_count) ((is.memory_from m known).clocked d);
      memories = λ m d lt.
          let known : m < length memories = omega (arith, lt, is.memory_count) in
          let at = is.memory_from m known in
          let local = get_or part.memories m d in
          let old = subst (IsMemory (HasType (signal_shapes whole))) (at.is d (renamed_memory (in_whole globals clocks) local)) (formed.memories (value_at memories m) (renamed_memory (in_whole globals clocks) local) at.within) in
          memory-part whole part globals held memories clocks is local (at.below d) old;
      reads = λ m lt r inside.
          let known : m < length memories = omega (arith, lt, is.memory_count) in
          let at = is.memory_from m known in
          let reader = reader_at (readers_at part m) r in
          let among = reader-among whole part globals held memories clocks is m r known inside in
          let renamed = reader-renamed whole part globals held memories clocks is m r known inside in
          let count : length (readers_at whole (value_at memories m)) ≡ length (readers_at part m) =
          ap length (readers-part whole part globals held memories clocks is m known) ∙ length-map (readers_at part m) (λ reader. renamed_reader (in_whole globals clocks) reader) in
          let old : driver_at whole (value_at globals reader.word) ≡ reader_driver (latency_at part m) (value_at memories m) r (renamed_reader (in_whole globals clocks) reader) =
          ap (λ (k : Reader). driver_at whole k.word) (sym renamed)
          ∙ formed.reads (value_at memories m) at.within r (omega (arith, inside, count))
          ∙ ap₂ (λ latency reader. reader_driver latency (value_at memories m) r reader) (latency-part whole part globals held memories clocks is m known) renamed in
          driven-part whole part globals held memories clocks is m r reader.word (latency_at part m) reader (driver_at part reader.word) known among (λ place. at.given r place inside)
          (subst (λ outer. IsFrom part.ins globals held memories reader.word outer (driver_at part reader.word)) old (is.drivers reader.word among.2));
    }
