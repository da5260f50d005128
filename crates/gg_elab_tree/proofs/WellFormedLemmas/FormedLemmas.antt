-- The flat circuit of a circuit is well formed, if its lines and registers fit and no two paths are the same.
use Rattle.std.proofs.Common.{◌≡◌, ◌⊎◌, inl, inr, ℕ, zero, suc, ◌<◌, List, [], ◌∷◌, ◌++◌, None, length, get_or, map, refl, sym, ap, ◌∙◌, subst, subst₂, arith, codes}
use Rattle.std.specs.Prelude.{All, Contains, flat_map, filter_map}
use Rattle.std.proofs.lemmas.List.{length-map, get_or-map}
use Rattle.std.proofs.lemmas.List.Elements.{Contains-append_cases, Contains-append_left, Contains-append_right}
use Rattle.gg_bits.specs.Shape.{Shape, shape, uint}
use Rattle.gg_ast.specs.declared.module.Direction.TheVariants as direction
use Rattle.gg_ast.specs.declared.statement.Stmt.{Stmt}
use Rattle.gg_ast.specs.Tree.{ModuleTree}
use Rattle.gg_flat.specs.declared.memory.Latency.{Latency}
use Rattle.gg_flat.specs.declared.memory.Latency.TheVariants.{Zero}
use Rattle.gg_flat.specs.declared.memory.Memory.{Memory}
use Rattle.gg_flat.specs.declared.memory.Reader.{Reader}
use Rattle.gg_flat.specs.declared.piece.Driver.TheVariants.{Input, Computed}
use Rattle.gg_flat.specs.declared.piece.Register.{Register}
use Rattle.gg_flat.specs.declared.piece.Signal.{Signal}
use Rattle.gg_flat.specs.Circuit.{FlatCircuit, signal_shapes, driver_at, readers_at, latency_at, reader_at}
use Rattle.gg_flat.specs.Line.{shape_at, value_at, HasType}
use Rattle.gg_flat.specs.Memory.{address_width}
use Rattle.gg_flat_tree.specs.Tree.{joined}
use Rattle.gg_flat.specs.WellFormed.{IsDataOf, MayDrive, IsReader, IsWriter, IsMemory, reader_driver, AreDriven, IsWellFormed}
use Rattle.gg_flat.proofs.ListLemmas.{Contains-map}
use Rattle.gg_elab_sites.specs.Sites.{Site, top_site, module_at, all_sites, sites}
use Rattle.gg_elab_tree.specs.inside.Fitting.{FitsDriver, AreFitting}
use Rattle.gg_elab_sites.specs.Flat.{Drive, Outside, Gets, Holds, Answers, drive_of, FlatSignal, flat_signal, signals_at, flat_signals, FlatMemory, flat_memory, memories_at, flat_memories, stop_paths, stop_paths_at}
use Rattle.gg_elab_sites.specs.IsFlat.{bindings_of, IsDrivenBy, IsMemoryOf, IsFlatOf, answer, number_of, field_number, reader_of, writer_of, is_outside, is_register, drive_at, count_before, signals_of, memory_paths, port_names}
use Rattle.gg_elab_sites.specs.Signals.{Types, Cause, Connected, Answered, Own, own, own_of_port, own_of_kind, own_signals, own_stops, OwnStop, statement_signals, stop_signal, OwnBank, own_banks, field_name, reader_signals, writer_signals}
use Rattle.gg_elab_sites.proofs.AmongLemmas.{Element, element-at, MadeOf, from-map, in-flat_map, from-flat_map}
use Rattle.gg_elab_tree.proofs.WellFormedLemmas.ClockFormLemmas.{registers-clocked, memories-clocked}
use Rattle.gg_elab_tree.proofs.WellFormedLemmas.BankFieldLemmas.{bank-signal, reader-among, writer-among, bank-depth, AnswerAmong, answer-among}
use Rattle.gg_elab_tree.proofs.NamesLemmas.JoinLemmas.{joined-behind}
use Rattle.gg_elab_sites.proofs.NameLemmas.{Differ}
use Rattle.gg_elab_tree.proofs.WellFormedLemmas.OutsideLemmas.{inputs-are, port-named}
use Rattle.gg_elab_sites.proofs.PassingLemmas.{passing, passed-at, Passes, passing-at, passing-map}
use Rattle.gg_elab_tree.proofs.WellFormedLemmas.DriveLemmas.{AnswerCause, Stands, answer-cause, answer-is, data-drives, number-at, outside-is, stands-at}

-- ---- the flat circuit

module _ (types : Types) (modules : List ModuleTree) (top : ℕ) (flat : FlatCircuit) (is_flat : IsFlatOf types (flat_signals types modules (all_sites modules top)) (flat_memories modules (all_sites modules top)) (module_at modules top).ports (stop_paths modules (all_sites modules top)) flat) (fits : AreFitting flat) (signals : Differ (map (λ (x : FlatSignal). x.path) (flat_signals types modules (all_sites modules top)))) (memories : Differ (memory_paths (flat_memories modules (all_sites modules top)))) where
  abbrev all : List FlatSignal
  all = flat_signals types modules (all_sites modules top)

  abbrev banks : List FlatMemory
  banks = flat_memories modules (all_sites modules top)

  abbrev paths : List (List ℕ)
  paths = map (λ (x : FlatSignal). x.path) all

  abbrev own_at : Site → List Own
  own_at x = own_signals types x.number (module_at modules x.number)

  shape-count : length (signal_shapes flat) ≡ length all
  shape-count = ap (λ (l : List Shape). length l) is_flat.shapes ∙ length-map all (λ (x : FlatSignal). x.shape)

  signal-count : length flat.signals ≡ length all
  signal-count = sym (length-map flat.signals (λ (x : Signal). shape x.ty)) ∙ shape-count

  path-count : length flat.paths ≡ length flat.signals
  path-count = ap (λ (l : List (List ℕ)). length l) is_flat.paths ∙ length-map all (λ (x : FlatSignal). x.path) ∙ sym signal-count

  -- a site's own signal is one of the circuit's
  signal-in : (x : Site) (o : Own) → Contains (all_sites modules top) x → Contains (own_at x) o → Contains all (flat_signal modules x o)
  signal-in x o c k = in-flat_map (signals_at types modules) (all_sites modules top) x (flat_signal modules x o) c (Contains-map (flat_signal modules x) (own_at x) o k)

  -- a site's own signal stands at the number of its path
  place-of : (x : Site) (o : Own) → Contains (all_sites modules top) x → Contains (own_at x) o → Stands all (flat_signal modules x o) (number_of paths (joined x.path o.name))
  place-of x o c k = stands-at (λ (y : FlatSignal). y.path) all (flat_signal modules x o) signals (signal-in x o c k)

  typed-at : (f : FlatSignal) (s : ℕ) → Stands all f s → HasType (signal_shapes flat) s f.shape
  typed-at f s h = (
    omega (arith, h.inside, shape-count),
    ap (λ (l : List Shape). shape_at l s) is_flat.shapes ∙ get_or-map (λ (y : FlatSignal). y.shape) all s f (uint 0) h.inside ∙ ap (λ (y : FlatSignal). y.shape) (h.is f),
  )

  drive-at : (f : FlatSignal) (s : ℕ) → Stands all f s → drive_at all s ≡ f.drive
  drive-at f s h = get_or-map (λ (y : FlatSignal). y.drive) all s f Outside h.inside ∙ ap (λ (y : FlatSignal). y.drive) (h.is f)

  -- ---- memories

  -- the field of a memory's port has its type
  field-at : (x : Site) (b : OwnBank) (port field : List ℕ) (cause : Cause) (to : Shape) → Contains (all_sites modules top) x → Contains (own_at x) (own (field_name b.name port field) cause to) → Stands all (flat_signal modules x (own (field_name b.name port field) cause to)) (field_number paths (joined x.path b.name) port field)
  field-at x b port field cause to c k =
      subst (λ path. Stands all (flat_signal modules x (own (field_name b.name port field) cause to)) (number_of paths path)) (joined-behind x.path b.name (port ++ 46 ∷ field))
      (place-of x (own (field_name b.name port field) cause to) c k)

  -- The memory at a place: the site that holds it, and what its fields say.
  record MemoryAt (m : ℕ) : Type 0 where
    site : Site
    there : Contains (all_sites modules top) site
    bank : OwnBank
    listed : Contains (own_banks (module_at modules site.number).statements) bank
    is : Stands banks (flat_memory modules site bank) m

  memory-at : (m : ℕ) → m < length banks → MemoryAt m
  memory-at m lt =
      let e = element-at banks m lt in
      let x = from-flat_map (memories_at modules) (all_sites modules top) e.element e.among in
      let b = from-map (flat_memory modules x.of) (own_banks (module_at modules x.of.number).statements) e.element x.made in
      record { site = x.of; there = x.among; bank = b.of; listed = b.among; is = record { inside = lt; is = λ d. e.is d ∙ sym b.made } }

  is-memory : (m : ℕ) (any : Memory) → m < length flat.memories → (a : MemoryAt m) → IsMemoryOf paths (flat_memory modules a.site a.bank) (get_or flat.memories m any)
  is-memory m any lt a =
      subst (λ (y : FlatMemory). IsMemoryOf paths y (get_or flat.memories m any)) (a.is.is (flat_memory modules a.site a.bank))
      (is_flat.memories m (flat_memory modules a.site a.bank) any (omega (arith, lt, is_flat.memory_count)))

  -- a field of the reader at a place, and of a writer, has its type
  reader-field : (m : ℕ) (a : MemoryAt m) (r : ℕ) (port field : List ℕ) (cause : Cause) (to : Shape) → r < length a.bank.bank.readers → get_or a.bank.bank.readers r port ≡ port → Contains (reader_signals a.bank.name a.bank.bank r port) (own (field_name a.bank.name port field) cause to) → Stands all (flat_signal modules a.site (own (field_name a.bank.name port field) cause to)) (field_number paths (joined a.site.path a.bank.name) port field)
  reader-field m a r port field cause to lt at has =
      field-at a.site a.bank port field cause to a.there
      (bank-signal types a.site.number (module_at modules a.site.number) a.bank (own (field_name a.bank.name port field) cause to) a.listed
      (reader-among a.bank.name a.bank.bank r port (own (field_name a.bank.name port field) cause to) lt at has))

  writer-field : (m : ℕ) (a : MemoryAt m) (port field : List ℕ) (cause : Cause) (to : Shape) → Contains a.bank.bank.writers port → Contains (writer_signals a.bank.name a.bank.bank port) (own (field_name a.bank.name port field) cause to) → Stands all (flat_signal modules a.site (own (field_name a.bank.name port field) cause to)) (field_number paths (joined a.site.path a.bank.name) port field)
  writer-field m a port field cause to c has =
      field-at a.site a.bank port field cause to a.there
      (bank-signal types a.site.number (module_at modules a.site.number) a.bank (own (field_name a.bank.name port field) cause to) a.listed
      (writer-among a.bank.name a.bank.bank port (own (field_name a.bank.name port field) cause to) c has))

  abbrev Named : ℕ → Shape → Type 0
  Named s to = HasType (signal_shapes flat) s to

  reader-is : (m : ℕ) (a : MemoryAt m) (r : ℕ) (port : List ℕ) → r < length a.bank.bank.readers → get_or a.bank.bank.readers r port ≡ port → IsReader Named a.bank.bank.word a.bank.bank.depth (reader_of paths (flat_memory modules a.site a.bank) port)
  reader-is m a r port lt at = record {
    address = typed-at (flat_signal modules a.site (own (field_name a.bank.name port (codes "addr")) Connected (uint (address_width a.bank.bank.depth)))) (field_number paths (joined a.site.path a.bank.name) port (codes "addr")) (reader-field m a r port (codes "addr") Connected (uint (address_width a.bank.bank.depth)) lt at (0, omega arith, refl));
    enable = typed-at (flat_signal modules a.site (own (field_name a.bank.name port (codes "en")) Connected (uint 1))) (field_number paths (joined a.site.path a.bank.name) port (codes "en")) (reader-field m a r port (codes "en") Connected (uint 1) lt at (1, omega arith, refl));
    output = typed-at (flat_signal modules a.site (own (field_name a.bank.name port (codes "data")) (Answered a.bank.name port r a.bank.bank.latency) a.bank.bank.word)) (field_number paths (joined a.site.path a.bank.name) port (codes "data")) (reader-field m a r port (codes "data") (Answered a.bank.name port r a.bank.bank.latency) a.bank.bank.word lt at (2, omega arith, refl));
  }

  writer-is : (m : ℕ) (a : MemoryAt m) (port : List ℕ) → Contains a.bank.bank.writers port → IsWriter Named a.bank.bank.word a.bank.bank.depth (writer_of paths (flat_memory modules a.site a.bank) port)
  writer-is m a port c = record {
    address = typed-at (flat_signal modules a.site (own (field_name a.bank.name port (codes "addr")) Connected (uint (address_width a.bank.bank.depth)))) (field_number paths (joined a.site.path a.bank.name) port (codes "addr")) (writer-field m a port (codes "addr") Connected (uint (address_width a.bank.bank.depth)) c (0, omega arith, refl));
    enable = typed-at (flat_signal modules a.site (own (field_name a.bank.name port (codes "en")) Connected (uint 1))) (field_number paths (joined a.site.path a.bank.name) port (codes "en")) (writer-field m a port (codes "en") Connected (uint 1) c (1, omega arith, refl));
    input = typed-at (flat_signal modules a.site (own (field_name a.bank.name port (codes "data")) Connected a.bank.bank.word)) (field_number paths (joined a.site.path a.bank.name) port (codes "data")) (writer-field m a port (codes "data") Connected a.bank.bank.word c (2, omega arith, refl));
    masked = typed-at (flat_signal modules a.site (own (field_name a.bank.name port (codes "mask")) Connected (uint 1))) (field_number paths (joined a.site.path a.bank.name) port (codes "mask")) (writer-field m a port (codes "mask") Connected (uint 1) c (3, omega arith, refl));
  }

  -- a memory has a word, and its ports' fields have their types
  formed-memory : (m : ℕ) (any : Memory) → m < length flat.memories → IsMemory Named (get_or flat.memories m any)
  formed-memory m any lt = record {
    some = subst (λ n. 0 < n) (sym is.depth) (bank-depth (module_at modules a.site.number).statements a.bank a.listed);
    readers = subst₂ (λ to depth. All (IsReader Named to depth) (get_or flat.memories m any).readers) (sym is.word) (sym is.depth)
        (subst (All (IsReader Named a.bank.bank.word a.bank.bank.depth)) (sym is.readers) readers);
    writers = subst₂ (λ to depth. All (IsWriter Named to depth) (get_or flat.memories m any).writers) (sym is.word) (sym is.depth)
        (subst (All (IsWriter Named a.bank.bank.word a.bank.bank.depth)) (sym is.writers) writers);
  }
    where
      a : MemoryAt m
      a = memory-at m (omega (arith, lt, is_flat.memory_count))

      is : IsMemoryOf paths (flat_memory modules a.site a.bank) (get_or flat.memories m any)
      is = is-memory m any lt a

      readers : All (IsReader Named a.bank.bank.word a.bank.bank.depth) (map (reader_of paths (flat_memory modules a.site a.bank)) a.bank.bank.readers)
      readers r d below =
          let inside : r < length a.bank.bank.readers = omega (arith, below, length-map a.bank.bank.readers (reader_of paths (flat_memory modules a.site a.bank))) in
          let e = element-at a.bank.bank.readers r inside in
          subst (IsReader Named a.bank.bank.word a.bank.bank.depth)
          (sym (get_or-map (reader_of paths (flat_memory modules a.site a.bank)) a.bank.bank.readers r [] d inside ∙ ap (reader_of paths (flat_memory modules a.site a.bank)) (e.is [])))
          (reader-is m a r e.element inside (e.is e.element))

      writers : All (IsWriter Named a.bank.bank.word a.bank.bank.depth) (map (writer_of paths (flat_memory modules a.site a.bank)) a.bank.bank.writers)
      writers r d below =
          let inside : r < length a.bank.bank.writers = omega (arith, below, length-map a.bank.bank.writers (writer_of paths (flat_memory modules a.site a.bank))) in
          let e = element-at a.bank.bank.writers r inside in
          subst (IsWriter Named a.bank.bank.word a.bank.bank.depth)
          (sym (get_or-map (writer_of paths (flat_memory modules a.site a.bank)) a.bank.bank.writers r [] d inside ∙ ap (writer_of paths (flat_memory modules a.site a.bank)) (e.is [])))
          (writer-is m a e.element e.among)

  -- ---- what readers answer

  abbrev Driven : ℕ → Drive → Type 0
  Driven s drive = IsDrivenBy (bindings_of types all banks) flat.registers (count_before is_outside all s) (count_before is_register all s) (shape_at (signals_of all).shapes s) drive (driver_at flat s)

  memory-number : (m : ℕ) → m < length banks → (a : MemoryAt m) → number_of (memory_paths banks) (joined a.site.path a.bank.name) ≡ m
  memory-number m lt a =
      ap (λ (y : FlatMemory). number_of (memory_paths banks) y.path) (sym (a.is.is (flat_memory modules a.site a.bank)))
      ∙ number-at (λ (y : FlatMemory). y.path) banks m (flat_memory modules a.site a.bank) memories lt

  -- the readers of a memory are those of its bank
  reader-there : (m : ℕ) → (lt : m < length flat.memories) → (a : MemoryAt m) → readers_at flat m ≡ map (reader_of paths (flat_memory modules a.site a.bank)) a.bank.bank.readers
  reader-there m lt a =
      let any = (element-at flat.memories m lt).element in
      get_or-map (λ (y : Memory). y.readers) flat.memories m any [] lt ∙ (is-memory m any lt a).readers

  latency-there : (m : ℕ) → (lt : m < length flat.memories) → (a : MemoryAt m) → latency_at flat m ≡ a.bank.bank.latency
  latency-there m lt a =
      let any = (element-at flat.memories m lt).element in
      get_or-map (λ (y : Memory). y.latency) flat.memories m any Zero lt ∙ (is-memory m any lt a).latency

  reads : (m : ℕ) → m < length flat.memories → AreDriven (driver_at flat) m (latency_at flat m) (readers_at flat m)
  reads m lt r below =
      subst₂ (λ (late : Latency) (reader : Reader). driver_at flat reader.word ≡ reader_driver late m r reader) (sym (latency-there m lt a)) (sym is) driven
    where
      within : m < length banks
      within = omega (arith, lt, is_flat.memory_count)

      a : MemoryAt m
      a = memory-at m within

      inside : r < length a.bank.bank.readers
      inside =
          let same : length (readers_at flat m) ≡ length (map (reader_of paths (flat_memory modules a.site a.bank)) a.bank.bank.readers) = ap (λ (l : List Reader). length l) (reader-there m lt a) in
          omega (arith, below, same, length-map a.bank.bank.readers (reader_of paths (flat_memory modules a.site a.bank)))

      e : Element a.bank.bank.readers r
      e = element-at a.bank.bank.readers r inside

      port : List ℕ
      port = e.element

      is : reader_at (readers_at flat m) r ≡ reader_of paths (flat_memory modules a.site a.bank) port
      is =
          ap (λ (l : List Reader). reader_at l r) (reader-there m lt a)
          ∙ get_or-map (reader_of paths (flat_memory modules a.site a.bank)) a.bank.bank.readers r [] (record { addr = 0; en = 0; word = 0; clock = None }) inside
          ∙ ap (reader_of paths (flat_memory modules a.site a.bank)) (e.is [])

      s : ℕ
      s = field_number paths (joined a.site.path a.bank.name) port (codes "data")

      stands : Stands all (flat_signal modules a.site (own (field_name a.bank.name port (codes "data")) (Answered a.bank.name port r a.bank.bank.latency) a.bank.bank.word)) s
      stands = reader-field m a r port (codes "data") (Answered a.bank.name port r a.bank.bank.latency) a.bank.bank.word inside (e.is port) (2, omega arith, refl)

      given : driver_at flat s ≡ answer a.bank.bank.latency (number_of (memory_paths banks) (joined a.site.path a.bank.name)) r (number_of paths (joined a.site.path (field_name a.bank.name port (codes "addr")))) (number_of paths (joined a.site.path (field_name a.bank.name port (codes "en"))))
      given = subst (Driven s) (drive-at (flat_signal modules a.site (own (field_name a.bank.name port (codes "data")) (Answered a.bank.name port r a.bank.bank.latency) a.bank.bank.word)) s stands) (is_flat.drivers s stands.inside)

      driven : driver_at flat s ≡ reader_driver a.bank.bank.latency m r (reader_of paths (flat_memory modules a.site a.bank) port)
      driven =
          given
          ∙ ap (λ n. answer a.bank.bank.latency n r (number_of paths (joined a.site.path (field_name a.bank.name port (codes "addr")))) (number_of paths (joined a.site.path (field_name a.bank.name port (codes "en"))))) (memory-number m within a)
          ∙ answer-is a.bank.bank.latency m r (number_of paths (joined a.site.path (field_name a.bank.name port (codes "addr")))) (number_of paths (joined a.site.path (field_name a.bank.name port (codes "en")))) (reader_of paths (flat_memory modules a.site a.bank) port)
          (ap (number_of paths) (sym (joined-behind a.site.path a.bank.name (port ++ 46 ∷ codes "addr"))))
          (ap (number_of paths) (sym (joined-behind a.site.path a.bank.name (port ++ 46 ∷ codes "en"))))

  -- a signal that a reader answers is the data of that reader
  data-of : (s : ℕ) → s < length all → (memory : List ℕ) (place : ℕ) (latency : Latency) (addr en : List ℕ) → drive_at all s ≡ Answers memory place latency addr en → IsDataOf flat (number_of (memory_paths banks) memory) place s
  data-of s lt memory place latency addr en is = (
    omega (arith, answered.data_of.inside, ap (λ (l : List Reader). length l) readers, length-map b.bank.readers (reader_of paths (flat_memory modules x b))),
    ap (λ (l : List Reader). (reader_at l place).word) readers
        ∙ ap (λ (y : Reader). y.word) (get_or-map (reader_of paths (flat_memory modules x b)) b.bank.readers place [] (record { addr = 0; en = 0; word = 0; clock = None }) answered.data_of.inside)
        ∙ ap (λ port. field_number paths (joined x.path b.name) port (codes "data")) (answered.data_of.at [])
        ∙ ap (number_of paths) (sym (joined-behind x.path b.name (answered.data_of.port ++ 46 ∷ codes "data")) ∙ ap (joined x.path) (sym answered.data_of.name))
        ∙ ap (λ (y : FlatSignal). number_of paths y.path) (o.made ∙ sym (e.is e.element))
        ∙ number-at (λ (y : FlatSignal). y.path) all s e.element signals lt,
  )
    where
      e : Element all s
      e = element-at all s lt

      site : MadeOf (λ y z. Contains (signals_at types modules y) z) (all_sites modules top) e.element
      site = from-flat_map (signals_at types modules) (all_sites modules top) e.element e.among

      x : Site
      x = site.of

      o : MadeOf (λ y z. flat_signal modules x y ≡ z) (own_at x) e.element
      o = from-map (flat_signal modules x) (own_at x) e.element site.made

      drive : drive_of modules x o.of.name o.of.cause ≡ Answers memory place latency addr en
      drive = ap (λ (y : FlatSignal). y.drive) o.made ∙ sym (drive-at e.element s (record { inside = lt; is = e.is })) ∙ is

      cause : AnswerCause x o.of.cause memory place latency
      cause = answer-cause modules x o.of.name o.of.cause memory place latency addr en drive

      answered : AnswerAmong (module_at modules x.number).statements cause.said place latency o.of
      answered = answer-among types x.number (module_at modules x.number) o.of cause.said cause.port place latency o.among cause.is

      b : OwnBank
      b = answered.bank

      memory_is : memory ≡ joined x.path b.name
      memory_is = cause.path ∙ ap (joined x.path) answered.is

      m : ℕ
      m = number_of (memory_paths banks) memory

      known : Stands banks (flat_memory modules x b) m
      known =
          subst (λ path. Stands banks (flat_memory modules x b) (number_of (memory_paths banks) path)) (sym memory_is)
          (stands-at (λ (y : FlatMemory). y.path) banks (flat_memory modules x b) memories
          (in-flat_map (memories_at modules) (all_sites modules top) x (flat_memory modules x b) site.among (Contains-map (flat_memory modules x) (own_banks (module_at modules x.number).statements) b answered.listed)))

      readers : readers_at flat m ≡ map (reader_of paths (flat_memory modules x b)) b.bank.readers
      readers = reader-there m (omega (arith, known.inside, is_flat.memory_count)) (record { site = x; there = site.among; bank = b; listed = answered.listed; is = known })

  -- ---- inputs

  inputs : flat.ins ≡ passing is_outside 0 (map (λ (y : FlatSignal). y.drive) all)
  inputs = is_flat.ins ∙ inputs-are types modules top signals ∙ sym (passing-map is_outside (λ (y : FlatSignal). y.drive) all 0)

  drive-count : length (map (λ (y : FlatSignal). y.drive) all) ≡ length all
  drive-count = length-map all (λ (y : FlatSignal). y.drive)

  input-place : (s : ℕ) → s < length all → drive_at all s ≡ Outside → (count_before is_outside all s < length flat.ins) × (value_at flat.ins (count_before is_outside all s) ≡ s)
  input-place s lt is =
      let p = passed-at is_outside (map (λ (y : FlatSignal). y.drive) all) 0 s Outside 0 (omega (arith, lt, drive-count)) (ap is_outside is) in
      let same : length flat.ins ≡ length (passing is_outside 0 (map (λ (y : FlatSignal). y.drive) all)) = ap (λ (l : List ℕ). length l) inputs in
      (omega (arith, p.0, same), ap (λ (l : List ℕ). value_at l (count_before is_outside all s)) inputs ∙ p.1 ∙ omega arith)

  ins-are : (place : ℕ) → place < length flat.ins → (value_at flat.ins place < length flat.signals) × (driver_at flat (value_at flat.ins place) ≡ Input place)
  ins-are place lt =
      subst (λ s. (s < length flat.signals) × (driver_at flat s ≡ Input place)) (sym at)
      (omega (arith, p.inside, drive-count, signal-count), given ∙ ap Input p.before)
    where
      p : Passes is_outside (map (λ (y : FlatSignal). y.drive) all) 0 place (get_or (passing is_outside 0 (map (λ (y : FlatSignal). y.drive) all)) place 0)
      p = passing-at is_outside (map (λ (y : FlatSignal). y.drive) all) 0 place 0 (omega (arith, lt, ap (λ (l : List ℕ). length l) inputs))

      at : value_at flat.ins place ≡ p.place
      at = ap (λ (l : List ℕ). value_at l place) inputs ∙ p.is ∙ omega arith

      given : driver_at flat p.place ≡ Input (count_before is_outside all p.place)
      given = subst (Driven p.place) (outside-is (drive_at all p.place) (p.passes Outside)) (is_flat.drivers p.place (omega (arith, p.inside, drive-count)))

  -- the names of the top's outputs, and then the paths of the stops
  abbrev out_names : List (List ℕ)
  out_names = port_names direction.Output (module_at modules top).ports ++ stop_paths modules (all_sites modules top)

  port-there : (name : List ℕ) → Contains (port_names direction.Output (module_at modules top).ports) name → number_of paths name < length all
  port-there name c = subst (λ n. number_of paths n < length all) o.made stands.inside
    where
      o : MadeOf (λ (y : Own) n. y.name ≡ n) (filter_map own_of_port (module_at modules top).ports) name
      o = port-named direction.Output (module_at modules top).ports name c

      among : Contains (own_at (top_site top)) o.of
      among = Contains-append_left (filter_map own_of_port (module_at modules top).ports) (statement_signals types top (module_at modules top).statements) o.of o.among

      top-among : (n : ℕ) → Contains (sites n modules (top_site top)) (top_site top)
      top-among zero = (0, omega arith, refl)
      top-among (suc n) = (0, omega arith, refl)

      stands : Stands all (flat_signal modules (top_site top) o.of) (number_of paths o.of.name)
      stands = place-of (top_site top) o.of (top-among (length modules)) among

  stop-there : (path : List ℕ) → Contains (stop_paths modules (all_sites modules top)) path → number_of paths path < length all
  stop-there path c =
      let site = from-flat_map (stop_paths_at modules) (all_sites modules top) path c in
      let x = site.of in
      let stop = from-map (λ (s : OwnStop). joined x.path s.name) (own_stops (module_at modules x.number).statements) path site.made in
      let own = Contains-append_right (filter_map own_of_port (module_at modules x.number).ports) (statement_signals types x.number (module_at modules x.number).statements) (stop_signal stop.of)
      (Contains-append_right (flat_map (λ (s : Stmt). own_of_kind types x.number s.kind) (module_at modules x.number).statements) (map stop_signal (own_stops (module_at modules x.number).statements)) (stop_signal stop.of)
      (Contains-map stop_signal (own_stops (module_at modules x.number).statements) stop.of stop.among)) in
      subst (λ n. number_of paths n < length all) stop.made (place-of x (stop_signal stop.of) site.among own).inside

  outs-are : (place : ℕ) → place < length flat.outs → value_at flat.outs place < length flat.signals
  outs-are place lt =
      subst (λ s. s < length flat.signals) (sym at) (omega (arith, there (Contains-append_cases (port_names direction.Output (module_at modules top).ports) (stop_paths modules (all_sites modules top)) e.element e.among), signal-count))
    where
      inside : place < length out_names
      inside = omega (arith, lt, ap (λ (l : List ℕ). length l) is_flat.outs, length-map out_names (number_of paths))

      e : Element out_names place
      e = element-at out_names place inside

      there : Contains (port_names direction.Output (module_at modules top).ports) e.element ⊎ Contains (stop_paths modules (all_sites modules top)) e.element → number_of paths e.element < length all
      there (inl c) = port-there e.element c
      there (inr c) = stop-there e.element c

      at : value_at flat.outs place ≡ number_of paths e.element
      at =
          ap (λ (l : List ℕ). value_at l place) is_flat.outs
          ∙ get_or-map (number_of paths) out_names place [] 0 inside
          ∙ ap (number_of paths) (e.is [])

  -- ---- drivers

  may-drive : (s : ℕ) → s < length all → (drive : Drive) → drive_at all s ≡ drive → Driven s drive → MayDrive flat s (driver_at flat s)
  may-drive s lt Outside is h = subst (MayDrive flat s) (sym h) (input-place s lt is)
  may-drive s lt (Gets scope c) is h =
      let fit : FitsDriver (signal_shapes flat) (shape_at (signal_shapes flat) s) (Computed h.line) = subst (FitsDriver (signal_shapes flat) (shape_at (signal_shapes flat) s)) h.computed (fits.drivers s (omega (arith, lt, signal-count))) in
      subst (MayDrive flat s) (sym h.computed) fit
  may-drive s lt (Holds scope reset next own clock) is h =
      let n = count_before is_register all s in
      let any = (element-at flat.registers n h.within).element in
      subst (MayDrive flat s) (sym h.held) (
        h.within,
        get_or-map (λ (y : Register). shape y.ty) flat.registers n any (uint 0) h.within ∙ (h.register any).typed ∙ sym (ap (λ (l : List Shape). shape_at l s) is_flat.shapes),
      )
  may-drive s lt (Answers memory place latency addr en) is h =
      subst (MayDrive flat s) (sym h)
      (data-drives flat latency (number_of (memory_paths banks) memory) place (number_of paths addr) (number_of paths en) s (data-of s lt memory place latency addr en is))

  pub formed : IsWellFormed flat
  formed = record {
    named = path-count;
    distinct = subst Differ (sym is_flat.paths) signals;
    drivers = λ s lt. let inside : s < length all = omega (arith, lt, signal-count) in may-drive s inside (drive_at all s) refl (is_flat.drivers s inside);
    ins = ins-are;
    outs = outs-are;
    registers = fits.registers;
    memories = λ m any lt. formed-memory m any lt;
    reads = reads;
    register_clocks = registers-clocked types modules top flat is_flat;
    memory_clocks = memories-clocked types modules top flat is_flat;
  }
