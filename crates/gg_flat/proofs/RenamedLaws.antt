-- Registers, memories and drivers under other numbers.
use Rattle.std.proofs.Common.{◌≡◌, ℕ, suc, List, [], ◌∷◌, map, get_or, refl, ◌∙◌, ap, ap₂, subst, inl, inr, arith}
use Rattle.std.specs.Prelude.{Option, Some, None, All, Bool, ◌==◌, ◌&&◌, if◌then◌else◌, replicate}
use Rattle.std.proofs.lemmas.List.{length-map, map-id, get_or-map}
use Rattle.std.proofs.lemmas.List.Elements.{All-map}
use Rattle.std.proofs.lemmas.Simd.{map-map}
use Rattle.gg_bits.specs.Shape.{Shape, shape}
use Rattle.gg_flat.specs.declared.line.Node.{Node}
use Rattle.gg_flat.specs.declared.memory.Latency.{Latency}
use Rattle.gg_flat.specs.declared.memory.Latency.TheVariants.{Zero, One as Late}
use Rattle.gg_flat.specs.declared.memory.Reader.{Reader}
use Rattle.gg_flat.specs.declared.memory.Writer.{Writer}
use Rattle.gg_flat.specs.declared.memory.Memory.{Memory}
use Rattle.gg_flat.specs.declared.piece.Register.{Register}
use Rattle.gg_flat.specs.declared.piece.Reset.{Reset}
use Rattle.gg_flat.specs.declared.piece.Driver.{Driver}
use Rattle.gg_flat.specs.declared.piece.Driver.TheVariants.{Input, Held, MemoryWord, ReadRegister, Computed}
use Rattle.gg_flat.specs.Clock.{ticks}
use Rattle.gg_flat.specs.Line.{value_at}
use Rattle.gg_flat.specs.Memory.{Bank, read_word, found_word, hits, next_word, next_words_from, next_words, words_read, late_reads, next_reads, next_bank, read_count, opening_bank}
use Rattle.gg_flat.specs.State.{connected_or, reset_or, next_register}
use Rattle.gg_flat.specs.WellFormed.{IsRegister, IsReader, IsWriter, IsMemory, reader_driver}
use Rattle.gg_flat.specs.Reads.{ResetNames, NextNames}
use Rattle.gg_flat.specs.inside.Named.{NamesRegister, NamesMemory, DriverNamesOnly, MemoryFollowsOnly}
use Rattle.gg_flat.specs.Named.{RegisterNamesOnly, ReaderNamesOnly, WriterNamesOnly, MemoryNamesOnly}
use Rattle.gg_flat.specs.Renaming.{Renaming, renamed_reset, renamed_next, renamed_register, renamed_reader, renamed_writer, renamed_memory, renamed_driver}
use Rattle.gg_flat.specs.inside.Renaming.{same_numbers, one_by_one}
use Rattle.gg_flat.proofs.RenamedLineLaws.{IsAlike, IsTypedThere, IsTypedBack, only-there, line-agree, next-agree, reset-agree, line-same, next-same, reset-same, line-twice, next-twice, reset-twice, next-value, reset-value, next-there, next-back, reset-there, reset-back}

abbrev register_with : Register → Option Reset → Option (List Node) → Option ℕ → Register
register_with register reset next clock = record { ty = register.ty; reset = reset; next = next; clock = clock }

abbrev reader_with : ℕ → ℕ → ℕ → Option ℕ → Reader
reader_with addr en word clock = record { addr = addr; en = en; word = word; clock = clock }

abbrev writer_with : ℕ → ℕ → ℕ → ℕ → Option ℕ → Writer
writer_with addr en word mask clock = record { addr = addr; en = en; word = word; mask = mask; clock = clock }

abbrev memory_with : Memory → List Reader → List Writer → Memory
memory_with memory readers writers = record { word = memory.word; depth = memory.depth; latency = memory.latency; readers = readers; writers = writers }

-- ---- what holds of each signal that a memory names, and of each clock that it follows

pub memory-weaken : (P Q : ℕ → Type 0) (memory : Memory) → ((s : ℕ) → P s → Q s) → MemoryNamesOnly P memory → MemoryNamesOnly Q memory
memory-weaken P Q memory from only =
    record {
      readers = λ k d lt. let r = only.readers k d lt in (from _ r.0, from _ r.1, from _ r.2);
      writers = λ k d lt. let w = only.writers k d lt in (from _ w.0, from _ w.1, from _ w.2, from _ w.3);
    }

pub memory-each : (P : ℕ → Type 0) (memory : Memory) → ((s : ℕ) → P s) → MemoryNamesOnly P memory
memory-each P memory each = record { readers = λ k d lt. (each _, each _, each _); writers = λ k d lt. (each _, each _, each _, each _) }

pub follows-each : (Q : Option ℕ → Type 0) (memory : Memory) → ((clock : Option ℕ) → Q clock) → MemoryFollowsOnly Q memory
follows-each Q memory each = record { readers = λ k d lt. each (get_or memory.readers k d).clock; writers = λ k d lt. each (get_or memory.writers k d).clock }

-- ---- numbers that agree on what is named, and clocks on what is followed

module _ (by other : Renaming) where
  abbrev pub AgreeAt : ℕ → Type 0
  AgreeAt s = by.signals s ≡ other.signals s

  abbrev pub AgreeOn : Option ℕ → Type 0
  AgreeOn clock = by.clocks clock ≡ other.clocks clock

  pub register-agree : (register : Register) → RegisterNamesOnly AgreeAt register → AgreeOn register.clock → renamed_register by register ≡ renamed_register other register
  register-agree register same clock =
      ap₂ (λ reset next. register_with register reset next (by.clocks register.clock)) (reset-agree by.signals other.signals register.reset (λ s named. same s (inl named))) (next-agree by.signals other.signals register.next (λ s named. same s (inr named)))
      ∙ ap (register_with register (renamed_reset other.signals register.reset) (renamed_next other.signals register.next)) clock

  pub reader-agree : (reader : Reader) → ReaderNamesOnly AgreeAt reader → AgreeOn reader.clock → renamed_reader by reader ≡ renamed_reader other reader
  reader-agree reader same clock =
      ap₂ (λ addr en. reader_with addr en (by.signals reader.word) (by.clocks reader.clock)) same.0 same.1
      ∙ ap₂ (reader_with (other.signals reader.addr) (other.signals reader.en)) same.2 clock

  pub writer-agree : (writer : Writer) → WriterNamesOnly AgreeAt writer → AgreeOn writer.clock → renamed_writer by writer ≡ renamed_writer other writer
  writer-agree writer same clock =
      ap₂ (λ addr en. writer_with addr en (by.signals writer.word) (by.signals writer.mask) (by.clocks writer.clock)) same.0 same.1
      ∙ ap₂ (λ word mask. writer_with (other.signals writer.addr) (other.signals writer.en) word mask (by.clocks writer.clock)) same.2 same.3
      ∙ ap (writer_with (other.signals writer.addr) (other.signals writer.en) (other.signals writer.word) (other.signals writer.mask)) clock

  all-agree : {A : Type 0} (f g : A → A) (xs : List A) → All (λ x. f x ≡ g x) xs → map f xs ≡ map g xs
  all-agree f g [] same = refl
  all-agree f g (x ∷ xs) same = ap₂ (λ y ys. y ∷ ys) (same 0 x (omega arith)) (all-agree f g xs (λ k d lt. same (suc k) d (omega (arith, lt))))

  pub memory-agree : (memory : Memory) → MemoryNamesOnly AgreeAt memory → MemoryFollowsOnly AgreeOn memory → renamed_memory by memory ≡ renamed_memory other memory
  memory-agree memory same clocks =
      ap₂ (memory_with memory)
      (all-agree (λ reader. renamed_reader by reader) (λ reader. renamed_reader other reader) memory.readers (λ k d lt. reader-agree (get_or memory.readers k d) (same.readers k d lt) (clocks.readers k d lt)))
      (all-agree (λ writer. renamed_writer by writer) (λ writer. renamed_writer other writer) memory.writers (λ k d lt. writer-agree (get_or memory.writers k d) (same.writers k d lt) (clocks.writers k d lt)))

  pub driver-agree : (driver : Driver) → DriverNamesOnly AgreeAt driver → ((r : ℕ) → NamesRegister driver r → by.registers r ≡ other.registers r) → ((m : ℕ) → NamesMemory driver m → by.memories m ≡ other.memories m) → renamed_driver by driver ≡ renamed_driver other driver
  driver-agree (Input place) same registers memories = refl
  driver-agree (Held r) same registers memories = ap Held (registers r refl)
  driver-agree (MemoryWord m r addr en) same registers memories =
      ap (λ k. MemoryWord k r (by.signals addr) (by.signals en)) (memories m refl) ∙ ap₂ (λ a e. MemoryWord (other.memories m) r a e) (same addr (inl refl)) (same en (inr refl))
  driver-agree (ReadRegister m r) same registers memories = ap (λ k. ReadRegister k r) (memories m refl)
  driver-agree (Computed line) same registers memories = ap Computed (line-agree by.signals other.signals line same)

-- ---- the numbers that there are

pub register-same : (register : Register) → renamed_register same_numbers register ≡ register
register-same register = ap₂ (λ reset next. register_with register reset next register.clock) (reset-same register.reset) (next-same register.next)

pub memory-same : (memory : Memory) → renamed_memory same_numbers memory ≡ memory
memory-same memory = ap₂ (memory_with memory) (map-id memory.readers) (map-id memory.writers)

pub driver-same : (driver : Driver) → renamed_driver same_numbers driver ≡ driver
driver-same (Input place) = refl
driver-same (Held r) = refl
driver-same (MemoryWord m r addr en) = refl
driver-same (ReadRegister m r) = refl
driver-same (Computed line) = ap Computed (line-same line)

-- ---- one after the other

module _ (first second : Renaming) where
  pub register-twice : (register : Register) → renamed_register second (renamed_register first register) ≡ renamed_register (one_by_one first second) register
  register-twice register =
      ap₂ (λ reset next. register_with register reset next (second.clocks (first.clocks register.clock))) (reset-twice first.signals second.signals register.reset) (next-twice first.signals second.signals register.next)

  pub memory-twice : (memory : Memory) → renamed_memory second (renamed_memory first memory) ≡ renamed_memory (one_by_one first second) memory
  memory-twice memory =
      ap₂ (memory_with memory)
      (map-map (λ reader. renamed_reader second reader) (λ reader. renamed_reader first reader) memory.readers)
      (map-map (λ writer. renamed_writer second writer) (λ writer. renamed_writer first writer) memory.writers)

  pub driver-twice : (driver : Driver) → renamed_driver second (renamed_driver first driver) ≡ renamed_driver (one_by_one first second) driver
  driver-twice (Input place) = refl
  driver-twice (Held r) = refl
  driver-twice (MemoryWord m r addr en) = refl
  driver-twice (ReadRegister m r) = refl
  driver-twice (Computed line) = ap Computed (line-twice first.signals second.signals line)

-- ---- what is named under other numbers

module _ (by : Renaming) (P : ℕ → Type 0) where
  abbrev There : ℕ → Type 0
  There s = P (by.signals s)

  reset-only : (reset : Option Reset) → ((s : ℕ) → ResetNames reset s → There s) → (t : ℕ) → ResetNames (renamed_reset by.signals reset) t → P t
  reset-only None only t named = absurd named
  reset-only (Some reset) only t (inl named) = only-there by.signals P reset.condition (λ s n. only s (inl n)) t named
  reset-only (Some reset) only t (inr named) = only-there by.signals P reset.init (λ s n. only s (inr n)) t named

  next-only : (next : Option (List Node)) → ((s : ℕ) → NextNames next s → There s) → (t : ℕ) → NextNames (renamed_next by.signals next) t → P t
  next-only None only t named = absurd named
  next-only (Some line) only t named = only-there by.signals P line only t named

  pub register-only : (register : Register) → RegisterNamesOnly There register → RegisterNamesOnly P (renamed_register by register)
  register-only register only t (inl named) = reset-only register.reset (λ s n. only s (inl n)) t named
  register-only register only t (inr named) = next-only register.next (λ s n. only s (inr n)) t named

  pub memory-only : (memory : Memory) → MemoryNamesOnly There memory → MemoryNamesOnly P (renamed_memory by memory)
  memory-only memory only =
      record {
        readers = All-map (λ reader. ReaderNamesOnly P reader) (λ reader. renamed_reader by reader) memory.readers only.readers;
        writers = All-map (λ writer. WriterNamesOnly P writer) (λ writer. renamed_writer by writer) memory.writers only.writers;
      }

  pub driver-only : (driver : Driver) → DriverNamesOnly There driver → DriverNamesOnly P (renamed_driver by driver)
  driver-only (Input place) only t named = absurd named
  driver-only (Held r) only t named = absurd named
  driver-only (MemoryWord m r addr en) only t (inl is) = subst P is (only addr (inl refl))
  driver-only (MemoryWord m r addr en) only t (inr is) = subst P is (only en (inr refl))
  driver-only (ReadRegister m r) only t named = absurd named
  driver-only (Computed line) only t named = only-there by.signals P line only t named

module _ (by : Renaming) (Q : Option ℕ → Type 0) where
  pub memory-follows : (memory : Memory) → MemoryFollowsOnly (λ clock. Q (by.clocks clock)) memory → MemoryFollowsOnly Q (renamed_memory by memory)
  memory-follows memory only =
      record {
        readers = All-map (λ (reader : Reader). Q reader.clock) (λ reader. renamed_reader by reader) memory.readers only.readers;
        writers = All-map (λ (writer : Writer). Q writer.clock) (λ writer. renamed_writer by writer) memory.writers only.writers;
      }

-- ---- what comes out

-- `row` has under the new numbers what `mine` has under the old ones, and what is followed has an edge where it has one there
module _ (by : Renaming) (row mine : List ℕ) (edges own_edges : List Bool) where
  abbrev pub TicksAlike : Option ℕ → Type 0
  TicksAlike clock = ticks edges (by.clocks clock) ≡ ticks own_edges clock

  pub register-value : (register : Register) (own : ℕ) → RegisterNamesOnly (IsAlike by.signals row mine) register → TicksAlike register.clock → next_register edges row (renamed_register by register) own ≡ next_register own_edges mine register own
  register-value register own alike same =
      ap₂ (λ (tick : Bool) taken. if tick then taken else own) same
      (ap (reset_or row (shape register.ty) (renamed_reset by.signals register.reset)) (next-value by.signals row mine (shape register.ty) register.next own (λ s named. alike s (inr named)))
      ∙ reset-value by.signals row mine (shape register.ty) register.reset (connected_or mine (shape register.ty) register.next own) (λ s named. alike s (inl named)))

  found-value : (words : List ℕ) (reader : Reader) → ReaderNamesOnly (IsAlike by.signals row mine) reader → found_word row words (renamed_reader by reader) ≡ found_word mine words reader
  found-value words reader alike = ap₂ (read_word words) alike.0 alike.1

  hits-value : (writer : Writer) (a : ℕ) → WriterNamesOnly (IsAlike by.signals row mine) writer → TicksAlike writer.clock → hits edges row (renamed_writer by writer) a ≡ hits own_edges mine writer a
  hits-value writer a alike same =
      ap₂ (λ en mask. ticks edges (by.clocks writer.clock) && (en == 1) && (mask == 1) && (value_at row (by.signals writer.addr) == a)) alike.1 alike.3
      ∙ ap₂ (λ (b : Bool) addr. b && (value_at mine writer.en == 1) && (value_at mine writer.mask == 1) && (addr == a)) same alike.0

  word-value : (writers : List Writer) (a own : ℕ) → All (λ writer. WriterNamesOnly (IsAlike by.signals row mine) writer) writers → All (λ (writer : Writer). TicksAlike writer.clock) writers → next_word edges row (map (λ writer. renamed_writer by writer) writers) a own ≡ next_word own_edges mine writers a own
  word-value [] a own alike same = refl
  word-value (writer ∷ writers) a own alike same =
      let here = alike 0 writer (omega arith) in
      let next : ℕ = if hits own_edges mine writer a then value_at mine writer.word else own in
      ap (next_word edges row (map (λ writer. renamed_writer by writer) writers) a) (ap₂ (λ (hit : Bool) word. if hit then word else own) (hits-value writer a here (same 0 writer (omega arith))) here.2)
      ∙ word-value writers a next (λ k d lt. alike (suc k) d (omega (arith, lt))) (λ k d lt. same (suc k) d (omega (arith, lt)))

  words-value : (writers : List Writer) (a : ℕ) (words : List ℕ) → All (λ writer. WriterNamesOnly (IsAlike by.signals row mine) writer) writers → All (λ (writer : Writer). TicksAlike writer.clock) writers → next_words_from edges row (map (λ writer. renamed_writer by writer) writers) a words ≡ next_words_from own_edges mine writers a words
  words-value writers a [] alike same = refl
  words-value writers a (own ∷ words) alike same = ap₂ (λ word rest. word ∷ rest) (word-value writers a own alike same) (words-value writers (suc a) words alike same)

  late-value : (words : List ℕ) (readers : List Reader) (own : List ℕ) → All (λ reader. ReaderNamesOnly (IsAlike by.signals row mine) reader) readers → All (λ (reader : Reader). TicksAlike reader.clock) readers → late_reads edges row words (map (λ reader. renamed_reader by reader) readers) own ≡ late_reads own_edges mine words readers own
  late-value words [] own alike same = refl
  late-value words (reader ∷ readers) [] alike same = refl
  late-value words (reader ∷ readers) (x ∷ own) alike same =
      ap₂ (λ found rest. (if ticks edges (by.clocks reader.clock) then found else x) ∷ rest) (found-value words reader (alike 0 reader (omega arith))) (late-value words readers own (λ k d lt. alike (suc k) d (omega (arith, lt))) (λ k d lt. same (suc k) d (omega (arith, lt))))
      ∙ ap (λ (b : Bool). (if b then found_word mine words reader else x) ∷ late_reads own_edges mine words readers own) (same 0 reader (omega arith))

  reads-value : (latency : Latency) (readers : List Reader) (before after own : List ℕ) → All (λ reader. ReaderNamesOnly (IsAlike by.signals row mine) reader) readers → All (λ (reader : Reader). TicksAlike reader.clock) readers → next_reads edges row latency (map (λ reader. renamed_reader by reader) readers) before after own ≡ next_reads own_edges mine latency readers before after own
  reads-value Zero readers before after own alike same = refl
  reads-value (Late under) readers before after own alike same = late-value (words_read under before after) readers own alike same

  pub bank-value : (memory : Memory) (bank : Bank) → MemoryNamesOnly (IsAlike by.signals row mine) memory → MemoryFollowsOnly TicksAlike memory → next_bank edges row (renamed_memory by memory) bank ≡ next_bank own_edges mine memory bank
  bank-value memory bank alike same =
      let words = words-value memory.writers 0 bank.words alike.writers same.writers in
      let make : List ℕ → List ℕ → Bank = λ words reads. record { words = words; reads = reads } in
      ap (λ after. make after (next_reads edges row memory.latency (map (λ reader. renamed_reader by reader) memory.readers) bank.words after bank.reads)) words
      ∙ ap (make (next_words own_edges mine memory.writers bank.words)) (reads-value memory.latency memory.readers bank.words (next_words own_edges mine memory.writers bank.words) bank.reads alike.readers same.readers)

-- a memory holds the same at the opening
read_count-renamed : (by : Renaming) (latency : Latency) (readers : List Reader) → read_count latency (map (λ reader. renamed_reader by reader) readers) ≡ read_count latency readers
read_count-renamed by Zero readers = refl
read_count-renamed by (Late under) readers = length-map readers (λ reader. renamed_reader by reader)

pub opening-renamed : (by : Renaming) (memory : Memory) → opening_bank (renamed_memory by memory) ≡ opening_bank memory
opening-renamed by memory =
    ap (λ n. let bank : Bank = record { words = replicate memory.depth 0; reads = replicate n 0 } in bank) (read_count-renamed by memory.latency memory.readers)

-- ---- whether it is well formed

module _ (by : Renaming) (Mine Other : ℕ → Shape → Type 0) where
  pub register-there : (register : Register) → RegisterNamesOnly (IsTypedThere by.signals Mine Other) register → IsRegister Mine register → IsRegister Other (renamed_register by register)
  register-there register typed is =
      record {
        reset = reset-there by.signals Mine Other (shape register.ty) register.reset (λ s named. typed s (inl named)) is.reset;
        next = next-there by.signals Mine Other (shape register.ty) register.next (λ s named. typed s (inr named)) is.next;
      }

  pub register-back : (register : Register) → RegisterNamesOnly (IsTypedBack by.signals Mine Other) register → IsRegister Other (renamed_register by register) → IsRegister Mine register
  register-back register typed is =
      record {
        reset = reset-back by.signals Mine Other (shape register.ty) register.reset (λ s named. typed s (inl named)) is.reset;
        next = next-back by.signals Mine Other (shape register.ty) register.next (λ s named. typed s (inr named)) is.next;
      }

  pub memory-there : (memory : Memory) → MemoryNamesOnly (IsTypedThere by.signals Mine Other) memory → IsMemory Mine memory → IsMemory Other (renamed_memory by memory)
  memory-there memory typed is =
      record {
        some = is.some;
        readers = All-map (λ reader. IsReader Other (shape memory.word) memory.depth reader) (λ reader. renamed_reader by reader) memory.readers (λ k d lt.
            let t = typed.readers k d lt in
            let r = is.readers k d lt in
            record { address = t.0 _ r.address; enable = t.1 _ r.enable; output = t.2 _ r.output });
        writers = All-map (λ writer. IsWriter Other (shape memory.word) memory.depth writer) (λ writer. renamed_writer by writer) memory.writers (λ k d lt.
            let t = typed.writers k d lt in
            let w = is.writers k d lt in
            record { address = t.0 _ w.address; enable = t.1 _ w.enable; input = t.2 _ w.input; masked = t.3 _ w.masked });
      }

  pub memory-back : (memory : Memory) → MemoryNamesOnly (IsTypedBack by.signals Mine Other) memory → IsMemory Other (renamed_memory by memory) → IsMemory Mine memory
  memory-back memory typed is =
      record {
        some = is.some;
        readers = λ k d lt.
            let t = typed.readers k d lt in
            let r = subst (IsReader Other (shape memory.word) memory.depth) (get_or-map (λ reader. renamed_reader by reader) memory.readers k d (renamed_reader by d) lt) (is.readers k (renamed_reader by d) (omega (arith, lt, length-map memory.readers (λ reader. renamed_reader by reader)))) in
            record { address = t.0 _ r.address; enable = t.1 _ r.enable; output = t.2 _ r.output };
        writers = λ k d lt.
            let t = typed.writers k d lt in
            let w = subst (IsWriter Other (shape memory.word) memory.depth) (get_or-map (λ writer. renamed_writer by writer) memory.writers k d (renamed_writer by d) lt) (is.writers k (renamed_writer by d) (omega (arith, lt, length-map memory.writers (λ writer. renamed_writer by writer)))) in
            record { address = t.0 _ w.address; enable = t.1 _ w.enable; input = t.2 _ w.input; masked = t.3 _ w.masked };
      }

-- the driver of a reader's data goes with its memory
pub reader_driver-renamed : (by : Renaming) (latency : Latency) (m r : ℕ) (reader : Reader) → renamed_driver by (reader_driver latency m r reader) ≡ reader_driver latency (by.memories m) r (renamed_reader by reader)
reader_driver-renamed by Zero m r reader = refl
reader_driver-renamed by (Late under) m r reader = refl
