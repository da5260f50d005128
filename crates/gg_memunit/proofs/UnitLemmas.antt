-- The tokens, the accesses and the next state of a memory unit.
use Rattle.std.proofs.Common.{◌≡◌, ℕ, zero, suc, ◌+◌, ◌<◌, ◌^◌, List, [], ◌∷◌, Option, None, Some, Bool, true, false, length, map, refl, sym, ap, ap₂, subst, ◌∙◌, arith}
use Rattle.std.specs.Prelude.{All, replicate, slice_get, slice_index_or, slice_set, if◌then◌else◌}
use Rattle.std.proofs.lemmas.List.{get_or-map, length-map, length-set, map-set, nil_from_length}
use Rattle.gg_flat.specs.declared.memory.Latency.{Latency}
use Rattle.gg_flat.specs.declared.memory.Latency.TheVariants.{Zero, One}
use Rattle.gg_flat.specs.declared.memory.UnderWrite.{UnderWrite}
use Rattle.gg_flat.specs.declared.memory.Reader.{Reader}
use Rattle.gg_flat.specs.declared.memory.Writer.{Writer}
use Rattle.gg_flat.specs.declared.memory.Memory.{Memory}
use Rattle.gg_flat.specs.declared.piece.Driver.TheVariants.{Input}
use Rattle.gg_flat.specs.declared.piece.Register.{Register}
use Rattle.gg_flat.specs.Clock.{Ratio, edges_at, ticks}
use Rattle.gg_flat.specs.Line.{shape_at, value_at}
use Rattle.gg_flat.specs.Circuit.{FlatCircuit, signal_shapes, driver_at, readers_at, latency_at, reader_at}
use Rattle.gg_bits.specs.Shape.{shape}
use Rattle.gg_flat.specs.State.{next_registers, State, IsState}
use Rattle.gg_flat.specs.Settled.{Settled, driver_value}
use Rattle.gg_flat.specs.WellFormed.{AreDriven, reader_driver}
use Rattle.gg_flat.specs.Memory.{Bank, found_word, read_word, next_words_from, next_reads, next_banks, read_count, bank_at, LooksAmong}
use Rattle.gg_flat.specs.Served.{Access, ByReader, ByWriter, after_access}
use Rattle.gg_order.specs.inside.Lent.{with_bank}
use Rattle.gg_node.specs.Machine.{RunsPiece, Port, Machine, latch_at, latched_value, latched_values, first_empty, needs_at}
use Rattle.gg_node.specs.inside.Machine.{port_number}
use Rattle.gg_node.specs.Token.{AgreesOn, IsTokenOf, IsNextOf, accessed}
use Rattle.gg_node.specs.Step.{with_served}
use Rattle.gg_node.proofs.EmptyLemmas.{filled}
use Rattle.gg_memunit.specs.MemoryUnit.{IsMemoryPiece, outs_of, ports_of, ports_by, needs_by, needs_of, memory_machine}
use Rattle.gg_memunit.specs.inside.MemoryUnit.{count_by, state_of, access_of}
use Rattle.gg_memunit.proofs.PortLemmas.{count_ports, due-below, reader-due, port-due, port-below}

-- ---- latches

-- the value of a latch is at its place among the latched values
token-at : (latches : List (Option ℕ)) (i : ℕ) → latched_value (latch_at latches i) ≡ value_at (latched_values latches) i
token-at [] i = refl
token-at (l ∷ latches) zero = refl
token-at (l ∷ latches) (suc i) = token-at latches i

-- ---- the only memory

pub sole : (memories : List Memory) → length memories ≡ 1 → (memory : Memory) × (memories ≡ memory ∷ [])
sole [] one = absurd (omega arith)
sole (memory ∷ []) one = (memory, refl)
sole (memory ∷ other ∷ memories) one = absurd (omega arith)

-- what holds of each memory holds of the only one
pub of-sole : (P : Memory → Type 0) (memories : List Memory) (memory : Memory) → memories ≡ memory ∷ [] → All P memories → P memory
of-sole P memories memory only all = subst (All P) only all 0 memory (omega arith)

-- ---- the rows of a memory's piece

module _ (piece : FlatCircuit) (memory : Memory) (is : IsMemoryPiece piece) (only : piece.memories ≡ memory ∷ []) where
  -- an in-signal has its input
  pub in-value : (state : State) (inputs signals : List ℕ) → Settled piece state inputs signals → (i : ℕ) → i < length piece.ins → value_at signals i ≡ value_at inputs i
  in-value state inputs signals settled i below =
      let place = is.first i below in
      let drives : driver_at piece i ≡ Input i = subst (λ s. driver_at piece s ≡ Input i) place (is.formed.ins i below).1 in
      let within : i < length piece.signals = subst (λ s. s < length piece.signals) place (is.formed.ins i below).0 in
      settled.driven i within ∙ ap (driver_value state inputs signals (shape_at (signal_shapes piece) i)) drives

  -- the out-signal at a place is the data of the reader there
  out-is : (o : ℕ) → o < length memory.readers → value_at piece.outs o ≡ (reader_at memory.readers o).word
  out-is o below = ap (λ outs. value_at outs o) (is.outs ∙ ap outs_of only) ∙ get_or-map (λ (reader : Reader). reader.word) memory.readers o (record { addr = 0; en = 0; word = 0; clock = None }) 0 below

  pub out-count : length piece.outs ≡ length memory.readers
  out-count = ap length (is.outs ∙ ap outs_of only) ∙ length-map memory.readers (λ (reader : Reader). reader.word)

  -- the data of a reader has the reader's driver
  out-driven : (o : ℕ) → o < length memory.readers → driver_at piece (reader_at memory.readers o).word ≡ reader_driver memory.latency 0 o (reader_at memory.readers o)
  out-driven o below =
      let all : AreDriven (driver_at piece) 0 (latency_at piece 0) (readers_at piece 0) = is.formed.reads 0 (omega (arith, is.one)) in
      subst (λ latency. AreDriven (driver_at piece) 0 latency memory.readers) (ap (λ (memories : List Memory). slice_index_or (map (λ (memory : Memory). memory.latency) memories) 0 Zero) only)
      (subst (λ readers. AreDriven (driver_at piece) 0 (latency_at piece 0) readers) (ap (λ (memories : List Memory). slice_index_or (map (λ (memory : Memory). memory.readers) memories) 0 []) only) all) o below

  -- the value of an out-signal is its driver's
  pub out-value : (state : State) (inputs signals : List ℕ) → Settled piece state inputs signals → (o : ℕ) → o < length memory.readers → value_at signals (value_at piece.outs o) ≡ driver_value state inputs signals (shape_at (signal_shapes piece) (reader_at memory.readers o).word) (reader_driver memory.latency 0 o (reader_at memory.readers o))
  out-value state inputs signals settled o below =
      let s = (reader_at memory.readers o).word in
      let within : s < length piece.signals = subst (λ s. s < length piece.signals) (out-is o below) (is.formed.outs o (omega (arith, below, out-count))) in
      ap (value_at signals) (out-is o below) ∙ settled.driven s within ∙ ap (driver_value state inputs signals (shape_at (signal_shapes piece) s)) (out-driven o below)

  pub needs-are : (o : ℕ) → o < length memory.readers → needs_at (needs_of piece.memories) o ≡ needs_by memory.latency (reader_at memory.readers o)
  needs-are o below = ap (λ memories. needs_at (needs_of memories) o) only ∙ get_or-map (needs_by memory.latency) memory.readers o (record { addr = 0; en = 0; word = 0; clock = None }) [] below

  -- ---- tokens

  module _ (ratios : List Ratio) (limit cycle served : ℕ) (bank : Bank) (latches : List (Option ℕ)) (flags : List Bool) (o : ℕ) (below : o < length memory.readers) where
    unit : Machine
    unit = memory_machine piece ratios limit cycle (state_of bank) served latches flags

    pub late-token : (under : UnderWrite) → memory.latency ≡ One under → IsTokenOf (RunsPiece piece) (memory_machine piece ratios limit cycle (state_of bank) served latches flags) o (value_at bank.reads o)
    late-token under late inputs signals settled agrees =
        out-value (state_of bank) inputs signals settled o below
        ∙ ap (λ latency. driver_value (state_of bank) inputs signals (shape_at (signal_shapes piece) (reader_at memory.readers o).word) (reader_driver latency 0 o (reader_at memory.readers o))) late

    pub same-token : memory.latency ≡ Zero → (reader_at memory.readers o).addr < length piece.ins → (reader_at memory.readers o).en < length piece.ins
        → first_empty latches (needs_at (needs_of piece.memories) o) ≡ None
        → IsTokenOf (RunsPiece piece) (memory_machine piece ratios limit cycle (state_of bank) served latches flags) o (found_word (latched_values latches) bank.words (reader_at memory.readers o))
    same-token zero-late addr-in en-in missing inputs signals settled agrees =
        let reader = reader_at memory.readers o in
        let needs : needs_at (needs_of piece.memories) o ≡ reader.addr ∷ reader.en ∷ [] = needs-are o below ∙ ap (λ latency. needs_by latency reader) zero-late in
        let first = filled (latch_at latches reader.addr) reader.addr (first_empty latches (reader.en ∷ [])) (ap (first_empty latches) (sym needs) ∙ missing) in
        let second = filled (latch_at latches reader.en) reader.en None first.1 in
        let agreed : AgreesOn (reader.addr ∷ reader.en ∷ []) latches inputs = subst (λ ins. AgreesOn ins latches inputs) needs agrees in
        let addr : value_at signals reader.addr ≡ value_at (latched_values latches) reader.addr =
        in-value (state_of bank) inputs signals settled reader.addr addr-in ∙ agreed reader.addr (latched_value (latch_at latches reader.addr)) (0, omega arith, refl) first.0 ∙ token-at latches reader.addr in
        let en : value_at signals reader.en ≡ value_at (latched_values latches) reader.en =
        in-value (state_of bank) inputs signals settled reader.en en-in ∙ agreed reader.en (latched_value (latch_at latches reader.en)) (1, omega arith, refl) second.0 ∙ token-at latches reader.en in
        out-value (state_of bank) inputs signals settled o below
        ∙ ap (λ latency. driver_value (state_of bank) inputs signals (shape_at (signal_shapes piece) reader.word) (reader_driver latency 0 o reader)) zero-late
        ∙ ap (λ a. read_word bank.words a (value_at signals reader.en)) addr
        ∙ ap (read_word bank.words (value_at (latched_values latches) reader.addr)) en

-- ---- a memory of which no port is served

nothing-written : (edges : List Bool) (signals : List ℕ) (a : ℕ) (words : List ℕ) → next_words_from edges signals [] a words ≡ words
nothing-written edges signals a [] = refl
nothing-written edges signals a (word ∷ words) = ap (λ rest. word ∷ rest) (nothing-written edges signals (suc a) words)

bank-stays : (edges : List Bool) (signals words reads : List ℕ) (latency : Latency) (readers : List Reader) (writers : List Writer) → count_by latency (length readers) (length writers) ≡ 0 → length reads ≡ read_count latency readers
    → ◌≡◌ {A = Bank} (record { words = words; reads = reads }) (record { words = next_words_from edges signals writers 0 words; reads = next_reads edges signals latency readers words (next_words_from edges signals writers 0 words) reads })
bank-stays edges signals words reads Zero readers [] none held =
    ap (λ (reads : List ℕ). record { words = words; reads = reads }) (nil_from_length reads held) ∙ ap (λ (words : List ℕ). record { words = words; reads = [] }) (sym (nothing-written edges signals 0 words))
bank-stays edges signals words reads Zero readers (writer ∷ writers) none held = absurd (omega arith)
bank-stays edges signals words reads (One under) [] [] none held =
    ap (λ (reads : List ℕ). record { words = words; reads = reads }) (nil_from_length reads held) ∙ ap (λ (words : List ℕ). record { words = words; reads = [] }) (sym (nothing-written edges signals 0 words))
bank-stays edges signals words reads (One under) (reader ∷ readers) writers none held = absurd (omega arith)
bank-stays edges signals words reads (One under) [] (writer ∷ writers) none held = absurd (omega arith)

pub next-is : (piece : FlatCircuit) (memory : Memory) → IsMemoryPiece piece → piece.memories ≡ memory ∷ [] → (ratios : List Ratio) (limit cycle served : ℕ) (bank : Bank) (latches : List (Option ℕ)) (flags : List Bool) → length bank.reads ≡ read_count memory.latency memory.readers
    → IsNextOf (RunsPiece piece) (ports_of piece.memories) (memory_machine piece ratios limit cycle (state_of bank) served latches flags) (state_of bank)
next-is piece memory is only ratios limit cycle served bank latches flags held = by (ports_of piece.memories) refl
  where
    by : (ports : List Port) → ports_of piece.memories ≡ ports → IsNextOf (RunsPiece piece) ports (memory_machine piece ratios limit cycle (state_of bank) served latches flags) (state_of bank)
    by [] none = λ signals settled.
        let count : count_by memory.latency (length memory.readers) (length memory.writers) ≡ 0 = sym (count_ports memory.latency memory.readers memory.writers) ∙ ap length (sym (ap ports_of only) ∙ none) in
        ap (λ (bank : Bank). record { registers = []; banks = bank ∷ [] }) (bank-stays (edges_at ratios cycle) signals bank.words bank.reads memory.latency memory.readers memory.writers count held)
        ∙ ap (λ (memories : List Memory). record { registers = []; banks = next_banks (edges_at ratios cycle) signals memories (bank ∷ []) }) (sym only)
        ∙ ap (λ registers. record { registers = next_registers (edges_at ratios cycle) signals registers []; banks = next_banks (edges_at ratios cycle) signals piece.memories (bank ∷ []) }) (sym is.alone)
    by (port ∷ ports) some = refl

-- ---- one access

module _ (piece : FlatCircuit) (memory : Memory) (is : IsMemoryPiece piece) (only : piece.memories ≡ memory ∷ []) (served p : ℕ) (due : port_number (slice_get (ports_of piece.memories) served) ≡ Some p) where
  due-here : port_number (slice_get (ports_by memory.latency memory.readers memory.writers) served) ≡ Some p
  due-here = ap (λ memories. port_number (slice_get (ports_of memories) served)) (sym only) ∙ due

  -- one more access can be counted
  pub served-few : served + 1 < 2 ^ 32
  served-few = few-of memory.latency (of-sole (λ memory. length memory.readers + length memory.writers < 2 ^ 32) piece.memories memory only is.few) (due-below memory.latency memory.readers memory.writers served p due-here)
    where
      few-of : (latency : Latency) → length memory.readers + length memory.writers < 2 ^ 32 → served < count_by latency (length memory.readers) (length memory.writers) → served + 1 < 2 ^ 32
      few-of Zero few below = omega arith
      few-of (One under) few below = omega arith

  pub late-reader : p < length memory.readers → read_count memory.latency memory.readers ≡ length memory.readers
  late-reader below = (reader-due memory.latency memory.readers memory.writers served p due-here below).0

  pub among-ports : p < length memory.readers + length memory.writers
  among-ports = port-below memory.latency memory.readers memory.writers served p due-here

  -- what serving the due port makes of the machine
  pub serve-step : (ratios : List Ratio) (limit cycle : ℕ) (bank : Bank) (latches : List (Option ℕ)) (flags : List Bool)
      → memory_machine piece ratios limit cycle (state_of (after_access (edges_at ratios cycle) (latched_values latches) bank (access_of memory.readers memory.writers p))) (served + 1) latches flags ≡ with_served (memory_machine piece ratios limit cycle (state_of bank) served latches flags)
  serve-step ratios limit cycle bank latches flags =
      ap (λ n. memory_machine piece ratios limit cycle (state_of (after_access (edges_at ratios cycle) (latched_values latches) bank (access_of memory.readers memory.writers p))) n latches flags) (let same : served + 1 ≡ suc served = omega arith in same)
      ∙ ap (λ port. memory_machine piece ratios limit cycle (accessed (edges_at ratios cycle) latches (state_of bank) port) (suc served) latches flags)
      (sym (ap (λ memories. slice_get (ports_of memories) served) only ∙ port-due memory.latency memory.readers memory.writers served p due-here))

-- ---- what a unit holds

pub of-only : (P : Memory → Type 0) (memories : List Memory) (memory : Memory) → memories ≡ memory ∷ [] → P memory → All P memories
of-only P memories memory only is = subst (All P) (sym only) one
  where
    one : All P (memory ∷ [])
    one zero d below = is
    one (suc k) d below = absurd (omega arith)

-- the values of empty latches are zeros
pub tokens-none : (count : ℕ) → replicate count 0 ≡ latched_values (replicate count None)
tokens-none zero = refl
tokens-none (suc count) = ap (λ tokens. 0 ∷ tokens) (tokens-none count)

pub tokens-cleared : (inputs zeros : List ℕ) (latches empty : List (Option ℕ)) → inputs ≡ latched_values latches → zeros ≡ replicate (length inputs) 0 → empty ≡ replicate (length latches) None → zeros ≡ latched_values empty
tokens-cleared inputs zeros latches empty same are none =
    are ∙ ap (λ inputs. replicate (length inputs) 0) same ∙ ap (λ n. replicate n 0) (length-map latches latched_value) ∙ tokens-none (length latches) ∙ sym (ap latched_values none)

pub tokens-set : (inputs : List ℕ) (latches : List (Option ℕ)) (place token : ℕ) → inputs ≡ latched_values latches → slice_set inputs place token ≡ latched_values (slice_set latches place (Some token))
tokens-set inputs latches place token same = ap (λ inputs. slice_set inputs place token) same ∙ sym (map-set latched_value latches place (Some token))

-- the fields of a memory's readers are numbers of in-signals
pub looks-among : (piece : FlatCircuit) (memory : Memory) → IsMemoryPiece piece → piece.memories ≡ memory ∷ [] → (n : ℕ) → n ≡ length piece.ins → All (LooksAmong n) memory.readers
looks-among piece memory is only n same = subst (λ n. All (LooksAmong n) memory.readers) (sym same) (of-sole (λ memory. All (LooksAmong (length piece.ins)) memory.readers) piece.memories memory only is.readers)

-- ---- a state of a memory's piece

abbrev state-with : List ℕ → List Bank → State
state-with registers banks = record { registers = registers; banks = banks }

-- a state of one bank alone
pub of-bank : (state : State) (bank : Bank) → state.registers ≡ [] → state.banks ≡ bank ∷ [] → state ≡ state_of bank
of-bank state bank none one = ap₂ state-with none one

pub of-first : (state : State) → state.registers ≡ [] → length state.banks ≡ 1 → state ≡ state_of (bank_at state.banks 0)
of-first state none one = of-bank state (bank_at state.banks 0) none (first state.banks one)
  where
    first : (banks : List Bank) → length banks ≡ 1 → banks ≡ bank_at banks 0 ∷ []
    first [] same = absurd (omega (arith, same))
    first (bank ∷ []) same = refl
    first (bank ∷ other ∷ banks) same = absurd (omega (arith, same))

-- such a state with another bank in its place
pub of-put : (state : State) (bank : Bank) → state.registers ≡ [] → length state.banks ≡ 1 → with_bank state 0 bank ≡ state_of bank
of-put state bank none one = ap₂ state-with none (put state.banks one)
  where
    put : (banks : List Bank) → length banks ≡ 1 → slice_set banks 0 bank ≡ bank ∷ []
    put [] same = absurd (omega (arith, same))
    put (old ∷ []) same = refl
    put (old ∷ other ∷ banks) same = absurd (omega (arith, same))

pub no-registers : (piece : FlatCircuit) (state : State) → IsMemoryPiece piece → IsState piece state → state.registers ≡ []
no-registers piece state is typed = nil_from_length state.registers (typed.typed.count ∙ length-map piece.registers (λ (register : Register). shape register.ty) ∙ ap (λ (l : List Register). length l) is.alone)

-- it has a read register for each late reader
pub held-first : (piece : FlatCircuit) (state : State) → IsMemoryPiece piece → IsState piece state → All (λ memory. length (bank_at state.banks 0).reads ≡ read_count memory.latency memory.readers) piece.memories
held-first piece state is typed = each
  where
    each : (m : ℕ) (any : Memory) → m < length piece.memories → length (bank_at state.banks 0).reads ≡ read_count (slice_index_or piece.memories m any).latency (slice_index_or piece.memories m any).readers
    each zero any below = (typed.held.each 0 any below).reads.count
    each (suc m) any below = absurd (omega (arith, below, is.one))

-- an access leaves as many read registers as there were
pub reads-after : (edges : List Bool) (signals : List ℕ) (bank : Bank) (access : Access) → length (after_access edges signals bank access).reads ≡ length bank.reads
reads-after edges signals bank (ByWriter w writer) = refl
reads-after edges signals bank (ByReader r reader) = by (ticks edges reader.clock)
  where
    by : (b : Bool) → length (if b then slice_set bank.reads r (found_word signals bank.words reader) else bank.reads) ≡ length bank.reads
    by true = length-set bank.reads r (found_word signals bank.words reader)
    by false = refl
