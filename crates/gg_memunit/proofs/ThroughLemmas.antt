-- A memory whose ports were all served is in its next state.
use Rattle.std.proofs.Common.{◌≡◌, ℕ, suc, ◌<◌, List, [], ◌∷◌, ◌++◌, Option, Bool, length, map, refl, sym, ap, subst, ◌∙◌, arith}
use Rattle.std.specs.Prelude.{All, fold, slice_index_or, slice_set, ◌==◌, ◌&&◌, if◌then◌else◌}
use Rattle.std.proofs.lemmas.List.Sums.{fold-append}
use Rattle.std.proofs.Math.Seq.{take-length}
use Rattle.std.proofs.lemmas.List.{nil_from_length}
use Rattle.std.proofs.lemmas.List.Elements.{All-tail}
use Rattle.gg_flat.specs.declared.memory.UnderWrite.TheVariants.{Old, New, Undefined}
use Rattle.gg_flat.specs.declared.memory.Latency.{Latency}
use Rattle.gg_flat.specs.declared.memory.Latency.TheVariants.{Zero, One}
use Rattle.gg_flat.specs.declared.memory.Reader.{Reader}
use Rattle.gg_flat.specs.declared.memory.Writer.{Writer}
use Rattle.gg_flat.specs.declared.memory.Memory.{Memory}
use Rattle.gg_bits.specs.Shape.{shape}
use Rattle.gg_flat.specs.declared.piece.Register.{Register}
use Rattle.gg_flat.specs.Clock.{ticks}
use Rattle.gg_flat.specs.Line.{value_at}
use Rattle.gg_flat.specs.Circuit.{FlatCircuit}
use Rattle.gg_flat.specs.State.{State, IsState, next_state, next_registers}
use Rattle.gg_flat.specs.Settled.{Settled}
use Rattle.gg_flat.specs.Memory.{Bank, found_word, read_word, next_banks, bank_at, IsBank, LooksAmong, WritesAmong}
use Rattle.gg_flat.specs.Served.{Access, ByReader, ByWriter, by_readers, by_writers, due_of, written, after_access}
use Rattle.gg_flat.specs.inside.Served.{due_list}
use Rattle.gg_order.proofs.RunsLemmas.ServedLemmas.{all-served}
use Rattle.gg_node.specs.Machine.{latched_values}
use Rattle.gg_memunit.specs.MemoryUnit.{IsMemoryPiece, port_of, ports_of}
use Rattle.gg_memunit.specs.inside.MemoryUnit.{accessed_by}
use Rattle.gg_memunit.proofs.UnitLemmas.{sole, of-sole, in-value}

-- a state with these registers and one bank
abbrev one-bank : List ℕ → Bank → State
one-bank registers bank = record { registers = registers; banks = bank ∷ [] }

-- ---- the accesses of ports, as accesses of the bank

port-access : (n : ℕ) (access : Access) → (port_of n access).access ≡ access
port-access n (ByReader r reader) = refl
port-access n (ByWriter w writer) = refl

by-ports : (edges : List Bool) (latches : List (Option ℕ)) (n : ℕ) (registers : List ℕ) (accesses : List Access) (bank : Bank) → accessed_by edges latches (one-bank registers bank) (map (port_of n) accesses) ≡ one-bank registers (fold (after_access edges (latched_values latches)) bank accesses)
by-ports edges latches n registers [] bank = refl
by-ports edges latches n registers (access ∷ accesses) bank =
    ap (λ access. accessed_by edges latches (one-bank registers (after_access edges (latched_values latches) bank access)) (map (port_of n) accesses)) (port-access n access)
    ∙ by-ports edges latches n registers accesses (after_access edges (latched_values latches) bank access)

-- ---- values that agree on the fields

module _ (edges : List Bool) (n : ℕ) (v w : List ℕ) (same : (i : ℕ) → i < n → value_at v i ≡ value_at w i) where
  found-agrees : (words : List ℕ) (reader : Reader) → LooksAmong n reader → found_word v words reader ≡ found_word w words reader
  found-agrees words reader looks = ap (λ a. read_word words a (value_at v reader.en)) (same reader.addr looks.0) ∙ ap (read_word words (value_at w reader.addr)) (same reader.en looks.1)

  written-agrees : (words : List ℕ) (writer : Writer) → WritesAmong n writer → written edges v words writer ≡ written edges w words writer
  written-agrees words writer among =
      ap (λ en. if ticks edges writer.clock && (en == 1) && (value_at v writer.mask == 1) then slice_set words (value_at v writer.addr) (value_at v writer.word) else words) (same writer.en among.1)
      ∙ ap (λ mask. if ticks edges writer.clock && (value_at w writer.en == 1) && (mask == 1) then slice_set words (value_at v writer.addr) (value_at v writer.word) else words) (same writer.mask among.3)
      ∙ ap (λ addr. if ticks edges writer.clock && (value_at w writer.en == 1) && (value_at w writer.mask == 1) then slice_set words addr (value_at v writer.word) else words) (same writer.addr among.0)
      ∙ ap (λ word. if ticks edges writer.clock && (value_at w writer.en == 1) && (value_at w writer.mask == 1) then slice_set words (value_at w writer.addr) word else words) (same writer.word among.2)

  readers-agree : (r : ℕ) (readers : List Reader) → All (LooksAmong n) readers → (bank : Bank) → fold (after_access edges v) bank (by_readers r readers) ≡ fold (after_access edges w) bank (by_readers r readers)
  readers-agree r [] all bank = refl
  readers-agree r (reader ∷ readers) all bank =
      ap (λ found. fold (after_access edges v) (record { words = bank.words; reads = if ticks edges reader.clock then slice_set bank.reads r found else bank.reads }) (by_readers (suc r) readers)) (found-agrees bank.words reader (all 0 reader (omega arith)))
      ∙ readers-agree (suc r) readers (All-tail (LooksAmong n) reader readers all) (after_access edges w bank (ByReader r reader))

  writers-agree : (k : ℕ) (writers : List Writer) → All (WritesAmong n) writers → (bank : Bank) → fold (after_access edges v) bank (by_writers k writers) ≡ fold (after_access edges w) bank (by_writers k writers)
  writers-agree k [] all bank = refl
  writers-agree k (writer ∷ writers) all bank =
      ap (λ (words : List ℕ). fold (after_access edges v) (record { words = words; reads = bank.reads }) (by_writers (suc k) writers)) (written-agrees bank.words writer (all 0 writer (omega arith)))
      ∙ writers-agree (suc k) writers (All-tail (WritesAmong n) writer writers all) (after_access edges w bank (ByWriter k writer))

  module _ (readers : List Reader) (writers : List Writer) (looks : All (LooksAmong n) readers) (writes : All (WritesAmong n) writers) (bank : Bank) where
    readers-first : fold (after_access edges v) bank (by_readers 0 readers ++ by_writers 0 writers) ≡ fold (after_access edges w) bank (by_readers 0 readers ++ by_writers 0 writers)
    readers-first =
        fold-append (after_access edges v) bank (by_readers 0 readers) (by_writers 0 writers)
        ∙ ap (λ bank. fold (after_access edges v) bank (by_writers 0 writers)) (readers-agree 0 readers looks bank)
        ∙ writers-agree 0 writers writes (fold (after_access edges w) bank (by_readers 0 readers))
        ∙ sym (fold-append (after_access edges w) bank (by_readers 0 readers) (by_writers 0 writers))

    writers-first : fold (after_access edges v) bank (by_writers 0 writers ++ by_readers 0 readers) ≡ fold (after_access edges w) bank (by_writers 0 writers ++ by_readers 0 readers)
    writers-first =
        fold-append (after_access edges v) bank (by_writers 0 writers) (by_readers 0 readers)
        ∙ ap (λ bank. fold (after_access edges v) bank (by_readers 0 readers)) (writers-agree 0 writers writes bank)
        ∙ readers-agree 0 readers looks (fold (after_access edges w) bank (by_writers 0 writers))
        ∙ sym (fold-append (after_access edges w) bank (by_writers 0 writers) (by_readers 0 readers))

    all-agree : (latency : Latency) → fold (after_access edges v) bank (due_of latency readers writers) ≡ fold (after_access edges w) bank (due_of latency readers writers)
    all-agree Zero = writers-agree 0 writers writes bank
    all-agree (One Old) = readers-first
    all-agree (One Undefined) = readers-first
    all-agree (One New) = writers-first

-- ---- all ports served

one-of : (banks : List Bank) → length banks ≡ 1 → banks ≡ bank_at banks 0 ∷ []
one-of [] one = absurd (omega arith)
one-of (bank ∷ []) one = refl
one-of (bank ∷ other ∷ banks) one = absurd (omega arith)

abbrev state-of : List ℕ → List Bank → State
state-of registers banks = record { registers = registers; banks = banks }

pub served-through : (edges : List Bool) (piece : FlatCircuit) (state : State) (latches : List (Option ℕ)) (signals : List ℕ) → IsMemoryPiece piece → IsState piece state → Settled piece state (latched_values latches) signals → accessed_by edges latches state (ports_of piece.memories) ≡ next_state edges piece state signals
served-through edges piece state latches signals is typed settled =
    let found = sole piece.memories is.one in
    let memory = found.0 in
    let only = found.1 in
    let bank = bank_at state.banks 0 in
    let none : state.registers ≡ [] = nil_from_length state.registers (typed.typed.count ∙ ap (λ (registers : List Register). length (map (λ (register : Register). shape register.ty) registers)) is.alone) in
    let one : state.banks ≡ bank ∷ [] = one-of state.banks (typed.held.count ∙ is.one) in
    let held : IsBank memory bank = subst (λ (memories : List Memory). IsBank (slice_index_or memories 0 memory) bank) only (typed.held.each 0 memory (omega (arith, is.one))) in
    let looks = of-sole (λ (memory : Memory). All (LooksAmong (length piece.ins)) memory.readers) piece.memories memory only is.readers in
    let writes = of-sole (λ (memory : Memory). All (WritesAmong (length piece.ins)) memory.writers) piece.memories memory only is.writers in
    let same = λ (i : ℕ) (below : i < length piece.ins). sym (in-value piece memory is only state (latched_values latches) signals settled i below) in
    let whole : state ≡ one-bank [] bank = ap (λ registers. state-of registers state.banks) none ∙ ap (state-of []) one in
    ap (λ (memories : List Memory). accessed_by edges latches state (ports_of memories)) only
    ∙ ap (λ state. accessed_by edges latches state (ports_of (memory ∷ []))) whole
    ∙ by-ports edges latches (length memory.readers) [] (due_list memory) bank
    ∙ ap (one-bank []) (all-agree edges (length piece.ins) (latched_values latches) signals same memory.readers memory.writers looks writes bank memory.latency
    ∙ sym (ap (fold (after_access edges signals) bank) (take-length (due_list memory))) ∙ all-served edges signals memory bank held)
    ∙ sym (ap (λ state. next_state edges piece state signals) whole
    ∙ ap (λ (registers : List Register). state-of (next_registers edges signals registers []) (next_banks edges signals piece.memories (bank ∷ []))) is.alone
    ∙ ap (λ (memories : List Memory). state-of [] (next_banks edges signals memories (bank ∷ []))) only)
