-- The clocks of a circuit stand for themselves, and a model has none.
use Rattle.std.proofs.Common.{◌≡◌, ℕ, zero, suc, ◌+◌, ◌<◌, List, [], ◌∷◌, Bool, length, get_or, Option, Some, None, refl, sym, ◌∙◌, ap, ap₂, subst, arith}
use Rattle.std.specs.Prelude.{All, if◌then◌else◌, ◌&&◌, ◌==◌}
use Rattle.gg_flat.specs.declared.memory.Latency.{Latency}
use Rattle.gg_flat.specs.declared.memory.Latency.TheVariants.{Zero, One as Late}
use Rattle.gg_flat.specs.declared.memory.Reader.{Reader}
use Rattle.gg_flat.specs.declared.memory.Writer.{Writer}
use Rattle.gg_flat.specs.declared.memory.Memory.{Memory}
use Rattle.gg_flat.specs.declared.piece.Register.{Register}
use Rattle.gg_flat.specs.Circuit.{FlatCircuit}
use Rattle.gg_flat.specs.Clock.{Ratio, edges_at, ticks}
use Rattle.gg_flat_tree.specs.Clocked.{clocks_from, clock_at}
use Rattle.gg_flat.specs.Line.{value_at}
use Rattle.gg_flat.specs.Memory.{Bank, found_word, next_word, next_words_from, next_words, words_read, late_reads, next_reads, next_bank, next_banks}
use Rattle.gg_flat.specs.State.{State, taken_value, next_registers, next_state}
use Rattle.gg_flat.specs.Settled.{Settled}
use Rattle.gg_flat.specs.Run.{Start, IsRunFrom, row_at, inputs_at, later, state_at}
use Rattle.gg_flat.specs.WellFormed.{IsWellFormed, IsClock, IsClockedMemory}
use Rattle.gg_part.specs.PartRun.{part_ratios}
use Rattle.gg_part.proofs.RenameLemmas.{ticks-part}

-- ---- the clocks of a part

-- a circuit without clocks has only that of every tick
pub every_tick : (clock : Option ℕ) → clock_at [] clock ≡ None
every_tick None = refl
every_tick (Some number) = refl

pub clocks-count : (a n : ℕ) → length (clocks_from a n) ≡ n
clocks-count a zero = refl
clocks-count a (suc n) = ap suc (clocks-count (suc a) n)

clocks-item : (a n k : ℕ) → k < n → get_or (clocks_from a n) k None ≡ Some (a + k)
clocks-item a zero k lt = absurd (omega (arith, lt))
clocks-item a (suc n) zero lt = ap Some (let same : a ≡ a + 0 = omega arith in same)
clocks-item a (suc n) (suc k) lt = clocks-item (suc a) n k (omega (arith, lt)) ∙ ap Some (let same : suc a + k ≡ a + suc k = omega arith in same)

-- each clock of a circuit stands for itself
pub clock-same : (n : ℕ) (clock : Option ℕ) → IsClock n clock → clock_at (clocks_from 0 n) clock ≡ clock
clock-same n None is = refl
clock-same n (Some k) is = clocks-item 0 n k is ∙ ap Some (let same : 0 + k ≡ k = omega arith in same)

pub clock-known : (n : ℕ) (clock : Option ℕ) → IsClock (length (clocks_from 0 n)) clock → IsClock n clock
clock-known n clock is = subst (λ m. IsClock m clock) (clocks-count 0 n) is

-- each clock of the list is one of so many
abbrev pub AreAmong : ℕ → List (Option ℕ) → Type 0
AreAmong n clocks = (clock : Option ℕ) → IsClock (length clocks) clock → IsClock n (clock_at clocks clock)

pub own-among : (n : ℕ) → AreAmong n (clocks_from 0 n)
own-among n clock is = let known = clock-known n clock is in subst (IsClock n) (sym (clock-same n clock known)) known

pub none-among : (n : ℕ) → AreAmong n []
none-among n None is = tt
none-among n (Some number) is = absurd (omega (arith, is))

-- ---- what goes on in a tick

-- the same goes on where the clocks that are named have the same edges
module _ (n : ℕ) (edges others : List Bool) (same : (clock : Option ℕ) → IsClock n clock → ticks edges clock ≡ ticks others clock) (row : List ℕ) where
  registers-alike : (registers : List Register) (own : List ℕ) → All (λ (register : Register). IsClock n register.clock) registers → next_registers edges row registers own ≡ next_registers others row registers own
  registers-alike [] own are = refl
  registers-alike (register ∷ registers) [] are = refl
  registers-alike (register ∷ registers) (x ∷ own) are =
      ap₂ (λ (b : Bool) rest. (if b then taken_value row register x else x) ∷ rest) (same register.clock (are 0 register (omega arith))) (registers-alike registers own (λ k d lt. are (suc k) d (omega (arith, lt))))

  word-alike : (writers : List Writer) (a own : ℕ) → All (λ (writer : Writer). IsClock n writer.clock) writers → next_word edges row writers a own ≡ next_word others row writers a own
  word-alike [] a own are = refl
  word-alike (writer ∷ writers) a own are =
      ap (λ (b : Bool). next_word edges row writers a (if b && (value_at row writer.en == 1) && (value_at row writer.mask == 1) && (value_at row writer.addr == a) then value_at row writer.word else own)) (same writer.clock (are 0 writer (omega arith)))
      ∙ word-alike writers a (if ticks others writer.clock && (value_at row writer.en == 1) && (value_at row writer.mask == 1) && (value_at row writer.addr == a) then value_at row writer.word else own) (λ k d lt. are (suc k) d (omega (arith, lt)))

  words-alike : (writers : List Writer) (a : ℕ) (words : List ℕ) → All (λ (writer : Writer). IsClock n writer.clock) writers → next_words_from edges row writers a words ≡ next_words_from others row writers a words
  words-alike writers a [] are = refl
  words-alike writers a (own ∷ words) are = ap₂ (λ word rest. word ∷ rest) (word-alike writers a own are) (words-alike writers (suc a) words are)

  late-alike : (words : List ℕ) (readers : List Reader) (own : List ℕ) → All (λ (reader : Reader). IsClock n reader.clock) readers → late_reads edges row words readers own ≡ late_reads others row words readers own
  late-alike words [] own are = refl
  late-alike words (reader ∷ readers) [] are = refl
  late-alike words (reader ∷ readers) (x ∷ own) are =
      ap₂ (λ (b : Bool) rest. (if b then found_word row words reader else x) ∷ rest) (same reader.clock (are 0 reader (omega arith))) (late-alike words readers own (λ k d lt. are (suc k) d (omega (arith, lt))))

  reads-alike : (latency : Latency) (readers : List Reader) (before after own : List ℕ) → All (λ (reader : Reader). IsClock n reader.clock) readers → next_reads edges row latency readers before after own ≡ next_reads others row latency readers before after own
  reads-alike Zero readers before after own are = refl
  reads-alike (Late under) readers before after own are = late-alike (words_read under before after) readers own are

  bank-alike : (memory : Memory) (bank : Bank) → IsClockedMemory n memory → next_bank edges row memory bank ≡ next_bank others row memory bank
  bank-alike memory bank are =
      let make : List ℕ → List ℕ → Bank = λ words reads. record { words = words; reads = reads } in
      ap (λ after. make after (next_reads edges row memory.latency memory.readers bank.words after bank.reads)) (words-alike memory.writers 0 bank.words are.writers)
      ∙ ap (make (next_words others row memory.writers bank.words)) (reads-alike memory.latency memory.readers bank.words (next_words others row memory.writers bank.words) bank.reads are.readers)

  banks-alike : (memories : List Memory) (banks : List Bank) → All (IsClockedMemory n) memories → next_banks edges row memories banks ≡ next_banks others row memories banks
  banks-alike [] banks are = refl
  banks-alike (memory ∷ memories) [] are = refl
  banks-alike (memory ∷ memories) (bank ∷ banks) are =
      ap₂ (λ (one : Bank) rest. one ∷ rest) (bank-alike memory bank (are 0 memory (omega arith))) (banks-alike memories banks (λ k d lt. are (suc k) d (omega (arith, lt))))

-- A run depends on the ratios of the circuit's own clocks alone.
module _ (circuit : FlatCircuit) (formed : IsWellFormed circuit) (start : Start) where
  abbrev own : List Ratio
  own = part_ratios (clocks_from 0 circuit.clocks) start.ratios

  abbrev own_start : Start
  own_start = record { cycle = start.cycle; state = start.state; ratios = part_ratios (clocks_from 0 circuit.clocks) start.ratios }

  ticks-own : (b : ℕ) (clock : Option ℕ) → IsClock circuit.clocks clock → ticks (edges_at (part_ratios (clocks_from 0 circuit.clocks) start.ratios) b) clock ≡ ticks (edges_at start.ratios b) clock
  ticks-own b clock is = sym (ticks-part (clocks_from 0 circuit.clocks) start.ratios b clock) ∙ ap (ticks (edges_at start.ratios b)) (clock-same circuit.clocks clock is)

  next-own : (b : ℕ) (state : State) (row : List ℕ) → next_state (edges_at (part_ratios (clocks_from 0 circuit.clocks) start.ratios) b) circuit state row ≡ next_state (edges_at start.ratios b) circuit state row
  next-own b state row =
      let make : List ℕ → List Bank → State = λ registers banks. record { registers = registers; banks = banks } in
      ap₂ make (registers-alike circuit.clocks (edges_at own b) (edges_at start.ratios b) (ticks-own b) row circuit.registers state.registers formed.register_clocks)
      (banks-alike circuit.clocks (edges_at own b) (edges_at start.ratios b) (ticks-own b) row circuit.memories state.banks formed.memory_clocks)

  state-own : (rows : List (List ℕ)) (t : ℕ) → state_at circuit (record { cycle = start.cycle; state = start.state; ratios = part_ratios (clocks_from 0 circuit.clocks) start.ratios }) rows t ≡ state_at circuit start rows t
  state-own rows zero = refl
  state-own rows (suc t) = ap (λ state. next_state (edges_at own (later start.cycle t)) circuit state (row_at rows t)) (state-own rows t) ∙ next-own (later start.cycle t) (state_at circuit start rows t) (row_at rows t)

  pub run-own : (columns : List (List ℕ)) (n : ℕ) (rows : List (List ℕ)) → IsRunFrom circuit (record { cycle = start.cycle; state = start.state; ratios = part_ratios (clocks_from 0 circuit.clocks) start.ratios }) columns n rows → IsRunFrom circuit start columns n rows
  run-own columns n rows run =
      record {
        count = run.count;
        settled = λ t lt. subst (λ state. Settled circuit state (inputs_at columns (later start.cycle t)) (row_at rows t)) (state-own rows t) (run.settled t lt);
      }

-- without clocks there are no ratios
pub no-ratios : (ratios : List Ratio) → part_ratios [] ratios ≡ []
no-ratios [] = refl
no-ratios (ratio ∷ ratios) = refl
