-- A run in which each clock has an edge in each tick is the run without ratios.
use Rattle.std.proofs.Common.{◌≡◌, ◌*◌, ◌/◌, ℕ, zero, suc, List, [], ◌∷◌, map, Bool, true, Option, Some, None, refl, sym, ◌∙◌, ap, ap₂, subst, arith}
use Rattle.std.specs.Prelude.{All, ◌&&◌, ◌==◌, if◌then◌else◌}
use Rattle.std.proofs.lemmas.Bool.{lt-ltb}
use Rattle.gg_flat.specs.Clock.{Ratio, edge, edges_at, ticks}
use Rattle.gg_flat.specs.Line.{value_at}
use Rattle.gg_flat.specs.Circuit.{FlatCircuit}
use Rattle.gg_flat.specs.Memory.{Bank, found_word, hits, next_bank, next_banks, next_reads, late_reads, next_word, next_words, next_words_from, words_read}
use Rattle.gg_flat.specs.Run.{IsRun, IsRunFrom, clocked_start, inputs_at, opening_start, row_at, state_at}
use Rattle.gg_flat.specs.Settled.{Settled}
use Rattle.gg_flat.specs.State.{State, next_registers, next_state, taken_value}
use Rattle.gg_flat.specs.declared.memory.Latency.{Latency}
use Rattle.gg_flat.specs.declared.memory.Latency.TheVariants.{Zero, One}
use Rattle.gg_flat.specs.declared.memory.Memory.{Memory}
use Rattle.gg_flat.specs.declared.memory.Reader.{Reader}
use Rattle.gg_flat.specs.declared.memory.Writer.{Writer}
use Rattle.gg_flat.specs.declared.piece.Register.{Register}

-- ---- a tick with an edge of each clock

without-edges : (clock : Option ℕ) → ticks [] clock ≡ true
without-edges None = refl
without-edges (Some clock) = refl

module _ (edges : List Bool) (all : (clock : Option ℕ) → ticks edges clock ≡ true) where
  same : (clock : Option ℕ) → ticks edges clock ≡ ticks [] clock
  same clock = all clock ∙ sym (without-edges clock)

  registers-same : (signals : List ℕ) (registers : List Register) (own : List ℕ) → next_registers edges signals registers own ≡ next_registers [] signals registers own
  registers-same signals [] own = refl
  registers-same signals (register ∷ registers) [] = refl
  registers-same signals (register ∷ registers) (own ∷ others) =
      ap₂ (λ b (l : List ℕ). (if b then taken_value signals register own else own) ∷ l) (same register.clock) (registers-same signals registers others)

  word-same : (signals : List ℕ) (writers : List Writer) (a own : ℕ) → next_word edges signals writers a own ≡ next_word [] signals writers a own
  word-same signals [] a own = refl
  word-same signals (writer ∷ writers) a own =
      word-same signals writers a (if hits edges signals writer a then value_at signals writer.word else own)
      ∙ ap (λ b. next_word [] signals writers a (if b && (value_at signals writer.en == 1) && (value_at signals writer.mask == 1) && (value_at signals writer.addr == a) then value_at signals writer.word else own)) (same writer.clock)

  words-same : (signals : List ℕ) (writers : List Writer) (a : ℕ) (words : List ℕ) → next_words_from edges signals writers a words ≡ next_words_from [] signals writers a words
  words-same signals writers a [] = refl
  words-same signals writers a (own ∷ words) = ap₂ (λ (w : ℕ) (l : List ℕ). w ∷ l) (word-same signals writers a own) (words-same signals writers (suc a) words)

  late-same : (signals words : List ℕ) (readers : List Reader) (own : List ℕ) → late_reads edges signals words readers own ≡ late_reads [] signals words readers own
  late-same signals words [] own = refl
  late-same signals words (reader ∷ readers) [] = refl
  late-same signals words (reader ∷ readers) (own ∷ others) =
      ap₂ (λ b (l : List ℕ). (if b then found_word signals words reader else own) ∷ l) (same reader.clock) (late-same signals words readers others)

  reads-same : (signals : List ℕ) (latency : Latency) (readers : List Reader) (before after own : List ℕ) → next_reads edges signals latency readers before after own ≡ next_reads [] signals latency readers before after own
  reads-same signals Zero readers before after own = refl
  reads-same signals (One under) readers before after own = late-same signals (words_read under before after) readers own

  bank-same : (signals : List ℕ) (memory : Memory) (bank : Bank) → next_bank edges signals memory bank ≡ next_bank [] signals memory bank
  bank-same signals memory bank =
      let make : List ℕ → List ℕ → Bank = λ words reads. record { words = words; reads = reads } in
      ap₂ make (words-same signals memory.writers 0 bank.words)
      (reads-same signals memory.latency memory.readers bank.words (next_words edges signals memory.writers bank.words) bank.reads
      ∙ ap (λ (after : List ℕ). next_reads [] signals memory.latency memory.readers bank.words after bank.reads) (words-same signals memory.writers 0 bank.words))

  banks-same : (signals : List ℕ) (memories : List Memory) (banks : List Bank) → next_banks edges signals memories banks ≡ next_banks [] signals memories banks
  banks-same signals [] banks = refl
  banks-same signals (memory ∷ memories) [] = refl
  banks-same signals (memory ∷ memories) (bank ∷ banks) = ap₂ (λ (b : Bank) (l : List Bank). b ∷ l) (bank-same signals memory bank) (banks-same signals memories banks)

  next-same : (circuit : FlatCircuit) (state : State) (signals : List ℕ) → next_state edges circuit state signals ≡ next_state [] circuit state signals
  next-same circuit state signals =
      let make : List ℕ → List Bank → State = λ registers banks. record { registers = registers; banks = banks } in
      ap₂ make (registers-same signals circuit.registers state.registers) (banks-same signals circuit.memories state.banks)

-- ---- clocks with an edge in each tick

-- each of these is an edge in each tick
abbrev pub AreAlways : List Ratio → Type 0
AreAlways ratios = All (λ ratio. ratio ≡ record { m = 1; d = 1 }) ratios

pub edge-every : (b : ℕ) → edge (record { m = 1; d = 1 }) b ≡ true
edge-every b = lt-ltb (b * 1 / 1) (suc b * 1 / 1) (omega arith)

ticks-always : (ratios : List Ratio) → AreAlways ratios → (b : ℕ) (clock : Option ℕ) → ticks (edges_at ratios b) clock ≡ true
ticks-always ratios are b None = refl
ticks-always [] are b (Some clock) = refl
ticks-always (ratio ∷ ratios) are b (Some zero) = ap (λ (r : Ratio). edge r b) (are zero ratio (omega arith)) ∙ edge-every b
ticks-always (ratio ∷ ratios) are b (Some (suc clock)) = ticks-always ratios (λ k d lt. are (suc k) d (omega (arith, lt))) b (Some clock)

module _ (circuit : FlatCircuit) (ratios : List Ratio) (are : AreAlways ratios) where
  state-always : (rows : List (List ℕ)) (t : ℕ) → state_at circuit (clocked_start circuit ratios) rows t ≡ state_at circuit (opening_start circuit) rows t
  state-always rows zero = refl
  state-always rows (suc t) =
      next-same (edges_at ratios t) (ticks-always ratios are t) circuit (state_at circuit (clocked_start circuit ratios) rows t) (row_at rows t)
      ∙ ap (λ (state : State). next_state [] circuit state (row_at rows t)) (state-always rows t)

  pub run-without-ratios : (columns : List (List ℕ)) (n : ℕ) (rows : List (List ℕ)) → IsRunFrom circuit (clocked_start circuit ratios) columns n rows → IsRun circuit columns n rows
  run-without-ratios columns n rows run =
      record { count = run.count; settled = λ t lt. subst (λ (state : State). Settled circuit state (inputs_at columns t) (row_at rows t)) (state-always rows t) (run.settled t lt) }

-- the ratios of clocks for which none is given
pub always-of : (names : List (List ℕ)) → AreAlways (map (λ name. record { m = 1; d = 1 }) names)
always-of [] k d lt = absurd (omega (arith, lt))
always-of (name ∷ names) zero d lt = refl
always-of (name ∷ names) (suc k) d lt = always-of names k d (omega (arith, lt))
