-- The part of a listed memory can be cut once more, so that the memory stands alone.
use Rattle.std.proofs.Common.{◌≡◌, ℕ, zero, suc, ◌<◌, List, [], ◌∷◌, ◌++◌, length, map, get_or, sym, ◌∙◌, subst, inl, inr, ◌⊎◌, arith}
use Rattle.std.specs.Prelude.{Some, flat_map, All, Contains, slice_get, None}
use Rattle.std.proofs.lemmas.List.{get_or_default}
use Rattle.std.proofs.lemmas.List.Elements.{Contains-append_left, Contains-append_right, Contains-append_cases, Contains-get_or}
use Rattle.std.proofs.lemmas.Option.{slice_get_within, get_or_from_slice_get}
use Rattle.gg_flat.specs.declared.memory.Reader.{Reader}
use Rattle.gg_flat.specs.declared.memory.Writer.{Writer}
use Rattle.gg_flat.specs.declared.memory.Memory.{Memory}
use Rattle.gg_flat.specs.declared.piece.Driver.{Driver}
use Rattle.gg_flat.specs.declared.piece.Driver.TheVariants.{Input, Held, MemoryWord, ReadRegister, Computed}
use Rattle.gg_flat.specs.declared.piece.Register.{Register}
use Rattle.gg_flat.specs.Line.{value_at}
use Rattle.gg_flat.specs.Circuit.{FlatCircuit, driver_at, readers_at, reader_at}
use Rattle.gg_flat.specs.Reads.{NamesSignal, RegisterNames}
use Rattle.gg_flat_tree.specs.Scoped.{reader_fields, writer_fields, memory_fields}
use Rattle.gg_flat.specs.WellFormed.{IsWellFormed, MayDrive}
use Rattle.gg_part.specs.Part.{IsPart, IsFrom, MemoryBelow, RegisterBelow}
use Rattle.gg_part.specs.inside.Part.{ReadsAmong}
use Rattle.gg_part.specs.inside.Choice.{NamesMemory, IsChoice}
use Rattle.gg_part.specs.declared.part.Part.{Part}
use Rattle.gg_part.proofs.AlongLemmas.{named-in}
use Rattle.gg_cut_split.proofs.ClosedLemmas.ListLemmas.{flattened-cases, flat_map-is}
use Rattle.gg_build.proofs.PlanLemmas.MemoryPartLemmas.{IsMemoryPart}

-- ---- the only memory

-- what holds of 0 holds of each number of the list of 0 alone
only-zero : (P : ℕ → Type 0) → P 0 → All P (0 ∷ [])
only-zero P p zero d lt = p
only-zero P p (suc k) d lt = absurd (omega (arith, lt))

is-zero : (k : ℕ) → Contains (0 ∷ []) k → k ≡ 0
is-zero k (zero, lt, e) = sym e
is-zero k (suc p, lt, e) = absurd (omega (arith, lt))

-- a memory that is named by a driver of the part is one of the part's
bank-low : (ins globals held memories : List ℕ) (s k : ℕ) (whole part : Driver) → IsFrom ins globals held memories s whole part → NamesMemory part k → k < length memories
bank-low ins globals held memories s k whole (Input place) from named = absurd named
bank-low ins globals held memories s k whole (Held register) from named = absurd named
bank-low ins globals held memories s k whole (MemoryWord m r addr en) from named = subst (λ n. n < length memories) named from.0
bank-low ins globals held memories s k whole (ReadRegister m r) from named = subst (λ n. n < length memories) named from.0
bank-low ins globals held memories s k whole (Computed line) from named = absurd named

-- ---- its fields

reader-low : (n s : ℕ) (reader : Reader) → ReadsAmong n reader → Contains (reader_fields reader) s → s < n
reader-low n s reader among (zero, lt, e) = subst (λ k. k < n) e among.0
reader-low n s reader among (suc zero, lt, e) = subst (λ k. k < n) e among.1
reader-low n s reader among (suc (suc zero), lt, e) = subst (λ k. k < n) e among.2
reader-low n s reader among (suc (suc (suc p)), lt, e) = absurd (omega (arith, lt))

-- the fields of a memory whose signals are below n are below n
fields-low : (n s : ℕ) (memory : Memory) → MemoryBelow n memory → Contains (flat_map (λ reader. reader_fields reader) memory.readers ++ flat_map (λ writer. writer_fields writer) memory.writers) s → s < n
fields-low n s memory below h = by (Contains-append_cases (flat_map (λ reader. reader_fields reader) memory.readers) (flat_map (λ writer. writer_fields writer) memory.writers) s h)
  where
    nobody : Reader
    nobody = record { addr = 0; en = 0; word = 0; clock = None }

    no_writer : Writer
    no_writer = record { addr = 0; en = 0; word = 0; mask = 0; clock = None }

    in-writer : (w : ℕ) → w < length memory.writers → Contains (writer_fields (get_or memory.writers w no_writer)) s → s < n
    in-writer w lt (zero, less, e) = subst (λ k. k < n) e (below.writers w no_writer lt).0
    in-writer w lt (suc zero, less, e) = subst (λ k. k < n) e (below.writers w no_writer lt).1
    in-writer w lt (suc (suc zero), less, e) = subst (λ k. k < n) e (below.writers w no_writer lt).2
    in-writer w lt (suc (suc (suc zero)), less, e) = subst (λ k. k < n) e (below.writers w no_writer lt).3
    in-writer w lt (suc (suc (suc (suc p))), less, e) = absurd (omega (arith, less))

    by : Contains (flat_map (λ reader. reader_fields reader) memory.readers) s ⊎ Contains (flat_map (λ writer. writer_fields writer) memory.writers) s → s < n
    by (inl r) =
        let at = flattened-cases (λ (reader : Reader). reader_fields reader) memory.readers s (subst (λ (l : List ℕ). Contains l s) (flat_map-is (λ (reader : Reader). reader_fields reader) memory.readers) r) in
        reader-low n s (get_or memory.readers at.place nobody) (below.readers at.place nobody at.within) (at.holds nobody)
    by (inr w) =
        let at = flattened-cases (λ (writer : Writer). writer_fields writer) memory.writers s (subst (λ (l : List ℕ). Contains l s) (flat_map-is (λ (writer : Writer). writer_fields writer) memory.writers) w) in
        in-writer at.place at.within (at.holds no_writer)

-- ---- the choice

module _ (whole : FlatCircuit) (part : Part) (memory : Memory) (formed : IsWellFormed part.piece) (is : IsPart whole part.piece part.globals part.held part.memories part.clocks) (own : IsMemoryPart part memory) where
  -- what is chosen is a signal of the part
  pub side-low : (s : ℕ) → Contains (part.piece.ins ++ part.piece.outs) s → s < length part.globals
  side-low s h = by (Contains-append_cases part.piece.ins part.piece.outs s h)
    where
      by : Contains part.piece.ins s ⊎ Contains part.piece.outs s → s < length part.globals
      by (inl p) = subst (λ k. k < length part.globals) (get_or_default part.piece.ins p.0 0 s p.1 ∙ p.2) (is.ins p.0 p.1).0
      by (inr p) = subst (λ k. k < length part.globals) (get_or_default part.piece.outs p.0 0 s p.1 ∙ p.2) (is.outs p.0 p.1)

  input-in : (s place : ℕ) → driver_at part.piece s ≡ Input place → s < length part.globals → Contains part.piece.ins s
  input-in s place e lt =
      let may = subst (MayDrive part.piece s) e (formed.drivers s (omega (arith, lt, is.count))) in
      (place, may.0, get_or_default part.piece.ins place s 0 may.0 ∙ may.1)

  named-low : (s t : ℕ) → s < length part.globals → NamesSignal (driver_at part.piece s) t → t < length part.globals
  named-low s t lt named = (named-in part.piece.ins part.globals part.held part.memories s t (driver_at whole (value_at part.globals s)) (driver_at part.piece s) (is.drivers s lt) named).within

  register-low : (r t : ℕ) (register : Register) → slice_get part.piece.registers r ≡ Some register → RegisterNames register t → t < length part.globals
  register-low r t register found named =
      let there : r < length part.held = omega (arith, slice_get_within part.piece.registers r register found, is.register_count) in
      subst (RegisterBelow (length part.globals)) (get_or_from_slice_get part.piece.registers r register register found) ((is.register_from r there).below register) t named

  memory-low : (k s : ℕ) → Contains (0 ∷ []) k → Contains (memory_fields part.piece k) s → s < length part.globals
  memory-low k s has field =
      fields-low (length part.globals) s memory own.below
      (subst (λ (l : List Memory). Contains (flat_map (λ reader. reader_fields reader) (get_or (map (λ (x : Memory). x.readers) l) 0 []) ++ flat_map (λ writer. writer_fields writer) (get_or (map (λ (x : Memory). x.writers) l) 0 [])) s) own.only
      (subst (λ n. Contains (memory_fields part.piece n) s) (is-zero k has) field))

  no-answer : (k r : ℕ) → Contains (0 ∷ []) k → r < length (readers_at part.piece k) → ¬ Contains part.piece.ins (reader_at (readers_at part.piece k) r).word
  no-answer k r has lt taken =
      let same = is-zero k has in
      let inside = subst (λ n. r < length (readers_at part.piece n)) same lt in
      let word = (reader_at (readers_at part.piece 0) r).word in
      let among = subst (λ n. Contains part.piece.ins (reader_at (readers_at part.piece n) r).word) same taken in
      let given = (is.memory_from 0 (omega (arith, own.count))).given r among.0 inside in
      given (subst (λ s. driver_at part.piece s ≡ Input among.0) (get_or_default part.piece.ins among.0 0 word among.1 ∙ among.2) (is.ins among.0 among.1).1)

  pub chosen : IsChoice part.piece (part.piece.ins ++ part.piece.outs) part.piece.ins part.piece.outs (0 ∷ [])
  chosen =
      let ins = part.piece.ins in
      let outs = part.piece.outs in
      record {
        within = λ k d lt. let low = side-low (get_or (ins ++ outs) k d) (Contains-get_or (ins ++ outs) k d lt) in omega (arith, low, is.count);
        once = own.once;
        ins = λ k d lt. Contains-append_left ins outs (get_or ins k d) (Contains-get_or ins k d lt);
        ins_once = own.ins_once;
        outs = λ k d lt. Contains-append_right ins outs (get_or outs k d) (Contains-get_or outs k d lt);
        given = λ s place e h. input-in s place e (side-low s h);
        closed = λ s t h not named. own.sides t (named-low s t (side-low s h) named);
        registers = λ s r t register h not holds found named. own.sides t (register-low r t register found named);
        memory_within = only-zero (λ k. k < length part.piece.memories) (omega (arith, is.memory_count, own.count));
        memories_once = λ i j d less lt. absurd (omega (arith, less, lt));
        banks = λ s k h not named.
            let low = bank-low ins part.globals part.held part.memories s k (driver_at whole (value_at part.globals s)) (driver_at part.piece s) (is.drivers s (side-low s h)) named in
            (0, omega arith, let same : 0 ≡ k = omega (arith, low, own.count) in same);
        fields = λ k s has field. own.sides s (memory-low k s has field);
        answers = no-answer;
      }
