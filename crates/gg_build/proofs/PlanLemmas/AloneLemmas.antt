-- A memory that was cut from its part is a piece of its own, with the in-signals first.
use Rattle.std.proofs.Common.{◌≡◌, ℕ, ◌+◌, ◌^◌, ◌<◌, List, [], ◌∷◌, ◌++◌, length, map, get_or, sym, ◌∙◌, ap, subst, inl, inr, ◌⊎◌, arith}
use Rattle.std.specs.Prelude.{All, Contains, None}
use Rattle.std.proofs.lemmas.List.{nil_from_length, length-map, length-append, get_or-map, get_or_default, get_or_append_left}
use Rattle.std.proofs.lemmas.List.Elements.{Contains-append_cases}
use Rattle.gg_flat.specs.declared.memory.Latency.{Latency}
use Rattle.gg_flat.specs.declared.memory.Latency.TheVariants.{Zero, One}
use Rattle.gg_flat.specs.declared.memory.Reader.{Reader}
use Rattle.gg_flat.specs.declared.memory.Memory.{Memory}
use Rattle.gg_flat.specs.declared.piece.Driver.TheVariants.{Held}
use Rattle.gg_flat.specs.Line.{value_at}
use Rattle.gg_flat.specs.Circuit.{driver_at}
use Rattle.gg_flat.specs.Memory.{LooksAmong, WritesAmong}
use Rattle.gg_flat.specs.WellFormed.{IsWellFormed, AreDriven, reader_driver}
use Rattle.gg_flat.proofs.ListLemmas.{once-apart}
use Rattle.gg_part.specs.Part.{MemoryBelow, in_whole}
use Rattle.gg_part.specs.Building.{IsHeldIn}
use Rattle.gg_part.specs.declared.part.Part.{Part}
use Rattle.gg_part.proofs.FormedLemmas.{IsWellFormed-part}
use Rattle.gg_cut_split.proofs.ClosedLemmas.ListLemmas.{map-cases}
use Rattle.gg_memunit.specs.MemoryUnit.{outs_of, IsMemoryPiece}
use Rattle.gg_memunit.proofs.UnitLemmas.{sole, of-only}
use Rattle.gg_build.specs.inside.Alone.{IsCutAgain}
use Rattle.gg_build.proofs.PlanLemmas.NumberLemmas.{none-in}
use Rattle.gg_build.proofs.PlanLemmas.BackLemmas.{All-unmap, words-back}
use Rattle.gg_build.proofs.PlanLemmas.MemoryPartLemmas.{ReaderAmong, WriterAmong, IsMemoryPart}
use Rattle.gg_flat.specs.Renaming.{renamed_memory, renamed_reader, renamed_writer}

-- ---- registers

-- the data of a reader holds no register
no-register : (latency : Latency) (r k : ℕ) (reader : Reader) → reader_driver latency 0 r reader ≡ Held k → ⊥
no-register Zero r k reader e = cc
no-register (One under) r k reader e = cc

module _ (part alone : Part) (memory : Memory) (formed : IsWellFormed part.piece) (own : IsMemoryPart part memory) (is : IsCutAgain part alone) where
  -- the driver of a reader's data
  word-driver : (r : ℕ) (any : Reader) → r < length memory.readers → driver_at part.piece (get_or memory.readers r any).word ≡ reader_driver memory.latency 0 r (get_or memory.readers r any)
  word-driver r any lt =
      let some : 0 < length part.piece.memories = omega (arith, ap length own.only) in
      let driven = subst (λ (l : List Memory). AreDriven (driver_at part.piece) 0 (get_or (map (λ (x : Memory). x.latency) l) 0 Zero) (get_or (map (λ (x : Memory). x.readers) l) 0 [])) own.only (formed.reads 0 some) in
      let same = get_or_default memory.readers r (record { addr = 0; en = 0; word = 0; clock = None }) any lt in
      subst (λ (reader : Reader). driver_at part.piece reader.word ≡ reader_driver memory.latency 0 r reader) same (driven r lt)

  holds-nothing : (k : ℕ) → Contains alone.held k → ⊥
  holds-nothing k h = by (is.held.sound k h)
    where
      out : (s : ℕ) → Contains part.piece.outs s → driver_at part.piece s ≡ Held k → ⊥
      out s p holds =
          let at = map-cases (λ (reader : Reader). reader.word) memory.readers s (subst (λ (l : List ℕ). Contains l s) own.words p) in
          let any : Reader = record { addr = 0; en = 0; word = 0; clock = None } in
          no-register memory.latency at.place k (get_or memory.readers at.place any) (sym (word-driver at.place any at.within) ∙ ap (driver_at part.piece) (at.holds any) ∙ holds)

      side : (s : ℕ) → (Contains part.piece.ins s → ⊥) → driver_at part.piece s ≡ Held k → Contains part.piece.ins s ⊎ Contains part.piece.outs s → ⊥
      side s inside holds (inl p) = inside p
      side s inside holds (inr p) = out s p holds

      by : IsHeldIn part.piece (part.piece.ins ++ part.piece.outs) part.piece.ins k → ⊥
      by held = side held.signal held.holds.inside held.holds.holds (Contains-append_cases part.piece.ins part.piece.outs held.signal held.chosen)

  no-registers : alone.piece.registers ≡ []
  no-registers = nil_from_length alone.piece.registers (is.is_part.register_count ∙ none-in alone.held holds-nothing)

  -- ---- in-signals

  in-count : length alone.piece.ins ≡ length part.piece.ins
  in-count = sym (length-map alone.piece.ins (value_at alone.globals)) ∙ ap length is.ins

  globals-count : length alone.globals ≡ length (part.piece.ins ++ part.piece.outs)
  globals-count = ap length is.globals

  in-place : (i : ℕ) → i < length part.piece.ins → value_at alone.globals i ≡ value_at part.piece.ins i
  in-place i lt = ap (λ (l : List ℕ). value_at l i) is.globals ∙ get_or_append_left part.piece.ins part.piece.outs 0 i lt

  high : (i : ℕ) → i < length part.piece.ins → i < length alone.globals
  high i lt = omega (arith, lt, globals-count, length-append part.piece.ins part.piece.outs)

  in-first : (i : ℕ) → i < length alone.piece.ins → value_at alone.piece.ins i ≡ i
  in-first i lt =
      let low : i < length part.piece.ins = omega (arith, lt, in-count) in
      once-apart alone.globals 0 is.is_part.once (value_at alone.piece.ins i) i (is.is_part.ins i lt).0 (high i low)
      (sym (get_or-map (value_at alone.globals) alone.piece.ins i 0 0 lt) ∙ ap (λ (l : List ℕ). value_at l i) is.ins ∙ sym (in-place i low))

  -- a signal that stands for an in-signal of the part is one of the first
  field-low : (s : ℕ) → s < length alone.globals → Contains part.piece.ins (value_at alone.globals s) → s < length alone.piece.ins
  field-low s lt h =
      let same : s ≡ h.0 = once-apart alone.globals 0 is.is_part.once s h.0 lt (high h.0 h.1) (sym (in-place h.0 h.1 ∙ get_or_default part.piece.ins h.0 0 (value_at alone.globals s) h.1 ∙ h.2)) in
      omega (arith, same, h.1, in-count)

  -- ---- the memory

  first : value_at alone.memories 0 ≡ 0
  first = ap (λ (l : List ℕ). value_at l 0) is.memories

  count : length alone.memories ≡ 1
  count = ap length is.memories

  module _ (inner : Memory) (only : alone.piece.memories ≡ inner ∷ []) where
    whole : memory ≡ renamed_memory (in_whole alone.globals alone.clocks) inner
    whole =
        ap (λ (l : List Memory). get_or l 0 memory) (sym own.only)
        ∙ ap (λ k. get_or part.piece.memories k memory) (sym first)
        ∙ (is.is_part.memory_from 0 (omega (arith, count))).is inner memory
        ∙ ap (λ (l : List Memory). renamed_memory (in_whole alone.globals alone.clocks) (get_or l 0 inner)) only

    below : MemoryBelow (length alone.globals) inner
    below = subst (λ (l : List Memory). MemoryBelow (length alone.globals) (get_or l 0 inner)) only ((is.is_part.memory_from 0 (omega (arith, count))).below inner)

    looks : All (LooksAmong (length alone.piece.ins)) inner.readers
    looks r any lt =
        let among = All-unmap (ReaderAmong part.piece.ins) (renamed_reader (in_whole alone.globals alone.clocks)) inner.readers (subst (λ (x : Memory). All (ReaderAmong part.piece.ins) x.readers) whole own.looks) r any lt in
        let at = below.readers r any lt in
        let reader = get_or inner.readers r any in
        (field-low reader.addr at.0 among.0, field-low reader.en at.1 among.1)

    writes : All (WritesAmong (length alone.piece.ins)) inner.writers
    writes r any lt =
        let among = All-unmap (WriterAmong part.piece.ins) (renamed_writer (in_whole alone.globals alone.clocks)) inner.writers (subst (λ (x : Memory). All (WriterAmong part.piece.ins) x.writers) whole own.writes) r any lt in
        let at = below.writers r any lt in
        let writer = get_or inner.writers r any in
        (field-low writer.addr at.0 among.0, field-low writer.en at.1 among.1, field-low writer.word at.2 among.2, field-low writer.mask at.3 among.3)

    few : length inner.readers + length inner.writers < 2 ^ 32
    few =
        let reads : length memory.readers ≡ length inner.readers = ap (λ (x : Memory). length x.readers) whole ∙ length-map inner.readers (renamed_reader (in_whole alone.globals alone.clocks)) in
        let writes : length memory.writers ≡ length inner.writers = ap (λ (x : Memory). length x.writers) whole ∙ length-map inner.writers (renamed_writer (in_whole alone.globals alone.clocks)) in
        omega (arith, reads, writes, own.few)

    words : alone.piece.outs ≡ map (λ (reader : Reader). reader.word) inner.readers
    words =
        words-back alone.globals is.is_part.once alone.clocks alone.piece.outs inner.readers is.is_part.outs below.readers
        (is.outs ∙ own.words ∙ ap (λ (x : Memory). map (λ (reader : Reader). reader.word) x.readers) whole)

    piece-with : IsMemoryPiece alone.piece
    piece-with =
        record {
          formed = IsWellFormed-part part.piece alone.piece alone.globals alone.held alone.memories alone.clocks formed is.is_part;
          one = is.is_part.memory_count ∙ count;
          alone = no-registers;
          first = in-first;
          readers = of-only (λ (x : Memory). All (LooksAmong (length alone.piece.ins)) x.readers) alone.piece.memories inner only looks;
          writers = of-only (λ (x : Memory). All (WritesAmong (length alone.piece.ins)) x.writers) alone.piece.memories inner only writes;
          few = of-only (λ (x : Memory). length x.readers + length x.writers < 2 ^ 32) alone.piece.memories inner only few;
          outs = words ∙ sym (ap outs_of only);
        }

  pub stands-alone : IsMemoryPiece alone.piece
  stands-alone = let found = sole alone.piece.memories (is.is_part.memory_count ∙ count) in piece-with found.0 found.1
