-- What leads back from the numbers of the whole to those of a part.
use Rattle.std.proofs.Common.{◌≡◌, ◌≢◌, ap₂, inl, inr, ℕ, ◌<◌, List, length, refl, sym, ◌∙◌, ap, subst, arith}
use Rattle.std.specs.Prelude.{Option, Contains, All}
use Rattle.std.proofs.lemmas.List.{get_or_default}
use Rattle.gg_flat.specs.declared.line.Node.{Node}
use Rattle.gg_flat.specs.declared.memory.Reader.{Reader}
use Rattle.gg_flat.specs.declared.memory.Writer.{Writer}
use Rattle.gg_flat.specs.declared.piece.Register.{Register}
use Rattle.gg_flat.specs.declared.piece.Driver.{Driver}
use Rattle.gg_flat.specs.declared.piece.Driver.TheVariants.{Input, Held, MemoryWord, ReadRegister, Computed}
use Rattle.gg_flat.specs.Reads.{NamesSignal}
use Rattle.gg_part.specs.inside.Choice.{NamesMemory}
use Rattle.gg_flat.specs.Line.{value_at}
use Rattle.gg_flat_tree.specs.Clocked.{clock_at}
use Rattle.gg_flat_tree.specs.Scoped.{reader_fields, writer_fields}
use Rattle.gg_part.specs.inside.Numbers.{ArePlaces}
use Rattle.gg_part.specs.inside.Local.{own_by}
use Rattle.gg_part.specs.Part.{IsFrom, in_whole, NamesBelow, RegisterBelow}
use Rattle.gg_part.specs.inside.Part.{ReadsAmong}
use Rattle.gg_flat.specs.Memory.{WritesAmong}
use Rattle.gg_flat.specs.Named.{NamesOnly, RegisterNamesOnly}
use Rattle.gg_flat.proofs.RenamedLineLaws.{line-agree, line-same, line-twice, only-there}
use Rattle.gg_flat.proofs.RenamedLaws.{register-agree, register-only, register-same, register-twice, reader-agree, writer-agree}
use Rattle.gg_flat.specs.Renaming.{Renaming, renamed_driver, renamed_line, renamed_reader, renamed_register, renamed_writer}
use Rattle.gg_flat.specs.inside.Renaming.{one_by_one, same_numbers}

-- what leads back from each of these numbers to a place where it stands
pub record LeadsBack (globals : List ℕ) (back : ℕ → ℕ) : Type 0 where
  pub found : (s : ℕ) → Contains globals s → value_at globals (back s) ≡ s
  pub within : (s : ℕ) → Contains globals s → back s < length globals

-- a table does
pub table-back : (globals places : List ℕ) → ArePlaces globals (length globals) places → LeadsBack globals (value_at places)
table-back globals places are =
    record {
      found = λ s among. subst (λ t. value_at globals (value_at places t) ≡ t) (at s among) (are.found among.0 among.1);
      within = λ s among. subst (λ t. value_at places t < length globals) (at s among) (are.within among.0 among.1);
    }
  where
    at : (s : ℕ) (among : Contains globals s) → value_at globals among.0 ≡ s
    at s among = get_or_default globals among.0 0 s among.1 ∙ among.2

module _ (globals : List ℕ) (back : ℕ → ℕ) (leads_back : LeadsBack globals back) where
  pub line-back : (line : List Node) → NamesOnly (Contains globals) line → renamed_line (value_at globals) (renamed_line back line) ≡ line
  line-back line among =
      line-twice back (value_at globals) line
      ∙ line-agree (λ s. value_at globals (back s)) (λ s. s) line (λ s named. leads_back.found s (among s named))
      ∙ line-same line

  pub line-below : (line : List Node) → NamesOnly (Contains globals) line → NamesBelow (length globals) (renamed_line back line)
  line-below line among = only-there back (λ s. s < length globals) line (λ s named. leads_back.within s (among s named))

  pub register-back : (clocks : List (Option ℕ)) (clock : Option ℕ) (register : Register) → RegisterNamesOnly (Contains globals) register → clock_at clocks clock ≡ register.clock → renamed_register (in_whole globals clocks) (renamed_register (own_by back clock) register) ≡ register
  register-back clocks clock register among leads =
      register-twice (own_by back clock) (in_whole globals clocks) register
      ∙ register-agree (one_by_one (own_by back clock) (in_whole globals clocks)) same_numbers register (λ s named. leads_back.found s (among s named)) leads
      ∙ register-same register

  pub register-below : (clock : Option ℕ) (register : Register) → RegisterNamesOnly (Contains globals) register → RegisterBelow (length globals) (renamed_register (own_by back clock) register)
  register-below clock register among = register-only (own_by back clock) (λ s. s < length globals) register (λ s named. leads_back.within s (among s named))

  pub reader-back : (clocks : List (Option ℕ)) (clock : Option ℕ) (reader : Reader) → All (Contains globals) (reader_fields reader) → clock_at clocks clock ≡ reader.clock → renamed_reader (in_whole globals clocks) (renamed_reader (own_by back clock) reader) ≡ reader
  reader-back clocks clock reader among leads =
      reader-agree (one_by_one (own_by back clock) (in_whole globals clocks)) same_numbers reader (leads_back.found reader.addr (among 0 0 (omega arith)), leads_back.found reader.en (among 1 0 (omega arith)), leads_back.found reader.word (among 2 0 (omega arith))) leads

  pub reader-below : (clock : Option ℕ) (reader : Reader) → All (Contains globals) (reader_fields reader) → ReadsAmong (length globals) (renamed_reader (own_by back clock) reader)
  reader-below clock reader among = (leads_back.within reader.addr (among 0 0 (omega arith)), leads_back.within reader.en (among 1 0 (omega arith)), leads_back.within reader.word (among 2 0 (omega arith)))

  pub writer-back : (clocks : List (Option ℕ)) (clock : Option ℕ) (writer : Writer) → All (Contains globals) (writer_fields writer) → clock_at clocks clock ≡ writer.clock → renamed_writer (in_whole globals clocks) (renamed_writer (own_by back clock) writer) ≡ writer
  writer-back clocks clock writer among leads =
      writer-agree (one_by_one (own_by back clock) (in_whole globals clocks)) same_numbers writer (leads_back.found writer.addr (among 0 0 (omega arith)), leads_back.found writer.en (among 1 0 (omega arith)), leads_back.found writer.word (among 2 0 (omega arith)), leads_back.found writer.mask (among 3 0 (omega arith))) leads

  pub writer-below : (clock : Option ℕ) (writer : Writer) → All (Contains globals) (writer_fields writer) → WritesAmong (length globals) (renamed_writer (own_by back clock) writer)
  writer-below clock writer among = (leads_back.within writer.addr (among 0 0 (omega arith)), leads_back.within writer.en (among 1 0 (omega arith)), leads_back.within writer.word (among 2 0 (omega arith)), leads_back.within writer.mask (among 3 0 (omega arith)))

-- the driver that a signal of the part gets by the tables comes from the whole
module _ (globals held memories : List ℕ) (signals_back registers_back memories_back : ℕ → ℕ) (signals_lead : LeadsBack globals signals_back) (registers_lead : LeadsBack held registers_back) (memories_lead : LeadsBack memories memories_back) (ins : List ℕ) (s : ℕ) (clock : Option ℕ) where
  abbrev by_tables : Renaming
  by_tables = record { signals = signals_back; registers = registers_back; memories = memories_back; clocks = λ c. clock }

  pub driver-from : (driver : Driver) → ((place : ℕ) → driver ≢ Input place) → ((t : ℕ) → NamesSignal driver t → Contains globals t) → ((r : ℕ) → driver ≡ Held r → Contains held r) → ((m : ℕ) → NamesMemory driver m → Contains memories m) → IsFrom ins globals held memories s driver (renamed_driver by_tables driver)
  driver-from (Input place) inside signals registers memories = absurd (inside place refl)
  driver-from (Held r) inside signals registers memories = let c = registers r refl in (registers_lead.within r c, ap Held (sym (registers_lead.found r c)))
  driver-from (MemoryWord m r addr en) inside signals registers memories =
      let a = signals addr (inl refl) in
      let e = signals en (inr refl) in
      let c = memories m refl in (
        memories_lead.within m c,
        signals_lead.within addr a,
        signals_lead.within en e,
        ap₂ (λ x y. MemoryWord m r x y) (sym (signals_lead.found addr a)) (sym (signals_lead.found en e)) ∙ ap (λ k. MemoryWord k r (value_at globals (signals_back addr)) (value_at globals (signals_back en))) (sym (memories_lead.found m c)),
      )
  driver-from (ReadRegister m r) inside signals registers memories = let c = memories m refl in (memories_lead.within m c, ap (λ k. ReadRegister k r) (sym (memories_lead.found m c)))
  driver-from (Computed line) inside signals registers memories = (line-below globals signals_back signals_lead line signals, ap Computed (sym (line-back globals signals_back signals_lead line signals)))
