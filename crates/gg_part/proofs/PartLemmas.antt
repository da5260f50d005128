-- The piece that is built is a part of the whole.
use Rattle.std.proofs.Common.{◌≡◌, ℕ, ◌<◌, List, [], length, map, get_or, sym, ◌∙◌, ap, subst, arith}
use Rattle.std.specs.Prelude.{All, Contains, Option, None}
use Rattle.std.proofs.lemmas.List.{get_or-map, length-map, take_all}
use Rattle.std.proofs.lemmas.List.Elements.{Contains-get_or}
use Rattle.gg_flat.specs.declared.memory.Reader.{Reader}
use Rattle.gg_flat.specs.declared.memory.Memory.{Memory}
use Rattle.gg_flat.specs.declared.piece.Driver.{Driver}
use Rattle.gg_flat.specs.declared.piece.Driver.TheVariants.{Input, Held, MemoryWord, ReadRegister, Computed}
use Rattle.gg_flat.specs.Line.{value_at, shape_at}
use Rattle.gg_flat.specs.Circuit.{FlatCircuit, signal_shapes, driver_at, readers_at, reader_at}
use Rattle.gg_flat_tree.specs.Tree.{path_at}
use Rattle.gg_flat.specs.WellFormed.{IsWellFormed}
use Rattle.gg_flat.proofs.ListLemmas.{some-item, once-apart}
use Rattle.gg_part.specs.Part.{IsPart, IsFrom, in_whole}
use Rattle.gg_part.specs.inside.Choice.{IsChoice}
use Rattle.gg_part.specs.Building.{AreHeld}
use Rattle.gg_part.specs.inside.Building.{AreSignals, AreRegisters, AreMemories}
use Rattle.gg_part.specs.inside.Clocking.{AreTimed}
use Rattle.gg_part.proofs.FrameLemmas.{held-within}
use Rattle.gg_flat.specs.Renaming.{renamed_memory, renamed_reader}

-- a choice is one without its out-signals too, and with equal lists in place of its own
pub IsChoice-frame : (whole : FlatCircuit) (globals ins outs memories own_globals own_ins own_memories : List ℕ) → own_globals ≡ globals → own_ins ≡ ins → own_memories ≡ memories → IsChoice whole globals ins outs memories → IsChoice whole own_globals own_ins [] own_memories
IsChoice-frame whole globals ins outs memories own_globals own_ins own_memories g i m chosen =
    subst (λ l. IsChoice whole l own_ins [] own_memories) (sym g)
    (subst (λ l. IsChoice whole globals l [] own_memories) (sym i)
    (subst (λ l. IsChoice whole globals ins [] l) (sym m)
    (record {
      within = chosen.within;
      once = chosen.once;
      ins = chosen.ins;
      ins_once = chosen.ins_once;
      outs = λ k d lt. absurd (omega arith);
      given = chosen.given;
      closed = chosen.closed;
      registers = chosen.registers;
      memory_within = chosen.memory_within;
      memories_once = chosen.memories_once;
      banks = chosen.banks;
      fields = chosen.fields;
      answers = chosen.answers;
    })))

module _ (whole piece : FlatCircuit) (globals ins held memories : List ℕ) (follows : List (Option ℕ)) (formed : IsWellFormed whole) (chosen : IsChoice whole globals ins [] memories) (are_held : AreHeld whole globals ins held) (signals : AreSignals whole globals ins held memories (length globals) piece) (registers : AreRegisters whole globals held follows (length held) piece.registers) (banks : AreMemories whole globals memories follows (length memories) piece.memories) (own_ins : map (value_at globals) piece.ins ≡ ins) (ins_below : All (λ s. s < length globals) piece.ins) (outs_below : All (λ s. s < length globals) piece.outs) (clocks : piece.clocks ≡ length follows) where
  ins-count : length piece.ins ≡ length ins
  ins-count = sym (length-map piece.ins (value_at globals)) ∙ ap length own_ins

  -- an in-signal of the part, in the whole's numbers
  ins-at : (place : ℕ) → place < length piece.ins → value_at globals (value_at piece.ins place) ≡ value_at ins place
  ins-at place lt = sym (get_or-map (value_at globals) piece.ins place 0 0 lt) ∙ ap (λ l. value_at l place) own_ins

  from-local : (s : ℕ) (driver own : Driver) → s < length globals → IsFrom ins globals held memories (value_at globals s) driver own → IsFrom piece.ins globals held memories s driver own
  from-local s driver (Input place) lt from =
      let known : place < length piece.ins = omega (arith, from.0, ins-count) in
      (known, once-apart globals 0 chosen.once (value_at piece.ins place) s (ins_below place 0 known) lt (ins-at place known ∙ from.1))
  from-local s driver (Held register) lt from = from
  from-local s driver (MemoryWord m r addr en) lt from = from
  from-local s driver (ReadRegister m r) lt from = from
  from-local s driver (Computed line) lt from = from

  -- a signal that has an input as its driver is the in-signal of that place
  input-says : (s place : ℕ) → s < length globals → driver_at piece s ≡ Input place → (place < length ins) × (value_at ins place ≡ value_at globals s)
  input-says s place lt is = subst (IsFrom ins globals held memories (value_at globals s) (driver_at whole (value_at globals s))) is (signals.drivers s lt).from

  ins-driven : (place : ℕ) → place < length piece.ins → driver_at piece (value_at piece.ins place) ≡ Input place
  ins-driven place lt =
      let s = value_at piece.ins place in
      let known : s < length globals = ins_below place 0 lt in
      let inside : place < length ins = omega (arith, lt, ins-count) in
      let listed = subst (Contains ins) (sym (ins-at place lt)) (Contains-get_or ins place 0 inside) in
      let input = (signals.drivers s known).given listed in
      let says = input-says s input.0 known input.1 in
      input.1 ∙ ap Input (once-apart ins 0 chosen.ins_once input.0 place says.0 inside (says.1 ∙ ins-at place lt))

  readers-made : (m : ℕ) → m < length memories → readers_at whole (value_at memories m) ≡ map (λ reader. renamed_reader (in_whole globals follows) reader) (readers_at piece m)
  readers-made m lt =
      let within : m < length piece.memories = omega (arith, lt, banks.counted) in
      let some = some-item piece.memories m within in
      let local = get_or piece.memories m some in
      get_or-map (λ (k : Memory). k.readers) whole.memories (value_at memories m) (renamed_memory (in_whole globals follows) local) [] (chosen.memory_within m 0 lt)
      ∙ ap (λ (k : Memory). k.readers) (banks.each m some (renamed_memory (in_whole globals follows) local) lt)
      ∙ ap (map (λ reader. renamed_reader (in_whole globals follows) reader)) (sym (get_or-map (λ (k : Memory). k.readers) piece.memories m some [] within))

  word-known : (m r : ℕ) → m < length memories → r < length (readers_at piece m) → (reader_at (readers_at piece m) r).word < length globals
  word-known m r lt inside =
      let within : m < length piece.memories = omega (arith, lt, banks.counted) in
      let some = some-item piece.memories m within in
      let same : readers_at piece m ≡ (get_or piece.memories m some).readers = get_or-map (λ (k : Memory). k.readers) piece.memories m some [] within in
      subst (λ (l : List Reader). (reader_at l r).word < length globals) (sym same)
      ((banks.below m some lt).readers r (record { addr = 0; en = 0; word = 0; clock = None }) (subst (λ (l : List Reader). r < length l) same inside)).2

  not-given : (m r place : ℕ) → m < length memories → r < length (readers_at piece m) → driver_at piece (reader_at (readers_at piece m) r).word ≡ Input place → ⊥
  not-given m r place lt inside input =
      let word = (reader_at (readers_at piece m) r).word in
      let says = input-says word place (word-known m r lt inside) input in
      let renamed : reader_at (readers_at whole (value_at memories m)) r ≡ renamed_reader (in_whole globals follows) (reader_at (readers_at piece m) r) =
      ap (λ l. reader_at l r) (readers-made m lt) ∙ get_or-map (λ reader. renamed_reader (in_whole globals follows) reader) (readers_at piece m) r (record { addr = 0; en = 0; word = 0; clock = None }) (record { addr = 0; en = 0; word = 0; clock = None }) inside in
      let listed = subst (Contains ins) (says.1 ∙ ap (λ (k : Reader). k.word) (sym renamed)) (Contains-get_or ins place 0 says.0) in
      let known : r < length (readers_at whole (value_at memories m)) = omega (arith, inside, ap length (readers-made m lt), length-map (readers_at piece m) (λ reader. renamed_reader (in_whole globals follows) reader)) in
      chosen.answers (value_at memories m) r (Contains-get_or memories m 0 lt) known listed

  pub IsPart-made : IsPart whole piece globals held memories follows
  IsPart-made =
      record {
        count = signals.counted;
        within = λ s lt. chosen.within s 0 lt;
        once = chosen.once;
        paths = signals.paths ∙ ap (map (path_at whole.paths)) (take_all (length globals) globals (omega arith));
        types = signals.types ∙ ap (map (shape_at (signal_shapes whole))) (take_all (length globals) globals (omega arith));
        drivers = λ s lt. from-local s (driver_at whole (value_at globals s)) (driver_at piece s) lt (signals.drivers s lt).from;
        ins = λ place lt. (ins_below place 0 lt, ins-driven place lt);
        outs = λ place lt. outs_below place 0 lt;
        clock_count = clocks;
        register_count = registers.counted;
        register_from = λ r lt. record {
          within = held-within whole globals ins held formed chosen.within are_held r 0 lt;
          is = λ any other. registers.each r any other lt;
          below = λ any. registers.below r any lt;
          clocked = λ any. registers.clocked r any lt;
        };
        memory_count = banks.counted;
        memories_once = chosen.memories_once;
        memory_from = λ m lt. record {
          within = chosen.memory_within m 0 lt;
          is = λ any other. banks.each m any other lt;
          below = λ any. banks.below m any lt;
          clocked = λ any. banks.clocked m any lt;
          given = λ r place inside. not-given m r place lt inside;
        };
      }

-- what is timed is so by equal lists in place of its own
pub AreTimed-frame : (whole : FlatCircuit) (globals ins memories own_globals own_ins own_memories : List ℕ) (clocks own_clocks registers : List (Option ℕ)) (ports : List (List (Option ℕ))) → own_globals ≡ globals → own_ins ≡ ins → own_memories ≡ memories → own_clocks ≡ clocks
    → AreTimed whole globals ins memories clocks registers ports → AreTimed whole own_globals own_ins own_memories own_clocks registers ports
AreTimed-frame whole globals ins memories own_globals own_ins own_memories clocks own_clocks registers ports g i m c timed =
    subst (λ l. AreTimed whole l own_ins own_memories own_clocks registers ports) (sym g)
    (subst (λ l. AreTimed whole globals l own_memories own_clocks registers ports) (sym i)
    (subst (λ l. AreTimed whole globals ins l own_clocks registers ports) (sym m)
    (subst (λ l. AreTimed whole globals ins memories l registers ports) (sym c) timed)))
