-- What is well formed in a part is so in the whole, under the whole's numbers.
use Rattle.std.proofs.Common.{◌≡◌, ◌≢◌, ℕ, ◌<◌, List, [], length, map, get_or, Option, None, refl, sym, ◌∙◌, ap, ap₂, subst, arith}
use Rattle.std.proofs.lemmas.List.{get_or-map, length-map}
use Rattle.std.proofs.lemmas.List.Elements.{All-map}
use Rattle.gg_bits.specs.Shape.{Shape, shape, uint}
use Rattle.gg_flat.specs.declared.line.Node.{Node}
use Rattle.gg_flat.specs.declared.memory.Latency.{Latency}
use Rattle.gg_flat.specs.declared.memory.Latency.TheVariants.{Zero, One as Late}
use Rattle.gg_flat.specs.declared.memory.Reader.{Reader}
use Rattle.gg_flat.specs.declared.memory.Writer.{Writer}
use Rattle.gg_flat.specs.declared.memory.Memory.{Memory}
use Rattle.gg_flat.specs.declared.piece.Register.{Register}
use Rattle.gg_flat.specs.declared.piece.Driver.{Driver}
use Rattle.gg_flat.specs.declared.piece.Driver.TheVariants.{Input, Held, MemoryWord, ReadRegister, Computed}
use Rattle.gg_flat.specs.Line.{value_at, shape_at, HasType, IsSource}
use Rattle.gg_flat.specs.Circuit.{FlatCircuit, signal_shapes, driver_at, readers_at, latency_at, reader_at}
use Rattle.gg_flat.specs.WellFormed.{IsWellFormed, IsDataOf, MayDrive, IsRegister, IsMemory, IsClock, IsClockedMemory, AreDriven, reader_driver}
use Rattle.gg_flat.proofs.ListLemmas.{some-item}
use Rattle.gg_part.specs.Part.{IsPart, IsFrom, in_whole}
use Rattle.gg_flat.proofs.RenamedLineLaws.{source-there}
use Rattle.gg_flat.proofs.RenamedLaws.{register-there, memory-there}
use Rattle.gg_part.proofs.RunLemmas.{shape-part, length-shapes}
use Rattle.gg_bridge.proofs.ClockLemmas.{AreAmong}
use Rattle.gg_flat.specs.Renaming.{renamed_line, renamed_memory, renamed_reader, renamed_register, renamed_writer}

module _ (whole part : FlatCircuit) (globals held memories : List ℕ) (clocks : List (Option ℕ)) (is : IsPart whole part globals held memories clocks) where
  pub lift-type : (s : ℕ) (sh : Shape) → HasType (signal_shapes part) s sh → HasType (signal_shapes whole) (value_at globals s) sh
  lift-type s sh typed =
      let low : s < length globals = omega (arith, typed.0, length-shapes whole part globals held memories clocks is) in
      (omega (arith, is.within s low, length-map whole.signals (λ signal. shape signal.ty)), sym (shape-part whole part globals held memories clocks is s low) ∙ typed.1)

  pub lift-source : (sink : Shape) (line : List Node) → IsSource (HasType (signal_shapes part)) sink line → IsSource (HasType (signal_shapes whole)) sink (renamed_line (value_at globals) line)
  lift-source sink line source = source-there (value_at globals) (HasType (signal_shapes part)) (HasType (signal_shapes whole)) sink line (λ s named. lift-type s) source

  -- ---- registers

  register-lifted : (register : Register) → IsRegister (HasType (signal_shapes part)) register → IsRegister (HasType (signal_shapes whole)) (renamed_register (in_whole globals clocks) register)
  register-lifted register typed = register-there (in_whole globals clocks) (HasType (signal_shapes part)) (HasType (signal_shapes whole)) register (λ s named. lift-type s) typed

  pub lift-register : IsWellFormed part → (r : ℕ) (any : Register) → r < length held → IsRegister (HasType (signal_shapes whole)) (get_or whole.registers (value_at held r) any)
  lift-register formed r any lt =
      let inside : r < length part.registers = omega (arith, lt, is.register_count) in
      let some = some-item part.registers r inside in
      subst (IsRegister (HasType (signal_shapes whole))) (sym ((is.register_from r lt).is some any)) (register-lifted (get_or part.registers r some) (formed.registers r some inside))

  pub lift-register-clock : AreAmong whole.clocks clocks → (r : ℕ) (any : Register) → r < length held → IsClock whole.clocks (get_or whole.registers (value_at held r) any).clock
  lift-register-clock among r any lt =
      let inside : r < length part.registers = omega (arith, lt, is.register_count) in
      let some = some-item part.registers r inside in
      subst (λ (register : Register). IsClock whole.clocks register.clock) (sym ((is.register_from r lt).is some any))
      (among (get_or part.registers r some).clock ((is.register_from r lt).clocked some))

  -- ---- memories

  pub lift-memory : IsWellFormed part → (m : ℕ) (any : Memory) → m < length memories → IsMemory (HasType (signal_shapes whole)) (get_or whole.memories (value_at memories m) any)
  lift-memory formed m any lt =
      let inside : m < length part.memories = omega (arith, lt, is.memory_count) in
      let some = some-item part.memories m inside in
      let memory = get_or part.memories m some in
      let typed = formed.memories m some inside in
      subst (IsMemory (HasType (signal_shapes whole))) (sym ((is.memory_from m lt).is some any))
      (memory-there (in_whole globals clocks) (HasType (signal_shapes part)) (HasType (signal_shapes whole)) memory
      (record { readers = λ k d low. (lift-type _, lift-type _, lift-type _); writers = λ k d low. (lift-type _, lift-type _, lift-type _, lift-type _) }) typed)

  pub lift-memory-clocks : AreAmong whole.clocks clocks → (m : ℕ) (any : Memory) → m < length memories → IsClockedMemory whole.clocks (get_or whole.memories (value_at memories m) any)
  lift-memory-clocks among m any lt =
      let inside : m < length part.memories = omega (arith, lt, is.memory_count) in
      let some = some-item part.memories m inside in
      let memory = get_or part.memories m some in
      let typed = (is.memory_from m lt).clocked some in
      subst (IsClockedMemory whole.clocks) (sym ((is.memory_from m lt).is some any))
      (record {
        readers = All-map (λ (reader : Reader). IsClock whole.clocks reader.clock) (λ reader. renamed_reader (in_whole globals clocks) reader) memory.readers (λ k d low. among (get_or memory.readers k d).clock (typed.readers k d low));
        writers = All-map (λ (writer : Writer). IsClock whole.clocks writer.clock) (λ writer. renamed_writer (in_whole globals clocks) writer) memory.writers (λ k d low. among (get_or memory.writers k d).clock (typed.writers k d low));
      })

  readers-whole : (m : ℕ) → m < length memories → readers_at whole (value_at memories m) ≡ map (λ reader. renamed_reader (in_whole globals clocks) reader) (readers_at part m)
  readers-whole m lt =
      let inside : m < length part.memories = omega (arith, lt, is.memory_count) in
      let some = some-item part.memories m inside in
      let local = get_or part.memories m some in
      let at = is.memory_from m lt in
      get_or-map (λ (k : Memory). k.readers) whole.memories (value_at memories m) (renamed_memory (in_whole globals clocks) local) [] at.within
      ∙ ap (λ (k : Memory). k.readers) (at.is some (renamed_memory (in_whole globals clocks) local))
      ∙ ap (map (λ reader. renamed_reader (in_whole globals clocks) reader)) (sym (get_or-map (λ (k : Memory). k.readers) part.memories m some [] inside))

  latency-whole : (m : ℕ) → m < length memories → latency_at whole (value_at memories m) ≡ latency_at part m
  latency-whole m lt =
      let inside : m < length part.memories = omega (arith, lt, is.memory_count) in
      let some = some-item part.memories m inside in
      let local = get_or part.memories m some in
      let at = is.memory_from m lt in
      get_or-map (λ (k : Memory). k.latency) whole.memories (value_at memories m) (renamed_memory (in_whole globals clocks) local) Zero at.within
      ∙ ap (λ (k : Memory). k.latency) (at.is some (renamed_memory (in_whole globals clocks) local))
      ∙ sym (get_or-map (λ (k : Memory). k.latency) part.memories m some Zero inside)

  count-whole : (m : ℕ) → m < length memories → length (readers_at whole (value_at memories m)) ≡ length (readers_at part m)
  count-whole m lt = ap length (readers-whole m lt) ∙ length-map (readers_at part m) (λ reader. renamed_reader (in_whole globals clocks) reader)

  reader-whole : (m r : ℕ) → m < length memories → r < length (readers_at part m) → reader_at (readers_at whole (value_at memories m)) r ≡ renamed_reader (in_whole globals clocks) (reader_at (readers_at part m) r)
  reader-whole m r lt inside =
      let none : Reader = record { addr = 0; en = 0; word = 0; clock = None } in
      ap (λ readers. reader_at readers r) (readers-whole m lt) ∙ get_or-map (λ reader. renamed_reader (in_whole globals clocks) reader) (readers_at part m) r none none inside

  -- ---- drivers

  data-whole : (m r s : ℕ) → m < length memories → IsDataOf part m r s → IsDataOf whole (value_at memories m) r (value_at globals s)
  data-whole m r s lt of =
      let low = of.0 in
      (omega (arith, low, count-whole m lt), ap (λ (reader : Reader). reader.word) (reader-whole m r lt low) ∙ ap (value_at globals) of.1)

  lift-drive : (s : ℕ) (outer inner : Driver) → s < length globals → ((place : ℕ) → inner ≢ Input place) → IsFrom part.ins globals held memories s outer inner → MayDrive part s inner → MayDrive whole (value_at globals s) outer
  lift-drive s outer (Input place) lt other from may = absurd (other place refl)
  lift-drive s outer (Held register) lt other from may =
      let low = from.0 in
      let inside : register < length part.registers = omega (arith, low, is.register_count) in
      let some = some-item part.registers register inside in
      let at = is.register_from register low in
      subst (MayDrive whole (value_at globals s)) (sym from.1) (
        at.within,
        get_or-map (λ (r : Register). shape r.ty) whole.registers (value_at held register) some (uint 0) at.within
            ∙ ap (λ (r : Register). shape r.ty) (at.is some some)
            ∙ sym (get_or-map (λ (r : Register). shape r.ty) part.registers register some (uint 0) inside)
            ∙ may.1 ∙ shape-part whole part globals held memories clocks is s lt,
      )
  lift-drive s outer (MemoryWord m r addr en) lt other from may = subst (MayDrive whole (value_at globals s)) (sym from.3) (data-whole m r s from.0 may)
  lift-drive s outer (ReadRegister m r) lt other from may = subst (MayDrive whole (value_at globals s)) (sym from.1) (data-whole m r s from.0 may)
  lift-drive s outer (Computed line) lt other from may =
      subst (MayDrive whole (value_at globals s)) (sym from.1)
      (subst (λ sink. IsSource (HasType (signal_shapes whole)) sink (renamed_line (value_at globals) line)) (shape-part whole part globals held memories clocks is s lt) (lift-source (shape_at (signal_shapes part) s) line may))

  pub lift-driver : IsWellFormed part → (s : ℕ) → s < length globals → ((place : ℕ) → driver_at part s ≢ Input place) → MayDrive whole (value_at globals s) (driver_at whole (value_at globals s))
  lift-driver formed s lt other =
      lift-drive s (driver_at whole (value_at globals s)) (driver_at part s) lt other (is.drivers s lt) (formed.drivers s (omega (arith, lt, is.count)))

  -- ---- the data of readers

  driven-whole : (latency : Latency) (m r s : ℕ) (outer : Driver) (reader : Reader) → IsFrom part.ins globals held memories s outer (reader_driver latency m r reader) → outer ≡ reader_driver latency (value_at memories m) r (renamed_reader (in_whole globals clocks) reader)
  driven-whole Zero m r s outer reader from = from.3
  driven-whole (Late under) m r s outer reader from = from.1

  pub lift-reads : IsWellFormed part → (m : ℕ) → m < length memories → AreDriven (driver_at whole) (value_at memories m) (latency_at whole (value_at memories m)) (readers_at whole (value_at memories m))
  lift-reads formed m lt r inside =
      let low : r < length (readers_at part m) = omega (arith, inside, count-whole m lt) in
      let reader = reader_at (readers_at part m) r in
      let within : m < length part.memories = omega (arith, lt, is.memory_count) in
      let some = some-item part.memories m within in
      let readers : readers_at part m ≡ (get_or part.memories m some).readers = get_or-map (λ (k : Memory). k.readers) part.memories m some [] within in
      let known : reader.word < length globals =
      (let among = ((is.memory_from m lt).below some).readers r (record { addr = 0; en = 0; word = 0; clock = None }) (subst (λ (l : List Reader). r < length l) readers low) in
      let e = ap (λ (l : List Reader). (reader_at l r).word) readers in
      let word = among.2 in
      omega (arith, word, e)) in
      ap (λ (q : Reader). driver_at whole q.word) (reader-whole m r lt low)
      ∙ driven-whole (latency_at part m) m r reader.word (driver_at whole (value_at globals reader.word)) reader (subst (IsFrom part.ins globals held memories reader.word (driver_at whole (value_at globals reader.word))) (formed.reads m within r low) (is.drivers reader.word known))
      ∙ ap₂ (λ latency q. reader_driver latency (value_at memories m) r q) (sym (latency-whole m lt)) (sym (reader-whole m r lt low))
