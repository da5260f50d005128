-- The reference circuit of a well-formed circuit is well formed.
use Rattle.std.proofs.Common.{◌≡◌, ◌≢◌, ℕ, zero, suc, ◌+◌, ◌-◌, ◌<◌, ◌≤◌, List, [], ◌∷◌, length, map, get_or, refl, sym, ◌∙◌, ap, ap₂, subst, inl, inr, ◌⊎◌, arith}
use Rattle.std.specs.Prelude.{None, MatchOption, ⊤, AllPairs}
use Rattle.std.proofs.lemmas.Bool.{cases_lt}
use Rattle.std.proofs.lemmas.List.{get_or-map, length-map}
use Rattle.std.proofs.lemmas.List.Elements.{All-map}
use Rattle.gg_bits.specs.Shape.{Shape, shape, uint}
use Rattle.gg_flat.specs.declared.line.Node.{Node}
use Rattle.gg_flat.specs.declared.memory.Latency.TheVariants.{Zero}
use Rattle.gg_flat.specs.declared.memory.Reader.{Reader}
use Rattle.gg_flat.specs.declared.memory.Writer.{Writer}
use Rattle.gg_flat.specs.declared.memory.Memory.{Memory}
use Rattle.gg_flat.specs.declared.piece.Register.{Register}
use Rattle.gg_flat.specs.declared.piece.Driver.{Driver}
use Rattle.gg_flat.specs.declared.piece.Driver.TheVariants.{Input, Held, MemoryWord, ReadRegister, Computed}
use Rattle.gg_flat.specs.Line.{value_at, shape_at, op_at, HasShape, HasType, IsSource}
use Rattle.gg_flat.specs.Circuit.{FlatCircuit, signal_shapes, driver_at, readers_at, latency_at, reader_at}
use Rattle.gg_flat.specs.WellFormed.{IsWellFormed, IsDataOf, MayDrive, IsReset, IsRegister, IsMemory, IsClock, IsClockedMemory, reader_driver}
use Rattle.gg_flat.proofs.ListLemmas.{some-item}
use Rattle.gg_flat.specs.Renaming.{signals_by, renamed_driver, renamed_line, renamed_memory, renamed_reader, renamed_register, renamed_writer}
use Rattle.gg_flat.proofs.RenamedLineLaws.{source-there}
use Rattle.gg_flat.proofs.RenamedLaws.{register-there, memory-there, reader_driver-renamed}
use Rattle.gg_cut_reference.specs.Reference.{Views}
use Rattle.gg_cut_reference.specs.inside.Reference.{IsReference, IsSeen, IsPiped, IsPipeRegister}

-- ---- the same under the numbers that a machine sees

module _ (one all : FlatCircuit) (to : ℕ → ℕ) (types : (s : ℕ) (sh : Shape) → HasType (signal_shapes one) s sh → HasType (signal_shapes all) (to s) sh) where
  source-is : (sink : Shape) (line : List Node) → IsSource (HasType (signal_shapes one)) sink line → IsSource (HasType (signal_shapes all)) sink (renamed_line to line)
  source-is sink line is = source-there to (HasType (signal_shapes one)) (HasType (signal_shapes all)) sink line (λ s named. types s) is

  pub register-is : (register : Register) → IsRegister (HasType (signal_shapes one)) register → IsRegister (HasType (signal_shapes all)) (renamed_register (signals_by to) register)
  register-is register is = register-there (signals_by to) (HasType (signal_shapes one)) (HasType (signal_shapes all)) register (λ s named. types s) is

  pub memory-is : (memory : Memory) → IsMemory (HasType (signal_shapes one)) memory → IsMemory (HasType (signal_shapes all)) (renamed_memory (signals_by to) memory)
  memory-is memory is =
      memory-there (signals_by to) (HasType (signal_shapes one)) (HasType (signal_shapes all)) memory
      (record { readers = λ k d lt. (types _, types _, types _); writers = λ k d lt. (types _, types _, types _, types _) }) is

memory-clocked : (count : ℕ) (to : ℕ → ℕ) (memory : Memory) → IsClockedMemory count memory → IsClockedMemory count (renamed_memory (signals_by to) memory)
memory-clocked count to memory is =
    record {
      readers = All-map (λ (reader : Reader). IsClock count reader.clock) (λ reader. renamed_reader (signals_by to) reader) memory.readers is.readers;
      writers = All-map (λ (writer : Writer). IsClock count writer.clock) (λ writer. renamed_writer (signals_by to) writer) memory.writers is.writers;
    }

-- ---- the circuit

module _ (one all : FlatCircuit) (views : Views) (pipes : List ℕ) (reference : IsReference one all views pipes) (seen : (m : ℕ) → IsSeen one pipes (views.seen m)) (formed : IsWellFormed one) where
  -- The data of a memory's reader are made by the machine that keeps the memory, which sees them as they are.
  pub record AreData : Type 0 where
    pub maker : (m r : ℕ) → r < length (readers_at one m) → views.maker (reader_at (readers_at one m) r).word ≡ views.keeper m
    pub plain : (m r : ℕ) → r < length (readers_at one m) → views.seen (views.keeper m) (reader_at (readers_at one m) r).word ≡ (reader_at (readers_at one m) r).word

  shapes-one : length (signal_shapes one) ≡ length one.signals
  shapes-one = length-map one.signals (λ signal. shape signal.ty)

  shapes-all : length (signal_shapes all) ≡ length all.signals
  shapes-all = length-map all.signals (λ signal. shape signal.ty)

  pub types : (m s : ℕ) (sh : Shape) → HasType (signal_shapes one) s sh → HasType (signal_shapes all) (views.seen m s) sh
  types m s sh is = by (seen m s)
    where
      low : s < length one.signals
      low = let lt = is.0 in omega (arith, lt, shapes-one)

      by : (views.seen m s ≡ s) ⊎ IsPiped one pipes s (views.seen m s) → HasType (signal_shapes all) (views.seen m s) sh
      by (inl e) = (omega (arith, low, e, reference.signals, shapes-all), ap (shape_at (signal_shapes all)) e ∙ reference.shapes s low ∙ is.1)
      by (inr p) =
          let k = p.known in
          (omega (arith, k, p.is, reference.signals, shapes-all), ap (shape_at (signal_shapes all)) p.is ∙ reference.pipe_shape p.pipe p.known ∙ ap (shape_at (signal_shapes one)) p.of ∙ is.1)

  -- ---- memories

  readers-all : (m : ℕ) → m < length one.memories → readers_at all m ≡ map (λ reader. renamed_reader (signals_by (views.seen (views.keeper m))) reader) (readers_at one m)
  readers-all m lt =
      let any = some-item one.memories m lt in
      get_or-map (λ (memory : Memory). memory.readers) all.memories m any [] (omega (arith, lt, reference.memories))
      ∙ ap (λ (memory : Memory). memory.readers) (reference.memory m any any lt)
      ∙ ap (map (λ reader. renamed_reader (signals_by (views.seen (views.keeper m))) reader)) (sym (get_or-map (λ (memory : Memory). memory.readers) one.memories m any [] lt))

  latency-all : (m : ℕ) → m < length one.memories → latency_at all m ≡ latency_at one m
  latency-all m lt =
      let any = some-item one.memories m lt in
      get_or-map (λ (memory : Memory). memory.latency) all.memories m any Zero (omega (arith, lt, reference.memories))
      ∙ ap (λ (memory : Memory). memory.latency) (reference.memory m any any lt)
      ∙ sym (get_or-map (λ (memory : Memory). memory.latency) one.memories m any Zero lt)

  reader-all : (m r : ℕ) → m < length one.memories → r < length (readers_at one m) → reader_at (readers_at all m) r ≡ renamed_reader (signals_by (views.seen (views.keeper m))) (reader_at (readers_at one m) r)
  reader-all m r lt inside =
      let none : Reader = record { addr = 0; en = 0; word = 0; clock = None } in
      ap (λ readers. reader_at readers r) (readers-all m lt) ∙ get_or-map (λ reader. renamed_reader (signals_by (views.seen (views.keeper m))) reader) (readers_at one m) r none none inside

  count-all : (m : ℕ) → m < length one.memories → length (readers_at all m) ≡ length (readers_at one m)
  count-all m lt = ap length (readers-all m lt) ∙ length-map (readers_at one m) (λ reader. renamed_reader (signals_by (views.seen (views.keeper m))) reader)

  memory-of : (m r s : ℕ) → IsDataOf one m r s → m < length one.memories
  memory-of m r s data-of = by (cases_lt m (length one.memories))
    where
      by : (m < length one.memories) ⊎ (length one.memories ≤ m) → m < length one.memories
      by (inl lt) = lt
      by (inr high) = let low = data-of.0 in let none : length (readers_at one m) ≡ 0 = past (map (λ memory. memory.readers) one.memories) m (omega (arith, high, length-map one.memories (λ (memory : Memory). memory.readers))) in absurd (omega (arith, low, none))
        where
          past : (lists : List (List Reader)) (m : ℕ) → length lists ≤ m → length (get_or lists m []) ≡ 0
          past [] m le = refl
          past (l ∷ lists) zero le = absurd (omega (arith, le))
          past (l ∷ lists) (suc m) le = past lists m (omega (arith, le))

  module _ (are : AreData) where
    data-all : (m r s : ℕ) → IsDataOf one m r s → IsDataOf all m r s
    data-all m r s is =
        let lt = memory-of m r s is in
        let low = is.0 in
        (omega (arith, low, count-all m lt), ap (λ (reader : Reader). reader.word) (reader-all m r lt is.0) ∙ are.plain m r is.0 ∙ is.1)

    drives : (s : ℕ) (driver : Driver) → s < length one.signals → MayDrive one s driver → MayDrive all s (renamed_driver (signals_by (views.seen (views.maker s))) driver)
    drives s (Input place) lt is = (subst (λ ins. place < length ins) (sym reference.ins) is.0, ap (λ ins. value_at ins place) reference.ins ∙ is.1)
    drives s (Held register) lt is =
        let any = some-item one.registers register is.0 in
        let low = is.0 in (
          omega (arith, low, reference.registers),
          get_or-map (λ (r : Register). shape r.ty) all.registers register any (uint 0) (omega (arith, low, reference.registers))
              ∙ ap (λ (r : Register). shape r.ty) (reference.register register any any low)
              ∙ sym (get_or-map (λ (r : Register). shape r.ty) one.registers register any (uint 0) low)
              ∙ is.1 ∙ sym (reference.shapes s lt),
        )
    drives s (MemoryWord memory reader addr en) lt is = data-all memory reader s is
    drives s (ReadRegister memory reader) lt is = data-all memory reader s is
    drives s (Computed line) lt is =
        subst (λ sink. IsSource (HasType (signal_shapes all)) sink (renamed_line (views.seen (views.maker s)) line)) (sym (reference.shapes s lt))
        (source-is one all (views.seen (views.maker s)) (types (views.maker s)) (shape_at (signal_shapes one) s) line is)

    -- the paths, the out-signals and the pipes' channels are as they must be
    pub record AreOuter : Type 0 where
      pub named : length all.paths ≡ length all.signals
      pub distinct : AllPairs (λ a b. a ≢ b) all.paths
      pub outs : (place : ℕ) → place < length all.outs → value_at all.outs place < length all.signals
      pub known : (k : ℕ) → k < length pipes → value_at pipes k < length one.signals

    module _ (outer : AreOuter) where
      pipe-register : (k : ℕ) (any : Register) → k < length pipes → IsRegister (HasType (signal_shapes all)) (get_or all.registers (length one.registers + k) any)
      pipe-register k any lt = by (get_or all.registers (length one.registers + k) any) (reference.pipe_register k any lt)
        where
          c : ℕ
          c = value_at pipes k

          low : value_at pipes k < length one.signals
          low = outer.known k lt

          typed : (sh : Shape) → shape_at (signal_shapes one) c ≡ sh → HasType (signal_shapes all) (value_at pipes k) sh
          typed sh e = (omega (arith, low, reference.signals, shapes-all), reference.shapes (value_at pipes k) low ∙ e)

          by : (register : Register) → IsPipeRegister register (shape_at (signal_shapes one) (value_at pipes k)) (value_at pipes k) → IsRegister (HasType (signal_shapes all)) register
          by register is =
              record {
                reset = subst (λ o. MatchOption o ⊤ (IsReset (HasType (signal_shapes all)) (shape register.ty))) (sym is.reset) tt;
                next = subst (λ o. MatchOption o ⊤ (IsSource (HasType (signal_shapes all)) (shape register.ty))) (sym is.next)
                    (record {
                      line = record { some = omega arith; typed = λ j inside. node-typed j inside };
                      kind = ap (λ (sh : Shape). sh.kind) (is.wide ∙ sym is.type);
                      width = (let e = ap (λ (sh : Shape). sh.width) (is.wide ∙ sym is.type) in omega (arith, e));
                    });
              }
            where
              node-typed : (j : ℕ) → j < 1 → HasShape (HasType (signal_shapes all)) (shape is.node.ty ∷ []) j (shape_at (shape is.node.ty ∷ []) j) (op_at (is.node ∷ []) j)
              node-typed zero inside = subst (HasShape (HasType (signal_shapes all)) (shape is.node.ty ∷ []) 0 (shape is.node.ty)) (sym is.op) (typed (shape is.node.ty) (sym is.wide))
              node-typed (suc j) inside = absurd (omega (arith, inside))

      pub reference_formed : IsWellFormed all
      reference_formed =
          record {
            named = outer.named;
            distinct = outer.distinct;
            drivers = λ s lt. drivers s lt (cases_lt s (length one.signals));
            ins = λ place lt. ins place (subst (λ l. place < length l) reference.ins lt);
            outs = outer.outs;
            registers = λ r d lt. register r d lt (cases_lt r (length one.registers));
            memories = λ m d lt.
                let low : m < length one.memories = omega (arith, lt, reference.memories) in
                let any = some-item one.memories m low in
                subst (IsMemory (HasType (signal_shapes all))) (sym (reference.memory m any d low)) (memory-is one all (views.seen (views.keeper m)) (types (views.keeper m)) (get_or one.memories m any) (formed.memories m any low));
            register_clocks = λ r d lt. register-clock r d lt (cases_lt r (length one.registers));
            memory_clocks = λ m d lt.
                let low : m < length one.memories = omega (arith, lt, reference.memories) in
                let any = some-item one.memories m low in
                subst (IsClockedMemory all.clocks) (sym (reference.memory m any d low))
                (memory-clocked all.clocks (views.seen (views.keeper m)) (get_or one.memories m any)
                (subst (λ n. IsClockedMemory n (get_or one.memories m any)) (sym reference.clocks) (formed.memory_clocks m any low)));
            reads = λ m lt r inside. reads m r (omega (arith, lt, reference.memories)) inside;
          }
        where
          drivers : (s : ℕ) → s < length all.signals → (s < length one.signals) ⊎ (length one.signals ≤ s) → MayDrive all s (driver_at all s)
          drivers s lt (inl low) = subst (MayDrive all s) (sym (reference.drivers s low)) (drives s (driver_at one s) low (formed.drivers s low))
          drivers s lt (inr high) =
              let k = s - length one.signals in
              let less : k < length pipes = omega (arith, lt, high, reference.signals) in
              let is : length one.signals + k ≡ s = omega (arith, high) in
              subst (λ t. MayDrive all t (driver_at all t)) is
              (subst (MayDrive all (length one.signals + k)) (sym (reference.pipe_driver k less)) (pipe k less))
            where
              pipe : (k : ℕ) → k < length pipes → MayDrive all (length one.signals + k) (Held (length one.registers + k))
              pipe k less =
                  let inside : length one.registers + k < length all.registers = omega (arith, less, reference.registers) in
                  let any = some-item all.registers (length one.registers + k) inside in
                  (inside, get_or-map (λ (r : Register). shape r.ty) all.registers (length one.registers + k) any (uint 0) inside ∙ (reference.pipe_register k any less).type ∙ sym (reference.pipe_shape k less))

          ins : (place : ℕ) → place < length one.ins → (value_at all.ins place < length all.signals) × (driver_at all (value_at all.ins place) ≡ Input place)
          ins place lt =
              let at = formed.ins place lt in
              let low = at.0 in
              let same : value_at all.ins place ≡ value_at one.ins place = ap (λ l. value_at l place) reference.ins in
              (omega (arith, low, same, reference.signals), ap (driver_at all) same ∙ reference.drivers (value_at one.ins place) low ∙ ap (renamed_driver (signals_by (views.seen (views.maker (value_at one.ins place))))) at.1)

          register : (r : ℕ) (d : Register) → r < length all.registers → (r < length one.registers) ⊎ (length one.registers ≤ r) → IsRegister (HasType (signal_shapes all)) (get_or all.registers r d)
          register r d lt (inl low) =
              let any = some-item one.registers r low in
              subst (IsRegister (HasType (signal_shapes all))) (sym (reference.register r any d low)) (register-is one all (views.seen (views.holder r)) (types (views.holder r)) (get_or one.registers r any) (formed.registers r any low))
          register r d lt (inr high) =
              let k = r - length one.registers in
              let less : k < length pipes = omega (arith, lt, high, reference.registers) in
              let is : length one.registers + k ≡ r = omega (arith, high) in
              subst (λ n. IsRegister (HasType (signal_shapes all)) (get_or all.registers n d)) is (pipe-register k d less)

          register-clock : (r : ℕ) (d : Register) → r < length all.registers → (r < length one.registers) ⊎ (length one.registers ≤ r) → IsClock all.clocks (get_or all.registers r d).clock
          register-clock r d lt (inl low) =
              let any = some-item one.registers r low in
              subst (λ (register : Register). IsClock all.clocks register.clock) (sym (reference.register r any d low))
              (subst (λ n. IsClock n (get_or one.registers r any).clock) (sym reference.clocks) (formed.register_clocks r any low))
          register-clock r d lt (inr high) =
              let k = r - length one.registers in
              let less : k < length pipes = omega (arith, lt, high, reference.registers) in
              let is : length one.registers + k ≡ r = omega (arith, high) in
              subst (λ n. IsClock all.clocks (get_or all.registers n d).clock) is (subst (λ clock. IsClock all.clocks clock) (sym (reference.pipe_register k d less).clock) tt)

          reads : (m r : ℕ) → m < length one.memories → r < length (readers_at all m) → driver_at all (reader_at (readers_at all m) r).word ≡ reader_driver (latency_at all m) m r (reader_at (readers_at all m) r)
          reads m r lt inside =
              let low : r < length (readers_at one m) = omega (arith, inside, count-all m lt) in
              let reader = reader_at (readers_at one m) r in
              let known = word-known m r lt low in
              ap (driver_at all) (ap (λ (q : Reader). q.word) (reader-all m r lt low) ∙ are.plain m r low)
              ∙ reference.drivers reader.word known
              ∙ ap₂ (λ j d. renamed_driver (signals_by (views.seen j)) d) (are.maker m r low) (formed.reads m lt r low)
              ∙ reader_driver-renamed (signals_by (views.seen (views.keeper m))) (latency_at one m) m r reader
              ∙ ap₂ (λ latency q. reader_driver latency m r q) (sym (latency-all m lt)) (sym (reader-all m r lt low))
            where
              word-known : (m r : ℕ) → m < length one.memories → r < length (readers_at one m) → (reader_at (readers_at one m) r).word < length one.signals
              word-known m r lt low =
                  let any = some-item one.memories m lt in
                  let none : Reader = record { addr = 0; en = 0; word = 0; clock = None } in
                  let same = get_or-map (λ (memory : Memory). memory.readers) one.memories m any [] lt in
                  let is = (formed.memories m any lt).readers r none (subst (λ readers. r < length readers) same low) in
                  let typed = is.output.0 in
                  let e = ap (λ readers. (reader_at readers r).word) same in
                  omega (arith, typed, e, shapes-one)
