-- A circuit with a memory is well formed, and those whose memories have one flaw each are not.
use Rattle.std.proofs.Common.{◌≡◌, ℕ, ◌<◌, List, [], ◌∷◌, Some, None, refl, ap, inl, arith, lit<, lit≤}
use Rattle.std.specs.Prelude.{slice_index_or}
use Rattle.gg_bits.specs.Shape.{Shape, shape}
use Rattle.gg_flat.specs.declared.line.Op.TheVariants.{Literal}
use Rattle.gg_flat.specs.declared.memory.UnderWrite.TheVariants.{Old}
use Rattle.gg_flat.specs.declared.memory.Latency.TheVariants.{Zero, One as Late}
use Rattle.gg_flat.specs.declared.memory.Reader.{Reader}
use Rattle.gg_flat.specs.declared.memory.Writer.{Writer}
use Rattle.gg_flat.specs.declared.memory.Memory.{Memory}
use Rattle.gg_flat.specs.declared.piece.Driver.{Driver}
use Rattle.gg_flat.specs.declared.piece.Driver.TheVariants.{MemoryWord, ReadRegister, Computed}
use Rattle.gg_flat.specs.Line.{HasType}
use Rattle.gg_flat.specs.Circuit.{FlatCircuit, signal_shapes, driver_at}
use Rattle.gg_flat.specs.Reads.{IsLoop}
use Rattle.gg_flat.specs.WellFormed.{MayDrive, IsClock, IsClockedMemory, IsReader, IsWriter, IsMemory, IsWellFormed}
use Rattle.gg_flat.proofs.WorkedForms.{only, both, four, apart, differ, pair, quad}
use Rattle.gg_flat.proofs.WorkedCircuits.{eight, node, value}
use Rattle.gg_flat.proofs.WorkedMemories.{two, copy, high, signal}

-- A circuit with one memory. Signal 0 is the data of its reader, 1 the reader's address, 2 its enable, and 3 has two bits.
abbrev lone : Driver → Memory → FlatCircuit
lone driver memory =
    record {
      paths = (97 ∷ []) ∷ (98 ∷ []) ∷ (99 ∷ []) ∷ (100 ∷ []) ∷ [];
      signals = signal eight driver ∷ copy two 1 ∷ high ∷ copy two 3 ∷ [];
      registers = [];
      memories = memory ∷ [];
      ins = [];
      outs = [];
      clocks = 0;
    }

abbrev memory : ℕ → List Reader → List Writer → Memory
memory depth readers writers = record { word = eight; depth = depth; latency = Zero; readers = readers; writers = writers }

abbrev reader : Reader
reader = record { addr = 1; en = 2; word = 0; clock = None }

abbrev writer : Writer
writer = record { addr = 1; en = 2; word = 0; mask = 2; clock = None }

abbrev sound : FlatCircuit
sound = lone (MemoryWord 0 0 1 2) (memory 3 (reader ∷ []) (writer ∷ []))

sound-formed : IsWellFormed sound
sound-formed =
    record {
      named = refl;
      distinct = quad _ _ _ _ (differ 97 98 refl) (differ 97 99 refl) (differ 97 100 refl) (differ 98 99 refl) (differ 98 100 refl) (differ 99 100 refl);
      drivers = four (λ s. MayDrive sound s (driver_at sound s))
          (lit< tt, refl)
          (record { line = record { some = lit< tt; typed = only _ (lit< tt, refl) }; kind = refl; width = lit≤ tt })
          (record { line = record { some = lit< tt; typed = only _ (lit< tt) }; kind = refl; width = lit≤ tt })
          (record { line = record { some = lit< tt; typed = only _ (lit< tt, refl) }; kind = refl; width = lit≤ tt });
      ins = λ place lt. absurd (omega arith);
      outs = λ place lt. absurd (omega arith);
      registers = λ k d lt. absurd (omega arith);
      memories = λ k d lt. only (λ i. IsMemory (HasType (signal_shapes sound)) (slice_index_or sound.memories i d)) (record {
        some = lit< tt;
        readers = λ k d lt. only (λ i. IsReader (HasType (signal_shapes sound)) (shape eight) 3 (slice_index_or (reader ∷ []) i d)) (record {
          address = (lit< tt, refl);
          enable = (lit< tt, refl);
          output = (lit< tt, refl);
        }) k lt;
        writers = λ k d lt. only (λ i. IsWriter (HasType (signal_shapes sound)) (shape eight) 3 (slice_index_or (writer ∷ []) i d)) (record {
          address = (lit< tt, refl);
          enable = (lit< tt, refl);
          input = (lit< tt, refl);
          masked = (lit< tt, refl);
        }) k lt;
      }) k lt;
      reads = only _ (only _ refl);
      register_clocks = λ k d lt. absurd (omega arith);
      memory_clocks = λ k d lt. only (λ i. IsClockedMemory 0 (slice_index_or sound.memories i d)) (record {
        readers = λ k d lt. only (λ i. IsClock 0 (slice_index_or (reader ∷ []) i d).clock) tt k lt;
        writers = λ k d lt. only (λ i. IsClock 0 (slice_index_or (writer ∷ []) i d).clock) tt k lt;
      }) k lt;
    }

-- two writers may share their signals
abbrev shared : FlatCircuit
shared = lone (MemoryWord 0 0 1 2) (memory 3 (reader ∷ []) (writer ∷ writer ∷ []))

shared-formed : IsWellFormed shared
shared-formed =
    record {
      named = refl;
      distinct = sound-formed.distinct;
      drivers = sound-formed.drivers;
      ins = sound-formed.ins;
      outs = sound-formed.outs;
      registers = sound-formed.registers;
      memories = λ k d lt. only (λ i. IsMemory (HasType (signal_shapes shared)) (slice_index_or shared.memories i d)) (record {
        some = lit< tt;
        readers = (sound-formed.memories 0 (memory 3 [] []) (lit< tt)).readers;
        writers = λ k d lt. both (λ i. IsWriter (HasType (signal_shapes shared)) (shape eight) 3 (slice_index_or (writer ∷ writer ∷ []) i d)) shared-writer shared-writer k lt;
      }) k lt;
      reads = sound-formed.reads;
      register_clocks = sound-formed.register_clocks;
      memory_clocks = λ k d lt. only (λ i. IsClockedMemory 0 (slice_index_or shared.memories i d)) (record {
        readers = (sound-formed.memory_clocks 0 (memory 3 [] []) (lit< tt)).readers;
        writers = λ k d lt. both (λ i. IsClock 0 (slice_index_or (writer ∷ writer ∷ []) i d).clock) tt tt k lt;
      }) k lt;
    }
  where
    shared-writer : IsWriter (HasType (signal_shapes shared)) (shape eight) 3 writer
    shared-writer = (sound-formed.memories 0 (memory 3 [] []) (lit< tt)).writers 0 writer (lit< tt)

-- ---- a loop through a read of latency 0

-- a memory whose reader's address is its data
abbrev circle : Driver → FlatCircuit
circle driver = record sound { signals = signal two driver ∷ copy two 0 ∷ high ∷ [] }

circle-loop : IsLoop (circle (MemoryWord 0 0 1 2)) (0 ∷ 1 ∷ [])
circle-loop = (pair 0 1 (apart 0 1 refl), (record { signal = lit< tt; names = inl refl }, record { signal = lit< tt; names = (0, lit< tt, refl) }))

-- a read register breaks the loop
circle-late : ¬ IsLoop (circle (ReadRegister 0 0)) (0 ∷ 1 ∷ [])
circle-late loop = loop.1.0.names

-- ---- flaws

-- the data of a reader has the driver of another reader
other_driver : ¬ IsWellFormed (lone (MemoryWord 0 1 1 2) (memory 3 (reader ∷ []) []))
other_driver formed = absurd (omega (arith, (formed.drivers 0 (lit< tt)).0))

-- the data of a reader has a line
line_driver : ¬ IsWellFormed (lone (Computed (node eight (Literal (value 0)) ∷ [])) (memory 3 (reader ∷ []) []))
line_driver formed = unlike (formed.reads 0 (lit< tt) 0 (lit< tt))
  where
    unlike : Computed (node eight (Literal (value 0)) ∷ []) ≡ MemoryWord 0 0 1 2 → ⊥
    unlike is = cc

-- the data of a late reader has a read of latency 0
word_driver : ¬ IsWellFormed (lone (MemoryWord 0 0 1 2) (record (memory 3 (reader ∷ []) []) { latency = Late Old }))
word_driver formed = unlike (formed.reads 0 (lit< tt) 0 (lit< tt))
  where
    unlike : MemoryWord 0 0 1 2 ≡ ReadRegister 0 0 → ⊥
    unlike is = cc

-- the data of a reader of latency 0 has a read register
late_driver : ¬ IsWellFormed (lone (ReadRegister 0 0) (memory 3 (reader ∷ []) []))
late_driver formed = unlike (formed.reads 0 (lit< tt) 0 (lit< tt))
  where
    unlike : ReadRegister 0 0 ≡ MemoryWord 0 0 1 2 → ⊥
    unlike is = cc

-- a read names another address than its reader
other_address : ¬ IsWellFormed (lone (MemoryWord 0 0 3 2) (memory 3 (reader ∷ []) []))
other_address formed = unlike (formed.reads 0 (lit< tt) 0 (lit< tt))
  where
    address : Driver → ℕ
    address (MemoryWord m r addr en) = addr
    address other = 0

    unlike : MemoryWord 0 0 3 2 ≡ MemoryWord 0 0 1 2 → ⊥
    unlike is = absurd (omega (arith, ap address is))

-- a read names another enable than its reader
other_enable : ¬ IsWellFormed (lone (MemoryWord 0 0 1 3) (memory 3 (reader ∷ []) []))
other_enable formed = unlike (formed.reads 0 (lit< tt) 0 (lit< tt))
  where
    enable : Driver → ℕ
    enable (MemoryWord m r addr en) = en
    enable other = 0

    unlike : MemoryWord 0 0 1 3 ≡ MemoryWord 0 0 1 2 → ⊥
    unlike is = absurd (omega (arith, ap enable is))

-- one signal is the data of two readers
doubled_port : ¬ IsWellFormed (lone (MemoryWord 0 0 1 2) (memory 3 (reader ∷ reader ∷ []) []))
doubled_port formed = unlike (formed.reads 0 (lit< tt) 1 (lit< tt))
  where
    number : Driver → ℕ
    number (MemoryWord m r addr en) = r
    number other = 0

    unlike : MemoryWord 0 0 1 2 ≡ MemoryWord 0 1 1 2 → ⊥
    unlike is = absurd (omega (arith, ap number is))

-- a memory of five words with an address of two bits, not three
narrow_address : ¬ IsWellFormed (lone (MemoryWord 0 0 1 2) (memory 5 (reader ∷ []) []))
narrow_address formed = absurd (omega (arith, ap (λ (s : Shape). s.width) ((formed.memories 0 (memory 5 [] []) (lit< tt)).readers 0 reader (lit< tt)).address.1))

-- a memory of two words with an address of two bits, not one
wide_address : ¬ IsWellFormed (lone (MemoryWord 0 0 1 2) (memory 2 (reader ∷ []) []))
wide_address formed = absurd (omega (arith, ap (λ (s : Shape). s.width) ((formed.memories 0 (memory 2 [] []) (lit< tt)).readers 0 reader (lit< tt)).address.1))

-- a writer's enable of two bits
wide_enable : ¬ IsWellFormed (lone (MemoryWord 0 0 1 2) (memory 3 (reader ∷ []) (record writer { en = 3 } ∷ [])))
wide_enable formed = absurd (omega (arith, ap (λ (s : Shape). s.width) ((formed.memories 0 (memory 3 [] []) (lit< tt)).writers 0 writer (lit< tt)).enable.1))

-- a reader's enable that isn't a signal
no_enable : ¬ IsWellFormed (lone (MemoryWord 0 0 1 4) (memory 3 (record reader { en = 4 } ∷ []) []))
no_enable formed = absurd (omega (arith, ((formed.memories 0 (memory 3 [] []) (lit< tt)).readers 0 reader (lit< tt)).enable.0))

-- the data of a reader has another width than the words
narrow_word : ¬ IsWellFormed (lone (MemoryWord 0 0 1 2) (record (memory 3 (reader ∷ []) []) { word = two }))
narrow_word formed = absurd (omega (arith, ap (λ (s : Shape). s.width) ((formed.memories 0 (memory 3 [] []) (lit< tt)).readers 0 reader (lit< tt)).output.1))

-- a writer's data has another width than the words
wide_write : ¬ IsWellFormed (lone (MemoryWord 0 0 1 2) (memory 3 (reader ∷ []) (record writer { word = 1 } ∷ [])))
wide_write formed = absurd (omega (arith, ap (λ (s : Shape). s.width) ((formed.memories 0 (memory 3 [] []) (lit< tt)).writers 0 writer (lit< tt)).input.1))

-- a writer's mask of two bits
wide_mask : ¬ IsWellFormed (lone (MemoryWord 0 0 1 2) (memory 3 (reader ∷ []) (record writer { mask = 3 } ∷ [])))
wide_mask formed = absurd (omega (arith, ap (λ (s : Shape). s.width) ((formed.memories 0 (memory 3 [] []) (lit< tt)).writers 0 writer (lit< tt)).masked.1))

-- a memory without words
no_depth : ¬ IsWellFormed (lone (MemoryWord 0 0 1 2) (memory 0 (reader ∷ []) []))
no_depth formed = absurd (omega (arith, (formed.memories 0 (memory 0 [] []) (lit< tt)).some))

-- a reader with a clock that the circuit doesn't have
no_clock : ¬ IsWellFormed (lone (MemoryWord 0 0 1 2) (memory 3 (record reader { clock = Some 0 } ∷ []) []))
no_clock is = let past : 0 < 0 = (is.memory_clocks 0 (memory 3 [] []) (lit< tt)).readers 0 reader (lit< tt) in absurd (omega (arith, past))
