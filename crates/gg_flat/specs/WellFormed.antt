-- When a flat circuit is well formed. Source: FIRRTL Specification, "Connects", "Registers", "Memories", "Type
-- equivalence" and, for the names, "Namespaces".
use Rattle.std.specs.Prelude.{◌≡◌, ◌≢◌, ℕ, ◌<◌, List, Option, length, MatchOption, All, AllPairs, ⊤}
use Rattle.gg_bits.specs.Shape.{Shape, shape, uint}
use Rattle.gg_flat.specs.declared.memory.Latency.{Latency}
use Rattle.gg_flat.specs.declared.memory.Latency.TheVariants.{Zero, One}
use Rattle.gg_flat.specs.declared.memory.Reader.{Reader}
use Rattle.gg_flat.specs.declared.memory.Writer.{Writer}
use Rattle.gg_flat.specs.declared.memory.Memory.{Memory}
use Rattle.gg_flat.specs.declared.piece.Register.{Register}
use Rattle.gg_flat.specs.declared.piece.Reset.{Reset}
use Rattle.gg_flat.specs.declared.piece.Driver.{Driver}
use Rattle.gg_flat.specs.declared.piece.Driver.TheVariants.{Input, Held, MemoryWord, ReadRegister, Computed}
use Rattle.gg_flat.specs.Line.{shape_at, value_at, HasType, IsSource, IsCondition}
use Rattle.gg_flat.specs.Circuit.{FlatCircuit, signal_shapes, register_shapes, driver_at, readers_at, latency_at, reader_at}
use Rattle.gg_flat.specs.Memory.{address_width}

-- signal s is the data of this reader of this memory
abbrev pub IsDataOf : FlatCircuit → ℕ → ℕ → ℕ → Type 0
IsDataOf circuit m r s = (r < length (readers_at circuit m)) × ((reader_at (readers_at circuit m) r).word ≡ s)

-- The driver of signal s is allowed. For an in-signal it names the signal's place in the list of in-signals, for a register's signal a
-- register of its type, for a reader's data this reader. A line may be connected to the signal.
abbrev pub MayDrive : FlatCircuit → ℕ → Driver → Type 0
MayDrive circuit s (Input place) = (place < length circuit.ins) × (value_at circuit.ins place ≡ s)
MayDrive circuit s (Held register) = (register < length circuit.registers) × (shape_at (register_shapes circuit) register ≡ shape_at (signal_shapes circuit) s)
MayDrive circuit s (MemoryWord memory reader addr en) = IsDataOf circuit memory reader s
MayDrive circuit s (ReadRegister memory reader) = IsDataOf circuit memory reader s
MayDrive circuit s (Computed line) = IsSource (HasType (signal_shapes circuit)) (shape_at (signal_shapes circuit) s) line

-- The reset's condition is one bit, and its init may be connected to the register.
pub record IsReset (Named : ℕ → Shape → Type 0) (sink : Shape) (reset : Reset) : Type 0 where
  pub condition : IsCondition Named reset.condition
  pub init : IsSource Named sink reset.init

-- The lines of a register may be connected to it.
pub record IsRegister (Named : ℕ → Shape → Type 0) (register : Register) : Type 0 where
  pub reset : MatchOption register.reset ⊤ (IsReset Named (shape register.ty))
  pub next : MatchOption register.next ⊤ (IsSource Named (shape register.ty))

-- the fields of a reader are signals of the right types
pub record IsReader (Named : ℕ → Shape → Type 0) (word : Shape) (depth : ℕ) (reader : Reader) : Type 0 where
  pub address : Named reader.addr (uint (address_width depth))
  pub enable : Named reader.en (uint 1)
  pub output : Named reader.word word

-- the fields of a writer are signals of the right types
pub record IsWriter (Named : ℕ → Shape → Type 0) (word : Shape) (depth : ℕ) (writer : Writer) : Type 0 where
  pub address : Named writer.addr (uint (address_width depth))
  pub enable : Named writer.en (uint 1)
  pub input : Named writer.word word
  pub masked : Named writer.mask (uint 1)

-- A memory has a word, and the fields of its ports are signals of the right types.
pub record IsMemory (Named : ℕ → Shape → Type 0) (memory : Memory) : Type 0 where
  -- it has at least one word
  pub some : 0 < memory.depth
  pub readers : All (IsReader Named (shape memory.word) memory.depth) memory.readers
  pub writers : All (IsWriter Named (shape memory.word) memory.depth) memory.writers

-- the driver of a reader's data
abbrev pub reader_driver : Latency → ℕ → ℕ → Reader → Driver
reader_driver Zero m r reader = MemoryWord m r reader.addr reader.en
reader_driver (One under) m r reader = ReadRegister m r

-- the data of each of a memory's readers has exactly the driver that it must have
abbrev pub AreDriven : (ℕ → Driver) → ℕ → Latency → List Reader → Type 0
AreDriven driver m latency readers = (r : ℕ) → r < length readers → driver (reader_at readers r).word ≡ reader_driver latency m r (reader_at readers r)

-- a clock is one of `count`, or none, the clock of every tick
abbrev pub IsClock : ℕ → Option ℕ → Type 0
IsClock count clock = MatchOption clock ⊤ (λ number. number < count)

-- the clocks of a memory's ports are among `count`
pub record IsClockedMemory (count : ℕ) (memory : Memory) : Type 0 where
  pub readers : All (λ reader. IsClock count reader.clock) memory.readers
  pub writers : All (λ writer. IsClock count writer.clock) memory.writers

-- A flat circuit is well formed. Each signal has a path, and no two have the same. The in-signals are just the signals without a driver of
-- their own, each listed once. The data of readers are just the signals that memories drive, each of exactly one reader. Every name is one
-- of the circuit's. Types agree. The clock of a register or of a memory's port is one of the circuit's, or the clock of every tick.
pub record IsWellFormed (circuit : FlatCircuit) : Type 0 where
  pub named : length circuit.paths ≡ length circuit.signals
  pub distinct : AllPairs (λ a b. a ≢ b) circuit.paths
  pub drivers : (s : ℕ) → s < length circuit.signals → MayDrive circuit s (driver_at circuit s)
  pub ins : (place : ℕ) → place < length circuit.ins → (value_at circuit.ins place < length circuit.signals) × (driver_at circuit (value_at circuit.ins place) ≡ Input place)
  pub outs : (place : ℕ) → place < length circuit.outs → value_at circuit.outs place < length circuit.signals
  pub registers : All (IsRegister (HasType (signal_shapes circuit))) circuit.registers
  pub memories : All (IsMemory (HasType (signal_shapes circuit))) circuit.memories
  pub reads : (m : ℕ) → m < length circuit.memories → AreDriven (driver_at circuit) m (latency_at circuit m) (readers_at circuit m)
  pub register_clocks : All (λ register. IsClock circuit.clocks register.clock) circuit.registers
  pub memory_clocks : All (IsClockedMemory circuit.clocks) circuit.memories
