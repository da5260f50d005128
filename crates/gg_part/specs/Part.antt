-- A part of a flat circuit: some of its signals, registers and memories, with numbers of the part's own. The signals
-- that the part gets from outside are its in-signals, regardless of what drives them in the whole circuit.
-- Source: FIRRTL Specification, "Circuit Definitions", "Instances" (a design is cut where its modules meet); MEMOCODE
-- 2009 (a synchronous design as a network of its parts).
use Rattle.std.specs.Prelude.{◌≡◌, ◌≢◌, ℕ, ◌<◌, List, Option, length, map, slice_index_or, AllPairs}
use Rattle.gg_flat.specs.declared.line.Node.{Node}
use Rattle.gg_flat.specs.declared.memory.Memory.{Memory}
use Rattle.gg_flat.specs.declared.piece.Register.{Register}
use Rattle.gg_flat.specs.declared.piece.Driver.{Driver}
use Rattle.gg_flat.specs.declared.piece.Driver.TheVariants.{Input, Held, MemoryWord, ReadRegister, Computed}
use Rattle.gg_flat.specs.Line.{shape_at, value_at}
use Rattle.gg_flat.specs.Circuit.{FlatCircuit, signal_shapes, driver_at, readers_at, reader_at}
use Rattle.gg_flat.specs.Named.{NamesOnly, RegisterNamesOnly, MemoryNamesOnly}
use Rattle.gg_flat.specs.Renaming.{Renaming, renamed_line, renamed_memory, renamed_register}
use Rattle.gg_flat_tree.specs.Clocked.{clock_at}
use Rattle.gg_flat_tree.specs.Tree.{path_at}
use Rattle.gg_flat.specs.WellFormed.{IsClock, IsClockedMemory}

-- ---- the part's things in the numbers of the whole

-- the numbers in the whole of what the part has: `globals` has the number of each signal of the part, and `clocks` the clock of the whole
-- that each clock of the part follows, if any
abbrev pub in_whole : (globals : List ℕ) (clocks : List (Option ℕ)) → Renaming
in_whole globals clocks = record { signals = value_at globals; registers = λ r. r; memories = λ m. m; clocks = clock_at clocks }

-- ---- everything that the part names exists

-- a line names only signals below n
abbrev pub NamesBelow : ℕ → List Node → Type 0
NamesBelow n line = NamesOnly (λ s. s < n) line

-- a register names only signals below n
abbrev pub RegisterBelow : ℕ → Register → Type 0
RegisterBelow n register = RegisterNamesOnly (λ s. s < n) register

-- a memory's fields are below n
abbrev pub MemoryBelow : ℕ → Memory → Type 0
MemoryBelow n memory = MemoryNamesOnly (λ s. s < n) memory

-- ---- the part

-- The last argument is the driver of signal s in the part, and `driver` is its driver in the whole circuit. The part has the driver of an
-- in-signal, regardless of `driver`, or the same driver in the part's numbers. `held` and `memories` have the numbers in the whole circuit
-- of the part's registers and memories.
abbrev pub IsFrom : List ℕ → List ℕ → List ℕ → List ℕ → ℕ → Driver → Driver → Type 0
IsFrom ins globals held memories s driver (Input place) = (place < length ins) × (value_at ins place ≡ s)
IsFrom ins globals held memories s driver (Held register) = (register < length held) × (driver ≡ Held (value_at held register))
IsFrom ins globals held memories s driver (MemoryWord m r addr en) =
    (m < length memories) × (addr < length globals) × (en < length globals) × (driver ≡ MemoryWord (value_at memories m) r (value_at globals addr) (value_at globals en))
IsFrom ins globals held memories s driver (ReadRegister m r) = (m < length memories) × (driver ≡ ReadRegister (value_at memories m) r)
IsFrom ins globals held memories s driver (Computed line) = NamesBelow (length globals) line × (driver ≡ Computed (renamed_line (value_at globals) line))

-- Register r of the part is the register of the whole circuit with that number in `held`. It follows a clock of the part, if any.
pub record IsRegisterFrom (whole part : FlatCircuit) (globals held : List ℕ) (clocks : List (Option ℕ)) (r : ℕ) : Type 0 where
  pub within : value_at held r < length whole.registers
  pub is : (any other : Register) → slice_index_or whole.registers (value_at held r) other ≡ renamed_register (in_whole globals clocks) (slice_index_or part.registers r any)
  pub below : (any : Register) → RegisterBelow (length globals) (slice_index_or part.registers r any)
  pub clocked : (any : Register) → IsClock (length clocks) (slice_index_or part.registers r any).clock

-- Memory m of the part is the memory of the whole circuit with that number in `memories`. It has all its ports. Each follows a clock of the
-- part, if any, and the data of its readers isn't an in-signal.
pub record IsMemoryFrom (whole part : FlatCircuit) (globals memories : List ℕ) (clocks : List (Option ℕ)) (m : ℕ) : Type 0 where
  pub within : value_at memories m < length whole.memories
  pub is : (any other : Memory) → slice_index_or whole.memories (value_at memories m) other ≡ renamed_memory (in_whole globals clocks) (slice_index_or part.memories m any)
  pub below : (any : Memory) → MemoryBelow (length globals) (slice_index_or part.memories m any)
  pub clocked : (any : Memory) → IsClockedMemory (length clocks) (slice_index_or part.memories m any)
  pub given : (r place : ℕ) → r < length (readers_at part m) → driver_at part (reader_at (readers_at part m) r).word ≢ Input place

-- A part: some signals of the whole circuit, each once, with their paths and types. Each is an in-signal, or has its driver from the whole
-- circuit. The registers and the memories that these drivers name are the whole circuit's. The part has a clock for each item of `clocks`.
-- Through these its registers and ports follow the clocks of the whole circuit.
pub record IsPart (whole part : FlatCircuit) (globals held memories : List ℕ) (clocks : List (Option ℕ)) : Type 0 where
  pub count : length part.signals ≡ length globals
  pub within : (s : ℕ) → s < length globals → value_at globals s < length whole.signals
  pub once : AllPairs (λ a b. a ≢ b) globals
  pub paths : part.paths ≡ map (path_at whole.paths) globals
  pub types : signal_shapes part ≡ map (shape_at (signal_shapes whole)) globals
  pub drivers : (s : ℕ) → s < length globals → IsFrom part.ins globals held memories s (driver_at whole (value_at globals s)) (driver_at part s)
  pub ins : (place : ℕ) → place < length part.ins → (value_at part.ins place < length globals) × (driver_at part (value_at part.ins place) ≡ Input place)
  pub outs : (place : ℕ) → place < length part.outs → value_at part.outs place < length globals
  pub clock_count : part.clocks ≡ length clocks
  pub register_count : length part.registers ≡ length held
  pub register_from : (r : ℕ) → r < length held → IsRegisterFrom whole part globals held clocks r
  pub memory_count : length part.memories ≡ length memories
  pub memories_once : AllPairs (λ a b. a ≢ b) memories
  pub memory_from : (m : ℕ) → m < length memories → IsMemoryFrom whole part globals memories clocks m
