-- More on Building: what no promise of the program reaches.
-- Source: this program's own. A part has its signals, registers and memories in the order of the lists that it is
-- built from.
use Rattle.std.specs.Prelude.{◌≡◌, ℕ, ◌<◌, List, [], ◌∷◌, ◌++◌, Option, length, map, take, slice_index_or, Contains}
use Rattle.gg_bits.specs.Shape.{shape}
use Rattle.gg_flat.specs.declared.piece.Signal.{Signal}
use Rattle.gg_flat.specs.declared.piece.Register.{Register}
use Rattle.gg_flat.specs.declared.piece.Driver.{Driver}
use Rattle.gg_flat.specs.declared.piece.Driver.TheVariants.{Input}
use Rattle.gg_flat.specs.declared.memory.Memory.{Memory}
use Rattle.gg_flat.specs.Line.{shape_at, value_at}
use Rattle.gg_flat.specs.Circuit.{FlatCircuit, signal_shapes, driver_at}
use Rattle.gg_flat_tree.specs.Tree.{path_at}
use Rattle.gg_flat.specs.WellFormed.{IsClock, IsClockedMemory}
use Rattle.gg_part.specs.Part.{IsFrom, RegisterBelow, MemoryBelow, in_whole}
use Rattle.gg_flat.specs.Renaming.{renamed_memory, renamed_register}

-- a driver is the driver of an in-signal
abbrev pub IsInput : Driver → Type 0
IsInput driver = (place : ℕ) × (driver ≡ Input place)

-- The driver of a signal of the part that has the number s in the whole circuit. `ins` are numbers of the whole
-- circuit too.
pub record IsDriven (whole : FlatCircuit) (globals ins held memories : List ℕ) (s : ℕ) (own : Driver) : Type 0 where
  pub from : IsFrom ins globals held memories s (driver_at whole s) own
  pub given : Contains ins s → IsInput own

-- A piece with one more signal: signal s of the whole circuit.
pub record IsAdded (whole : FlatCircuit) (globals ins held memories : List ℕ) (s : ℕ) (old new : FlatCircuit) : Type 0 where
  pub own : Signal
  pub is : new ≡ record old { paths = old.paths ++ path_at whole.paths s ∷ []; signals = old.signals ++ own ∷ [] }
  pub typed : shape own.ty ≡ shape_at (signal_shapes whole) s
  pub driven : IsDriven whole globals ins held memories s own.driver

-- The signals of a piece are the first `count` of the part.
pub record AreSignals (whole : FlatCircuit) (globals ins held memories : List ℕ) (count : ℕ) (piece : FlatCircuit) : Type 0 where
  pub counted : length piece.signals ≡ count
  pub paths : piece.paths ≡ map (path_at whole.paths) (take count globals)
  pub types : signal_shapes piece ≡ map (shape_at (signal_shapes whole)) (take count globals)
  pub drivers : (s : ℕ) → s < count → IsDriven whole globals ins held memories (value_at globals s) (driver_at piece s)

-- These registers are the first `count` of the part.
pub record AreRegisters (whole : FlatCircuit) (globals held : List ℕ) (clocks : List (Option ℕ)) (count : ℕ) (registers : List Register) : Type 0 where
  pub counted : length registers ≡ count
  pub each : (r : ℕ) (any other : Register) → r < count → slice_index_or whole.registers (value_at held r) other ≡ renamed_register (in_whole globals clocks) (slice_index_or registers r any)
  pub below : (r : ℕ) (any : Register) → r < count → RegisterBelow (length globals) (slice_index_or registers r any)
  pub clocked : (r : ℕ) (any : Register) → r < count → IsClock (length clocks) (slice_index_or registers r any).clock

-- These memories are the first `count` of the part.
pub record AreMemories (whole : FlatCircuit) (globals numbers : List ℕ) (clocks : List (Option ℕ)) (count : ℕ) (memories : List Memory) : Type 0 where
  pub counted : length memories ≡ count
  pub each : (m : ℕ) (any other : Memory) → m < count → slice_index_or whole.memories (value_at numbers m) other ≡ renamed_memory (in_whole globals clocks) (slice_index_or memories m any)
  pub below : (m : ℕ) (any : Memory) → m < count → MemoryBelow (length globals) (slice_index_or memories m any)
  pub clocked : (m : ℕ) (any : Memory) → m < count → IsClockedMemory (length clocks) (slice_index_or memories m any)
