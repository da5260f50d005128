-- What can be chosen of a flat circuit as a part: signals, which of them come from outside, which of them are given to the outside, and
-- memories. All numbers are the whole circuit's.
-- Source: FIRRTL Specification, "Circuit Definitions", "Instances" (a design is cut where its modules meet); MEMOCODE 2009 (a synchronous
-- design as a network of its parts).
use Rattle.std.specs.Prelude.{◌≡◌, ◌≢◌, ℕ, ◌<◌, List, Some, length, slice_get, All, AllPairs, Contains}
use Rattle.gg_flat.specs.declared.piece.Register.{Register}
use Rattle.gg_flat.specs.declared.piece.Driver.{Driver}
use Rattle.gg_flat.specs.declared.piece.Driver.TheVariants.{Input, Held, MemoryWord, ReadRegister, Computed}
use Rattle.gg_flat.specs.Circuit.{FlatCircuit, driver_at, readers_at, reader_at}
use Rattle.gg_flat.specs.Reads.{NamesSignal, RegisterNames}
use Rattle.gg_flat_tree.specs.Scoped.{memory_fields}

-- a driver names a memory: its value is a word or a read register of the memory
abbrev pub NamesMemory : Driver → ℕ → Type 0
NamesMemory (Input place) m = ⊥
NamesMemory (Held register) m = ⊥
NamesMemory (MemoryWord memory reader addr en) m = memory ≡ m
NamesMemory (ReadRegister memory reader) m = memory ≡ m
NamesMemory (Computed line) m = ⊥

-- A choice: signals of the whole circuit, each once, and memories of it, each once. `entries` has the chosen signals that come from
-- outside, each once. `exits` has the chosen signals that are given to the outside. An in-signal of the whole circuit comes from outside.
-- For each other chosen signal, everything that its driver names is chosen too: signals, the signals that its register names, and memories.
-- A chosen memory has its fields among the chosen signals, and the data of its readers doesn't come from outside.
pub record IsChoice (whole : FlatCircuit) (globals entries exits memories : List ℕ) : Type 0 where
  pub within : All (λ s. s < length whole.signals) globals
  pub once : AllPairs (λ a b. a ≢ b) globals
  pub ins : All (λ s. Contains globals s) entries
  pub ins_once : AllPairs (λ a b. a ≢ b) entries
  pub outs : All (λ s. Contains globals s) exits
  pub given : (s place : ℕ) → driver_at whole s ≡ Input place → Contains globals s → Contains entries s
  pub closed : (s t : ℕ) → Contains globals s → ¬ Contains entries s → NamesSignal (driver_at whole s) t → Contains globals t
  pub registers : (s r t : ℕ) (register : Register) → Contains globals s → ¬ Contains entries s → driver_at whole s ≡ Held r → slice_get whole.registers r ≡ Some register → RegisterNames register t → Contains globals t
  pub memory_within : All (λ m. m < length whole.memories) memories
  pub memories_once : AllPairs (λ a b. a ≢ b) memories
  pub banks : (s m : ℕ) → Contains globals s → ¬ Contains entries s → NamesMemory (driver_at whole s) m → Contains memories m
  pub fields : (m s : ℕ) → Contains memories m → Contains (memory_fields whole m) s → Contains globals s
  pub answers : (m r : ℕ) → Contains memories m → r < length (readers_at whole m) → ¬ Contains entries (reader_at (readers_at whole m) r).word
