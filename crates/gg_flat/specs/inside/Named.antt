-- More on Named: what no promise of the program reaches.
use Rattle.std.specs.Prelude.{◌≡◌, ℕ, Option, All}
use Rattle.gg_flat.specs.declared.memory.Memory.{Memory}
use Rattle.gg_flat.specs.declared.piece.Driver.{Driver}
use Rattle.gg_flat.specs.declared.piece.Driver.TheVariants.{Input, Held, MemoryWord, ReadRegister, Computed}
use Rattle.gg_flat.specs.Reads.{NamesSignal}

-- ---- each signal that something names has the property P

-- each signal that a driver names has the property P
abbrev pub DriverNamesOnly : (ℕ → Type 0) → Driver → Type 0
DriverNamesOnly P driver = (s : ℕ) → NamesSignal driver s → P s

-- ---- each clock that something follows has the property Q; None is the clock of every tick

-- each clock that the ports of a memory follow has the property Q
pub record MemoryFollowsOnly (Q : Option ℕ → Type 0) (memory : Memory) : Type 0 where
  pub readers : All (λ reader. Q reader.clock) memory.readers
  pub writers : All (λ writer. Q writer.clock) memory.writers

-- ---- what a driver names other than signals

-- a driver names a register: its value is the register's
abbrev pub NamesRegister : Driver → ℕ → Type 0
NamesRegister (Input place) r = ⊥
NamesRegister (Held register) r = register ≡ r
NamesRegister (MemoryWord memory reader addr en) r = ⊥
NamesRegister (ReadRegister memory reader) r = ⊥
NamesRegister (Computed line) r = ⊥

-- a driver names a memory: its value is a word or a read register of the memory
abbrev pub NamesMemory : Driver → ℕ → Type 0
NamesMemory (Input place) m = ⊥
NamesMemory (Held register) m = ⊥
NamesMemory (MemoryWord memory reader addr en) m = memory ≡ m
NamesMemory (ReadRegister memory reader) m = memory ≡ m
NamesMemory (Computed line) m = ⊥
