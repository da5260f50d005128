-- What a line, a register, a port or a memory names, and the clocks that it follows.
use Rattle.std.specs.Prelude.{ℕ, List, All}
use Rattle.gg_flat.specs.declared.line.Node.{Node}
use Rattle.gg_flat.specs.declared.memory.Reader.{Reader}
use Rattle.gg_flat.specs.declared.memory.Writer.{Writer}
use Rattle.gg_flat.specs.declared.memory.Memory.{Memory}
use Rattle.gg_flat.specs.declared.piece.Register.{Register}
use Rattle.gg_flat.specs.Reads.{Names, RegisterNames}

-- ---- each signal that something names has the property P

-- each signal that a line names has the property P
abbrev pub NamesOnly : (ℕ → Type 0) → List Node → Type 0
NamesOnly P line = (s : ℕ) → Names line s → P s

-- each signal that a register names has the property P
abbrev pub RegisterNamesOnly : (ℕ → Type 0) → Register → Type 0
RegisterNamesOnly P register = (s : ℕ) → RegisterNames register s → P s

-- each signal that a reader of a memory names has the property P
abbrev pub ReaderNamesOnly : (ℕ → Type 0) → Reader → Type 0
ReaderNamesOnly P reader = P reader.addr × P reader.en × P reader.word

-- each signal that a writer of a memory names has the property P
abbrev pub WriterNamesOnly : (ℕ → Type 0) → Writer → Type 0
WriterNamesOnly P writer = P writer.addr × P writer.en × P writer.word × P writer.mask

-- each signal that the ports of a memory name has the property P
pub record MemoryNamesOnly (P : ℕ → Type 0) (memory : Memory) : Type 0 where
  pub readers : All (λ reader. ReaderNamesOnly P reader) memory.readers
  pub writers : All (λ writer. WriterNamesOnly P writer) memory.writers
