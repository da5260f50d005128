-- How much scratch space the lines of a circuit need: a place for each node of the longest.
use Rattle.std.specs.Prelude.{ℕ, ◌≤◌, max, List, Option, Some, None, length, All}
use Rattle.gg_flat.specs.declared.line.Node.{Node}
use Rattle.gg_flat.specs.declared.piece.Register.{Register}
use Rattle.gg_flat.specs.declared.piece.Reset.{Reset}
use Rattle.gg_flat.specs.declared.piece.Driver.{Driver}
use Rattle.gg_flat.specs.declared.piece.Driver.TheVariants.{Input, Held, MemoryWord, ReadRegister, Computed}
use Rattle.gg_flat.specs.Circuit.{FlatCircuit}

-- how many nodes a driver has
abbrev pub line_length : Driver → ℕ
line_length (Input place) = 0
line_length (Held register) = 0
line_length (MemoryWord memory reader addr en) = 0
line_length (ReadRegister memory reader) = 0
line_length (Computed line) = length line

-- how many nodes a register's connection has
abbrev pub next_length : Option (List Node) → ℕ
next_length None = 0
next_length (Some line) = length line

-- how many nodes the longer line of a reset has
abbrev pub reset_length : Option Reset → ℕ
reset_length None = 0
reset_length (Some reset) = max (length reset.condition) (length reset.init)

-- how many nodes the longest line of a register has
abbrev pub register_length : Register → ℕ
register_length register = max (reset_length register.reset) (next_length register.next)

-- this many places are enough for each line of the circuit
pub record HasRoom (circuit : FlatCircuit) (places : ℕ) : Type 0 where
  pub drivers : All (λ signal. line_length signal.driver ≤ places) circuit.signals
  pub registers : All (λ register. register_length register ≤ places) circuit.registers
