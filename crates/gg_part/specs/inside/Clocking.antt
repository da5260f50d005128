-- Which clocks of a part the registers and the memories of the whole circuit follow.
-- Source: FIRRTL Specification, "Clock" types (a register and a port of a memory follow one clock each), "Instances" (an instance's Clock
-- input is connected where the instance is declared).
use Rattle.std.specs.Prelude.{◌≡◌, ℕ, ◌<◌, List, [], Option, None, ◌++◌, length, map, slice_index_or, Contains}
use Rattle.gg_flat.specs.declared.memory.Memory.{Memory}
use Rattle.gg_flat.specs.declared.piece.Register.{Register}
use Rattle.gg_flat.specs.Circuit.{FlatCircuit}
use Rattle.gg_flat_tree.specs.Clocked.{clock_at}
use Rattle.gg_flat.specs.Line.{value_at}
use Rattle.gg_flat.specs.WellFormed.{IsClock}
use Rattle.gg_part.specs.Building.{IsHeldIn}

-- the clocks of a memory's ports: of its readers, then of its writers
abbrev pub clocks_of_ports : Memory → List (Option ℕ)
clocks_of_ports memory = map (λ reader. reader.clock) memory.readers ++ map (λ writer. writer.clock) memory.writers

-- Clock `own` of a part, if any, follows clock `there` of the whole circuit.
pub record LeadsTo (clocks : List (Option ℕ)) (there own : Option ℕ) : Type 0 where
  pub known : IsClock (length clocks) own
  pub leads : clock_at clocks own ≡ there

-- Each register that a chosen signal holds, and each port of a chosen memory, follows a clock of the part, if any. `registers` has it for
-- each register of the whole circuit, and `ports` has a list for each memory.
pub record AreTimed (whole : FlatCircuit) (globals entries memories : List ℕ) (clocks registers : List (Option ℕ)) (ports : List (List (Option ℕ))) : Type 0 where
  pub register : (r : ℕ) (any : Register) → IsHeldIn whole globals entries r → LeadsTo clocks (slice_index_or whole.registers r any).clock (slice_index_or registers r None)
  pub port : (m p : ℕ) (any : Memory) → Contains memories m → p < length (clocks_of_ports (slice_index_or whole.memories m any))
      → LeadsTo clocks (slice_index_or (clocks_of_ports (slice_index_or whole.memories m any)) p None) (slice_index_or (slice_index_or ports m []) p None)

-- ---- what a part's own registers and ports follow

-- the first `count` registers of a part follow the clocks in the table at these numbers
abbrev pub RegistersFollow : (held : List ℕ) (table : List (Option ℕ)) (count : ℕ) → List Register → Type 0
RegistersFollow held table count registers = (r : ℕ) (any : Register) → r < count → (slice_index_or registers r any).clock ≡ slice_index_or table (value_at held r) None

-- the ports of a memory follow these clocks, in order
abbrev pub PortsFollow : List (Option ℕ) → Memory → Type 0
PortsFollow ports memory = (p : ℕ) → p < length (clocks_of_ports memory) → slice_index_or (clocks_of_ports memory) p None ≡ slice_index_or ports p None

-- the ports of the first `count` memories of a part follow the clocks in the table at these numbers
abbrev pub MemoriesFollow : (numbers : List ℕ) (table : List (List (Option ℕ))) (count : ℕ) → List Memory → Type 0
MemoriesFollow numbers table count memories = (m : ℕ) (any : Memory) → m < count → PortsFollow (slice_index_or table (value_at numbers m) []) (slice_index_or memories m any)

-- The registers and the ports of a part follow the clocks that these tables of the whole circuit have for them.
pub record IsTimed (part : FlatCircuit) (held memories : List ℕ) (registers : List (Option ℕ)) (ports : List (List (Option ℕ))) : Type 0 where
  pub register : RegistersFollow held registers (length held) part.registers
  pub port : MemoriesFollow memories ports (length memories) part.memories
