-- Which clock of the circuit each Clock input of an instance follows, and that registers, the ports of memories and stops follow the Clock
-- inputs of their instances.
-- Source: FIRRTL Specification, "Instances" (an instance's input is connected where the instance is), "Clock" types, "Registers",
-- "Memories".
use Rattle.std.specs.Prelude.{◌≡◌, ℕ, zero, suc, ◌<◌, List, [], ◌∷◌, ◌++◌, Option, Some, None, length, map, slice_get, slice_index_or, All}
use Rattle.gg_flat.specs.declared.piece.Driver.TheVariants.{Held}
use Rattle.gg_flat.specs.declared.piece.Register.{Register}
use Rattle.gg_flat.specs.Circuit.{FlatCircuit, driver_at, readers_at}
use Rattle.gg_flat_tree.specs.Scoped.{writers_at}
use Rattle.gg_flat_tree.specs.Tree.{InstanceTree, IsInnermost, instance_at, memory_at, stop_at}
use Rattle.gg_flat.specs.WellFormed.{IsClock}

-- `count` clocks, starting at a number
abbrev pub clocks_from : ℕ → ℕ → List (Option ℕ)
clocks_from number zero = []
clocks_from number (suc count) = Some number ∷ clocks_from (suc number) count

-- ---- from an instance up to the top

-- the clock at a number; none where there is no number, and past the end
abbrev pub clock_at : List (Option ℕ) → Option ℕ → Option ℕ
clock_at clocks None = None
clock_at clocks (Some number) = slice_index_or clocks number None

-- the clocks that an instance's Clock inputs `clocks` lead to, where `of_parent` has the clocks of its parent; the top's are what they are
abbrev pub through_parent : (ℕ → List (Option ℕ)) → Option ℕ → List (Option ℕ) → List (Option ℕ)
through_parent of_parent None clocks = clocks
through_parent of_parent (Some parent) clocks = map (clock_at (of_parent parent)) clocks

-- the clocks that the Clock inputs of the instance at place k lead to, this many levels above it
abbrev pub clocks_up : InstanceTree → ℕ → ℕ → List (Option ℕ)
clocks_up tree zero k = (instance_at tree k).clocks
clocks_up tree (suc levels) k = through_parent (clocks_up tree levels) (instance_at tree k).parent (instance_at tree k).clocks

-- For each Clock input of the instance at place k the clock of the circuit that it follows. There are fewer levels above
-- an instance than there are instances.
abbrev pub top_clocks : InstanceTree → ℕ → List (Option ℕ)
top_clocks tree k = clocks_up tree (length tree.instances) k

-- ---- a circuit with the clocks of its tree

-- a number is one of a Clock input of the instance at place k, if there is one
abbrev pub IsClockOf : InstanceTree → ℕ → Option ℕ → Type 0
IsClockOf tree k clock = IsClock (length (instance_at tree k).clocks) clock

-- the clocks of the ports of a memory: of its readers, then of its writers
abbrev pub port_clocks : FlatCircuit → ℕ → List (Option ℕ)
port_clocks circuit m = map (λ reader. reader.clock) (readers_at circuit m) ++ map (λ writer. writer.clock) (writers_at circuit m)

-- A circuit has the clocks of its tree: one for each Clock input of the top. Each Clock input of another instance follows one of its
-- parent, if any. A register and a port of a memory follow a Clock input of their instance, if any, and through it a clock of the circuit.
-- A stop follows a Clock input of its instance, if any.
pub record IsClocked (circuit : FlatCircuit) (tree : InstanceTree) : Type 0 where
  pub count : length tree.clocks ≡ circuit.clocks
  pub top : (instance_at tree 0).clocks ≡ clocks_from 0 circuit.clocks
  pub instances : (k above : ℕ) → k < length tree.instances → (instance_at tree k).parent ≡ Some above → All (IsClockOf tree above) (instance_at tree k).clocks
  pub register_count : length tree.register_clocks ≡ length circuit.registers
  pub register_known : (k s r : ℕ) → IsInnermost tree k s → driver_at circuit s ≡ Held r → IsClockOf tree k (slice_index_or tree.register_clocks r None)
  pub registers : (k s r : ℕ) (register : Register) → IsInnermost tree k s → driver_at circuit s ≡ Held r → slice_get circuit.registers r ≡ Some register
      → register.clock ≡ clock_at (top_clocks tree k) (slice_index_or tree.register_clocks r None)
  pub port_known : (j : ℕ) → j < length tree.memories → All (IsClockOf tree (memory_at tree j).instance) (memory_at tree j).clocks
  pub ports : (j : ℕ) → j < length tree.memories → port_clocks circuit (memory_at tree j).memory ≡ map (clock_at (top_clocks tree (memory_at tree j).instance)) (memory_at tree j).clocks
  pub stops : (j : ℕ) → j < length tree.stops → IsClockOf tree (stop_at tree j).instance (stop_at tree j).clock
