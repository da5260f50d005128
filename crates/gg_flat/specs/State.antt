-- The state of a flat circuit, and the state after a tick.
-- Source: FIRRTL Specification, "Registers" and "Memories". Registers and words start at 0, and a register that is
-- never connected keeps its value: this is the program's profile.
use Rattle.std.specs.Prelude.{ℕ, List, [], ◌∷◌, Option, Some, None, Bool, length, map, replicate, ◌==◌, if◌then◌else◌}
use Rattle.gg_bits.specs.Shape.{Shape, shape}
use Rattle.gg_flat.specs.declared.line.Node.{Node}
use Rattle.gg_flat.specs.declared.piece.Register.{Register}
use Rattle.gg_flat.specs.declared.piece.Reset.{Reset}
use Rattle.gg_flat.specs.Line.{AreTyped, line_value, connected_value}
use Rattle.gg_flat.specs.Circuit.{FlatCircuit, register_shapes}
use Rattle.gg_flat.specs.Clock.{ticks}
use Rattle.gg_flat.specs.Memory.{Bank, opening_bank, next_banks, AreBanks}

-- a state: the registers' values, and the contents of each memory
pub record State : Type 0 where
  pub registers : List ℕ
  pub banks : List Bank

-- the state before the first cycle: zeros
abbrev pub opening : FlatCircuit → State
opening circuit =
    record { registers = replicate (length circuit.registers) 0; banks = map (λ memory. opening_bank memory) circuit.memories }

-- a register's connected value, or its own if it has no connection
abbrev pub connected_or : List ℕ → Shape → Option (List Node) → ℕ → ℕ
connected_or signals sink None own = own
connected_or signals sink (Some line) own = connected_value signals sink line

-- the init of the reset if its condition is 1, otherwise the other value
abbrev pub reset_or : List ℕ → Shape → Option Reset → ℕ → ℕ
reset_or signals sink None other = other
reset_or signals sink (Some reset) other = if line_value signals reset.condition == 1 then connected_value signals sink reset.init else other

-- What a register takes at an edge of its clock: its init if its reset condition is 1, otherwise its connected value,
-- or its own without one.
abbrev pub taken_value : List ℕ → Register → ℕ → ℕ
taken_value signals register own = reset_or signals (shape register.ty) register.reset (connected_or signals (shape register.ty) register.next own)

-- a register after a tick with these edges: without an edge of its clock it keeps its value
abbrev pub next_register : List Bool → List ℕ → Register → ℕ → ℕ
next_register edges signals register own = if ticks edges register.clock then taken_value signals register own else own

-- the registers after the tick, from their values before it
abbrev pub next_registers : List Bool → List ℕ → List Register → List ℕ → List ℕ
next_registers edges signals [] own = []
next_registers edges signals (register ∷ registers) [] = []
next_registers edges signals (register ∷ registers) (own ∷ others) = next_register edges signals register own ∷ next_registers edges signals registers others

-- the state after a tick with these edges, if the signals have these values
abbrev pub next_state : List Bool → FlatCircuit → State → List ℕ → State
next_state edges circuit state signals =
    record {
      registers = next_registers edges signals circuit.registers state.registers;
      banks = next_banks edges signals circuit.memories state.banks;
    }

-- a state that the circuit can be in, by its counts and types
pub record IsState (circuit : FlatCircuit) (state : State) : Type 0 where
  pub typed : AreTyped (register_shapes circuit) state.registers
  pub held : AreBanks circuit.memories state.banks
