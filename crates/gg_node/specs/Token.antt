-- The token of an out, and the state after a cycle.
-- Source: MEMOCODE 2009: an output depends only on its needed inputs (no extraneous dependency), and a node cleans
-- itself when it finishes; FIRRTL Specification for what a settled cycle and a next state are.
use Rattle.std.specs.Prelude.{◌≡◌, ℕ, List, [], ◌∷◌, Option, Some, None, Bool, Contains}
use Rattle.gg_flat.specs.Line.{value_at}
use Rattle.gg_flat.specs.State.{State, next_state}
use Rattle.gg_flat.specs.Settled.{Settled}
use Rattle.gg_flat.specs.Memory.{Bank, bank_at}
use Rattle.gg_flat.specs.Served.{after_access}
use Rattle.gg_node.specs.Machine.{Behaviour, RunsPiece, GivesColumn, KeepsLast, Port, Machine, latch_at, needs_at, edges_of, latched_values}

-- For each of these ins that has a token, the inputs have this token.
abbrev pub AgreesOn : List ℕ → List (Option ℕ) → List ℕ → Type 0
AgreesOn ins latches inputs = (i value : ℕ) → Contains ins i → latch_at latches i ≡ Some value → value_at inputs i ≡ value

-- A value is the token of an out. For a piece it is the value that the out-signal has in every settled row, in the
-- machine's state, that agrees with the tokens of the needed ins. For a column it is the value of this cycle.
abbrev pub IsTokenOf : Behaviour → Machine → ℕ → ℕ → Type 0
IsTokenOf (RunsPiece piece) machine o value = (inputs signals : List ℕ) → Settled piece machine.state inputs signals → AgreesOn (needs_at machine.needs o) machine.latches inputs → value_at signals (value_at piece.outs o) ≡ value
IsTokenOf (GivesColumn column) machine o value = value_at column machine.cycle ≡ value
IsTokenOf (KeepsLast rows) machine o value = ⊥

-- a value is the token of an out in this cycle
abbrev pub IsToken : Machine → ℕ → ℕ → Type 0
IsToken machine o value = IsTokenOf machine.behaviour machine o value

-- A state is the next state of a piece with these ports, if all ins have their tokens. Without ports it is the state
-- after the settled row with these inputs. For a memory that is served it is what its accesses have made of the state.
-- A machine without a piece keeps its state.
abbrev pub IsNextOf : Behaviour → List Port → Machine → State → Type 0
IsNextOf (RunsPiece piece) [] machine next = (signals : List ℕ) → Settled piece machine.state (latched_values machine.latches) signals → next ≡ next_state (edges_of machine) piece machine.state signals
IsNextOf (RunsPiece piece) (port ∷ ports) machine next = next ≡ machine.state
IsNextOf (GivesColumn column) ports machine next = next ≡ machine.state
IsNextOf (KeepsLast rows) ports machine next = next ≡ machine.state

-- a state is the machine's state after this cycle
abbrev pub IsNextState : Machine → State → Type 0
IsNextState machine next = IsNextOf machine.behaviour machine.ports machine next

-- a memory's bank after the access of a port, if there is one; its fields are the tokens in the latches, and the tick
-- has these edges
abbrev pub accessed_bank : List Bool → List (Option ℕ) → Bank → Option Port → Bank
accessed_bank edges latches bank None = bank
accessed_bank edges latches bank (Some port) = after_access edges (latched_values latches) bank port.access

-- the state of a memory after one more access
abbrev pub accessed : List Bool → List (Option ℕ) → State → Option Port → State
accessed edges latches state port = record { registers = state.registers; banks = accessed_bank edges latches (bank_at state.banks 0) port ∷ [] }
