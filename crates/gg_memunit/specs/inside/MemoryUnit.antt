-- More on MemoryUnit: what no promise of the program reaches.
-- Source: ICCAD 2019 (a target memory that its host simulates by serving its ports one after another); FIRRTL
-- Specification, "Memories".
use Rattle.std.specs.Prelude.{◌≡◌, ℕ, ◌+◌, ◌-◌, List, [], ◌∷◌, Option, Some, None, Bool, All, length, fold, nat_lt, slice_index_or, if◌then◌else◌}
use Rattle.gg_flat.specs.declared.memory.UnderWrite.TheVariants.{Old, New, Undefined}
use Rattle.gg_flat.specs.declared.memory.Latency.{Latency}
use Rattle.gg_flat.specs.declared.memory.Latency.TheVariants.{Zero, One}
use Rattle.gg_flat.specs.declared.memory.Reader.{Reader}
use Rattle.gg_flat.specs.declared.memory.Writer.{Writer}
use Rattle.gg_flat.specs.Clock.{Ratio}
use Rattle.gg_flat.specs.Circuit.{FlatCircuit, reader_at}
use Rattle.gg_flat.specs.State.{State, next_state, opening}
use Rattle.gg_flat.specs.Settled.{Settled}
use Rattle.gg_flat.specs.Memory.{Bank, read_count, bank_at}
use Rattle.gg_flat.specs.Served.{Access, ByReader, ByWriter}
use Rattle.gg_node.specs.Machine.{Port, Machine, latched_values}
use Rattle.gg_node.specs.Token.{accessed}
use Rattle.gg_memunit.specs.MemoryUnit.{IsMemoryPiece, ports_of, started_unit}

-- the writer at a place; past the end one of signal 0
abbrev pub writer_at : List Writer → ℕ → Writer
writer_at writers w = slice_index_or writers w (record { addr = 0; en = 0; word = 0; mask = 0; clock = None })

-- the access of the port with a number
abbrev pub access_of : List Reader → List Writer → ℕ → Access
access_of readers writers p = if nat_lt p (length readers) then ByReader p (reader_at readers p) else ByWriter (p - length readers) (writer_at writers (p - length readers))

-- the number of ports that are served in a cycle, for a memory with this many readers and writers
abbrev pub count_by : Latency → ℕ → ℕ → ℕ
count_by Zero readers writers = writers
count_by (One under) readers writers = readers + writers

-- the number of the port at a place of the order
abbrev pub number_by : Latency → ℕ → ℕ → ℕ → ℕ
number_by Zero readers writers j = readers + j
number_by (One Old) readers writers j = j
number_by (One Undefined) readers writers j = j
number_by (One New) readers writers j = if nat_lt j writers then readers + j else j - writers

-- the state of a piece that is only a memory with this bank
abbrev pub state_of : Bank → State
state_of bank = record { registers = []; banks = bank ∷ [] }

-- the state after these accesses, one after another, in a tick with these edges
abbrev pub accessed_by : List Bool → List (Option ℕ) → State → List Port → State
accessed_by edges latches state ports = fold (λ state port. accessed edges latches state (Some port)) state ports

-- a memory unit before its first cycle
abbrev pub opening_unit : FlatCircuit → List Ratio → Machine
opening_unit piece ratios = started_unit piece ratios (opening piece) 0

-- The fields of a unit belong to its piece: its state is what its only memory holds, with a read register for each late
-- reader; there is a latch for each in-signal and a flag for each out-signal, and the inputs are the tokens in the
-- latches.
pub record IsOfPiece (piece : FlatCircuit) (state : State) (inputs : List ℕ) (latches : List (Option ℕ)) (flags : List Bool) : Type 0 where
  pub memory : IsMemoryPiece piece
  pub none : state.registers ≡ []
  pub one : length state.banks ≡ 1
  pub held : All (λ memory. length (bank_at state.banks 0).reads ≡ read_count memory.latency memory.readers) piece.memories
  pub ins : length latches ≡ length piece.ins
  pub outs : length flags ≡ length piece.outs
  pub tokens : inputs ≡ latched_values latches

-- Once all ports of a memory were served with the tokens in the latches, its state is the piece's next state of a tick with these edges and with
-- these tokens as inputs.
abbrev pub IsServedThrough : List Bool → FlatCircuit → State → Type 0
IsServedThrough edges piece state =
    (latches : List (Option ℕ)) (signals : List ℕ) → Settled piece state (latched_values latches) signals
    → accessed_by edges latches state (ports_of piece.memories) ≡ next_state edges piece state signals
