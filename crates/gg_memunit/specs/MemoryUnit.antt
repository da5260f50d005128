-- A memory as a machine of its own. Its ports are served one by one.
-- Source: ICCAD 2019 (a target memory that its host simulates by serving its ports one after another); FIRRTL
-- Specification, "Memories".
use Rattle.std.specs.Prelude.{◌≡◌, ℕ, ◌+◌, ◌-◌, ◌<◌, ◌^◌, List, [], ◌∷◌, Option, None, Bool, false, replicate, All, length, map, if◌then◌else◌}
use Rattle.gg_bits.specs.Limits.{cycle_limit}
use Rattle.gg_flat.specs.declared.memory.Latency.{Latency}
use Rattle.gg_flat.specs.declared.memory.Latency.TheVariants.{Zero, One}
use Rattle.gg_flat.specs.declared.memory.Reader.{Reader}
use Rattle.gg_flat.specs.declared.memory.Writer.{Writer}
use Rattle.gg_flat.specs.declared.memory.Memory.{Memory}
use Rattle.gg_flat.specs.Clock.{Ratio}
use Rattle.gg_flat.specs.Line.{value_at}
use Rattle.gg_flat.specs.Circuit.{FlatCircuit}
use Rattle.gg_flat.specs.State.{State}
use Rattle.gg_flat.specs.Memory.{LooksAmong, WritesAmong}
use Rattle.gg_flat.specs.Served.{Access, ByReader, ByWriter, due_of}
use Rattle.gg_flat.specs.WellFormed.{IsWellFormed}
use Rattle.gg_node.specs.Machine.{RunsPiece, Port, Machine}

-- the signals of the readers' data
abbrev pub outs_of : List Memory → List ℕ
outs_of [] = []
outs_of (memory ∷ memories) = map (λ reader. reader.word) memory.readers

-- A piece that is only a memory. Its in-signals come first and are the fields of the memory's ports. Its out-signals
-- are the data of the readers, in order.
pub record IsMemoryPiece (piece : FlatCircuit) : Type 0 where
  pub formed : IsWellFormed piece
  pub one : length piece.memories ≡ 1
  pub alone : piece.registers ≡ []
  -- the in-signals are the first signals
  pub first : (i : ℕ) → i < length piece.ins → value_at piece.ins i ≡ i
  -- the fields that the ports read are in-signals
  pub readers : All (λ memory. All (LooksAmong (length piece.ins)) memory.readers) piece.memories
  pub writers : All (λ memory. All (WritesAmong (length piece.ins)) memory.writers) piece.memories
  pub few : All (λ memory. length memory.readers + length memory.writers < 2 ^ 32) piece.memories
  pub outs : piece.outs ≡ outs_of piece.memories

-- the port of an access: readers are numbered first, then writers
abbrev pub port_of : ℕ → Access → Port
port_of readers (ByReader r reader) = record { number = r; access = ByReader r reader }
port_of readers (ByWriter w writer) = record { number = readers + w; access = ByWriter w writer }

-- the ports that are served in a cycle, in their order
abbrev pub ports_by : Latency → List Reader → List Writer → List Port
ports_by latency readers writers = map (port_of (length readers)) (due_of latency readers writers)

-- the number of ports of the only memory
abbrev pub count_of : List Memory → ℕ
count_of [] = 0
count_of (memory ∷ memories) = length memory.readers + length memory.writers

-- the ports of the only memory that are served, in their order
abbrev pub ports_of : List Memory → List Port
ports_of [] = []
ports_of (memory ∷ memories) = ports_by memory.latency memory.readers memory.writers

-- the ins that the data of a reader needs: its address and its enable if it gives the word in the same cycle, otherwise
-- none
abbrev pub needs_by : Latency → Reader → List ℕ
needs_by Zero reader = reader.addr ∷ reader.en ∷ []
needs_by (One under) reader = []

-- the needs of the data of each reader
abbrev pub needs_of : List Memory → List (List ℕ)
needs_of [] = []
needs_of (memory ∷ memories) = map (needs_by memory.latency) memory.readers

-- a memory unit with this piece and a ratio for each of its clocks; it can do this many cycles
abbrev pub memory_machine : FlatCircuit → List Ratio → ℕ → ℕ → State → ℕ → List (Option ℕ) → List Bool → Machine
memory_machine piece ratios limit cycle state served latches flags =
    record {
      behaviour = RunsPiece piece;
      limit = limit;
      ratios = ratios;
      needs = needs_of piece.memories;
      port_count = count_of piece.memories;
      ports = ports_of piece.memories;
      cycle = cycle;
      state = state;
      served = served;
      latches = latches;
      flags = flags;
      kept = [];
    }

-- a memory unit that begins in this state, with this cycle: its latches are empty and its flags clear
abbrev pub started_unit : FlatCircuit → List Ratio → State → ℕ → Machine
started_unit piece ratios state cycle = memory_machine piece ratios cycle_limit cycle state 0 (replicate (length piece.ins) None) (replicate (length piece.outs) false)
