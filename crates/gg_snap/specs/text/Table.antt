-- The table of a circuit: the values of a snapshot of it, in the order of the lines.
-- Source: FIRRTL Specification, "Registers", "Memories"; the order and the paths are this program's own.
use Rattle.std.specs.Prelude.{ℕ, ◌++◌, List, [], ◌∷◌, Option, Some, None, ◌==◌, if◌then◌else◌, codes, length, map}
use Rattle.std.specs.List.{flat_map, range_with_len}
use Rattle.std.specs.Ordering.{is_lt, nat_cmp}
use Rattle.std.specs.Cmp.Lexicographic.{slice_cmp}
use Rattle.gg_bits.specs.Shape.{shape}
use Rattle.gg_flat.specs.declared.piece.Driver.{Driver}
use Rattle.gg_flat.specs.declared.piece.Driver.TheVariants.{Input, Held, MemoryWord, ReadRegister, Computed}
use Rattle.gg_flat.specs.Circuit.{FlatCircuit, signal_shapes, driver_at}
use Rattle.gg_flat.specs.Line.{shape_at, value_at}
use Rattle.gg_flat_tree.specs.Tree.{InstanceTree, path_at, memory_at}
use Rattle.gg_snap.specs.declared.text.row.At.TheVariants.{Register, Read, Words}
use Rattle.gg_snap.specs.declared.text.row.Kind.{Kind}
use Rattle.gg_snap.specs.declared.text.row.Kind.TheVariants as kind
use Rattle.gg_snap.specs.declared.text.row.Row.{Row}

-- ---- registers, pipes and read registers

-- the rest of a text after these bytes, if it begins with them
abbrev pub after : List ℕ → List ℕ → Option (List ℕ)
after [] text = Some text
after (b ∷ front) [] = None
after (b ∷ front) (c ∷ text) = if b == c then after front text else None

-- the name of a pipe's channel, if this is the path of a pipe
abbrev pub channel_of : List ℕ → Option (List ℕ)
channel_of path = after (codes "pipe:") path

-- the row of a register with this path, if it is no pipe
abbrev pub register_named : (path : List ℕ) (width r : ℕ) → Option (List ℕ) → List Row
register_named path width r None = record { kind = kind.Register; path = path; width = width; count = 1; at = Register r } ∷ []
register_named path width r (Some channel) = []

-- the row of a pipe's register
abbrev pub pipe_named : (width r : ℕ) → Option (List ℕ) → List Row
pipe_named width r None = []
pipe_named width r (Some channel) = record { kind = kind.Pipe; path = channel; width = width; count = 1; at = Register r } ∷ []

-- the row of a register that is no pipe, which is named by the path of the signal that holds it
abbrev pub register_row : (path : List ℕ) (width : ℕ) → Driver → List Row
register_row path width (Input place) = []
register_row path width (Held r) = register_named path width r (channel_of path)
register_row path width (MemoryWord memory reader addr en) = []
register_row path width (ReadRegister memory reader) = []
register_row path width (Computed line) = []

-- the row of a pipe's register, which is named by the path of the pipe's channel
abbrev pub pipe_row : (path : List ℕ) (width : ℕ) → Driver → List Row
pipe_row path width (Input place) = []
pipe_row path width (Held r) = pipe_named width r (channel_of path)
pipe_row path width (MemoryWord memory reader addr en) = []
pipe_row path width (ReadRegister memory reader) = []
pipe_row path width (Computed line) = []

-- the row of a read register, which is named by the path of its reader's data
abbrev pub read_row : (path : List ℕ) (width : ℕ) → Driver → List Row
read_row path width (Input place) = []
read_row path width (Held r) = []
read_row path width (MemoryWord memory reader addr en) = []
read_row path width (ReadRegister memory reader) = record { kind = kind.Read; path = path; width = width; count = 1; at = Read memory reader } ∷ []
read_row path width (Computed line) = []

-- the rows of this kind that a signal gives
abbrev pub signal_row : Kind → (path : List ℕ) (width : ℕ) → Driver → List Row
signal_row kind.Register path width driver = register_row path width driver
signal_row kind.Read path width driver = read_row path width driver
signal_row kind.Pipe path width driver = pipe_row path width driver
signal_row kind.Memory path width driver = []

-- the rows of this kind that the signals give, in the order of the signals
abbrev pub signal_rows : Kind → FlatCircuit → List Row
signal_rows k circuit = flat_map (λ s. signal_row k (path_at circuit.paths s) (shape_at (signal_shapes circuit) s).width (driver_at circuit s)) (range_with_len 0 (length circuit.signals))

-- the rows of all registers that are no pipes, in the order of the signals
abbrev pub register_rows : FlatCircuit → List Row
register_rows circuit = signal_rows kind.Register circuit

-- the rows of all read registers, in the order of the signals
abbrev pub read_rows : FlatCircuit → List Row
read_rows circuit = signal_rows kind.Read circuit

-- the rows of all pipes, in the order of the signals
abbrev pub pipe_rows : FlatCircuit → List Row
pipe_rows circuit = signal_rows kind.Pipe circuit

-- ---- memories

-- the row of memory m with this path
abbrev pub memory_row : FlatCircuit → (path : List ℕ) (m : ℕ) → Row
memory_row circuit path m =
    record {
      kind = kind.Memory;
      path = path;
      width = (shape_at (map (λ memory. shape memory.word) circuit.memories) m).width;
      count = value_at (map (λ memory. memory.depth) circuit.memories) m;
      at = Words m;
    }

-- the rows of all memories, in the order of the tree
abbrev pub memory_rows : FlatCircuit → InstanceTree → List Row
memory_rows circuit tree = map (λ place. memory_row circuit (path_at tree.memory_paths place) (memory_at tree place).memory) (range_with_len 0 (length tree.memories))

-- ---- by path

-- a row among rows that are in the order of the bytes of their paths
abbrev pub inserted : Row → List Row → List Row
inserted row [] = row ∷ []
inserted row (next ∷ rows) = if is_lt (slice_cmp nat_cmp row.path next.path) then row ∷ next ∷ rows else next ∷ inserted row rows

-- rows in the order of the bytes of their paths
abbrev pub by_path : List Row → List Row
by_path [] = []
by_path (row ∷ rows) = inserted row (by_path rows)

-- the table of a circuit with its tree: registers, read registers, pipes and memories, each kind by path
abbrev pub rows_of : FlatCircuit → InstanceTree → List Row
rows_of circuit tree = by_path (register_rows circuit) ++ (by_path (read_rows circuit) ++ (by_path (pipe_rows circuit) ++ by_path (memory_rows circuit tree)))
