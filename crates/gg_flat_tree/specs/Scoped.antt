-- Scoping: which signals the driver of a signal, a register and a memory can name, and how signals are named in the tree.
-- Source: FIRRTL Specification, "Namespaces" (the names of one module are distinct, and it sees the names of its declarations and of its
-- instances' ports), "Instances", "Memories" (the fields of a port), "Connects".
use Rattle.std.specs.Prelude.{◌≡◌, ◌≢◌, ◌⊎◌, ℕ, ◌<◌, List, [], ◌∷◌, ◌++◌, true, not, Some, length, map, flat_map, filter, slice_get, slice_index_or, Contains, AllPairs}
use Rattle.gg_flat_tree.specs.declared.tree.InstancePort.{InstancePort}
use Rattle.gg_flat.specs.declared.memory.Reader.{Reader}
use Rattle.gg_flat.specs.declared.memory.Writer.{Writer}
use Rattle.gg_flat.specs.declared.piece.Register.{Register}
use Rattle.gg_flat.specs.declared.piece.Driver.TheVariants.{Held}
use Rattle.gg_flat.specs.Circuit.{FlatCircuit, driver_at, readers_at}
use Rattle.gg_flat.specs.Reads.{NamesSignal, RegisterNames}
use Rattle.gg_flat_tree.specs.Tree.{InstanceTree, IsInnermost, IsWithin, IsJustBelow, path_at, instance_at, memory_at, stop_at}

-- ---- ports and fields

-- the signals of an instance's inputs, in port order
abbrev pub input_signals : List InstancePort → List ℕ
input_signals ports = map (λ port. port.signal) (filter (λ port. port.is_input) ports)

-- the signals of an instance's outputs, in port order
abbrev pub output_signals : List InstancePort → List ℕ
output_signals ports = map (λ port. port.signal) (filter (λ port. not port.is_input) ports)

-- the fields of a reader: its address, its enable and its data
abbrev pub reader_fields : Reader → List ℕ
reader_fields reader = reader.addr ∷ reader.en ∷ reader.word ∷ []

-- the fields of a writer: its address, its enable, its data and its mask
abbrev pub writer_fields : Writer → List ℕ
writer_fields writer = writer.addr ∷ writer.en ∷ writer.word ∷ writer.mask ∷ []

-- the writers of the memory at a place; none past the end
abbrev pub writers_at : FlatCircuit → ℕ → List Writer
writers_at circuit m = slice_index_or (map (λ memory. memory.writers) circuit.memories) m []

-- the signals that are the fields of a memory: of its readers, then of its writers
abbrev pub memory_fields : FlatCircuit → ℕ → List ℕ
memory_fields circuit m = flat_map (λ reader. reader_fields reader) (readers_at circuit m) ++ flat_map (λ writer. writer_fields writer) (writers_at circuit m)

-- signal s is a field of the memory at place j of the tree
abbrev pub IsFieldOf : FlatCircuit → InstanceTree → ℕ → ℕ → Type 0
IsFieldOf circuit tree j s = Contains (memory_fields circuit (memory_at tree j).memory) s

-- ---- where a driver is written, and what can be named there

-- Signal s is a port of the instance at place i.
pub record IsPort (tree : InstanceTree) (i s : ℕ) : Type 0 where
  pub known : i < length tree.instances
  pub port : InstancePort
  pub listed : Contains (instance_at tree i).ports port
  pub is : port.signal ≡ s

-- Signal s is an input of the instance at place i.
pub record IsInputOf (tree : InstanceTree) (i s : ℕ) : Type 0 where
  pub known : i < length tree.instances
  pub port : InstancePort
  pub listed : Contains (instance_at tree i).ports port
  pub is : port.signal ≡ s
  pub input : port.is_input ≡ true

-- Signal s is an input of an instance with its parent at place k.
pub record IsChildsInput (tree : InstanceTree) (k s : ℕ) : Type 0 where
  pub child : ℕ
  pub parent : (instance_at tree child).parent ≡ Some k
  pub input : IsInputOf tree child s

-- Signal s is a port of an instance with its parent at place k.
pub record IsChildsPort (tree : InstanceTree) (k s : ℕ) : Type 0 where
  pub child : ℕ
  pub parent : (instance_at tree child).parent ≡ Some k
  pub port : IsPort tree child s

-- Signal s is an own signal of the instance at place k, and not an input of it.
pub record IsOwnSink (tree : InstanceTree) (k s : ℕ) : Type 0 where
  pub own : IsInnermost tree k s
  pub inner : ¬ IsInputOf tree k s

-- The driver of signal s is written in the instance at place k. An input of an instance is connected in the parent,
-- every other signal where it is declared. The inputs of the top are not connected anywhere.
abbrev pub IsWritten : InstanceTree → ℕ → ℕ → Type 0
IsWritten tree k s = IsOwnSink tree k s ⊎ IsChildsInput tree k s

-- Signal s can be named in the instance at place k: it is its own, or a port of an instance with this parent.
abbrev pub IsVisible : InstanceTree → ℕ → ℕ → Type 0
IsVisible tree k s = IsInnermost tree k s ⊎ IsChildsPort tree k s

-- ---- how signals are named

-- Signal s is a field of a memory of the instance at place k.
pub record IsMemoryField (circuit : FlatCircuit) (tree : InstanceTree) (k s : ℕ) : Type 0 where
  pub place : ℕ
  pub known : place < length tree.memories
  pub holder : (memory_at tree place).instance ≡ k
  pub field : IsFieldOf circuit tree place s

-- A port is the instance's own signal, and its path is just below the instance's.
pub record IsOwnPort (circuit : FlatCircuit) (tree : InstanceTree) (k s : ℕ) : Type 0 where
  pub own : IsInnermost tree k s
  pub path : IsJustBelow (path_at tree.paths k) (path_at circuit.paths s)

-- A field of the memory at place j is an own signal of the memory's instance, and its path is below the memory's.
pub record IsOwnField (circuit : FlatCircuit) (tree : InstanceTree) (j s : ℕ) : Type 0 where
  pub own : IsInnermost tree (memory_at tree j).instance s
  pub path : IsWithin (path_at tree.memory_paths j) (path_at circuit.paths s)

-- ---- stops

-- the signals of the stops, in the order of the tree
abbrev pub stop_signals : InstanceTree → List ℕ
stop_signals tree = map (λ stop. stop.signal) tree.stops

-- The stop at place j has an own signal of its instance, which is no port and no field of a memory.
pub record IsStop (circuit : FlatCircuit) (tree : InstanceTree) (j : ℕ) : Type 0 where
  pub own : IsInnermost tree (stop_at tree j).instance (stop_at tree j).signal
  pub no_port : (k : ℕ) → ¬ IsPort tree k (stop_at tree j).signal
  pub no_field : (i : ℕ) → i < length tree.memories → ¬ IsFieldOf circuit tree i (stop_at tree j).signal

-- A circuit keeps to the scopes of its tree. The circuit's in-signals are the top's inputs, in port order. Its out-signals are the top's
-- outputs, in port order, and then the stops, which are distinct. An instance's ports are its own signals, and are distinct; so are a
-- memory's fields. The path of an own signal is just below the instance's, unless it is such a field. No memory has an instance's path. The
-- signals that a driver names are visible where the driver is written, and so are the signals that the register of a signal names.
pub record IsScoped (circuit : FlatCircuit) (tree : InstanceTree) : Type 0 where
  pub ins : input_signals (instance_at tree 0).ports ≡ circuit.ins
  pub outs : output_signals (instance_at tree 0).ports ++ stop_signals tree ≡ circuit.outs
  pub ports : (k s : ℕ) → IsPort tree k s → IsOwnPort circuit tree k s
  pub ports_once : (k : ℕ) → k < length tree.instances → AllPairs (λ a b. a.signal ≢ b.signal) (instance_at tree k).ports
  pub fields : (j s : ℕ) → j < length tree.memories → IsFieldOf circuit tree j s → IsOwnField circuit tree j s
  pub fields_once : (j : ℕ) → j < length tree.memories → AllPairs (λ a b. a ≢ b) (memory_fields circuit (memory_at tree j).memory)
  pub named : (k s : ℕ) → IsInnermost tree k s → IsJustBelow (path_at tree.paths k) (path_at circuit.paths s) ⊎ IsMemoryField circuit tree k s
  pub apart : (k j : ℕ) → k < length tree.instances → j < length tree.memories → path_at tree.paths k ≢ path_at tree.memory_paths j
  pub drivers : (k s t : ℕ) → IsWritten tree k s → NamesSignal (driver_at circuit s) t → IsVisible tree k t
  pub registers : (k s r t : ℕ) (register : Register) → IsWritten tree k s → driver_at circuit s ≡ Held r → slice_get circuit.registers r ≡ Some register → RegisterNames register t → IsVisible tree k t
  pub stops : (j : ℕ) → j < length tree.stops → IsStop circuit tree j
  pub stops_once : AllPairs (λ a b. a ≢ b) (stop_signals tree)
