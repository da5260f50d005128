-- The instances of a flat circuit.
-- Source: FIRRTL Specification, "Instances": the top and, below it, the instances of each module.
use Rattle.std.specs.Prelude.{◌≡◌, ◌≢◌, ◌⊎◌, ℕ, ◌<◌, ◌≤◌, ◌+◌, List, [], ◌∷◌, ◌++◌, Option, Some, None, length, map, slice_index_or, Contains, All, AllPairs}
use Rattle.gg_flat_tree.specs.declared.tree.Instance.{Instance}
use Rattle.gg_flat_tree.specs.declared.tree.MemoryInstance.{MemoryInstance}
use Rattle.gg_flat_tree.specs.declared.tree.StopInstance.{StopInstance}
use Rattle.gg_flat.specs.Circuit.{FlatCircuit}

-- The instances in the order of the tree: the top first, and each followed by all that are below it. `paths` has their
-- paths, as bytes; the top's is empty. `memories` are the circuit's memories in that order, `memory_paths` their paths.
-- `clocks` has the names of the top's Clock inputs, in port order, `register_clocks` the Clock input of its own instance
-- that each of the circuit's registers follows, and `stops` the stops, in the order of the tree.
pub record InstanceTree : Type 0 where
  pub paths : List (List ℕ)
  pub instances : List Instance
  pub memory_paths : List (List ℕ)
  pub memories : List MemoryInstance
  pub clocks : List (List ℕ)
  pub register_clocks : List (Option ℕ)
  pub stops : List StopInstance

-- ---- paths

-- the path at a place; empty past the end
abbrev pub path_at : List (List ℕ) → ℕ → List ℕ
path_at paths k = slice_index_or paths k []

-- a path followed by a name; a dot is between them if the path isn't empty
abbrev pub joined : List ℕ → List ℕ → List ℕ
joined [] name = name
joined (byte ∷ outer) name = (byte ∷ outer) ++ 46 ∷ name

-- A path that begins with another: that one, followed by a rest.
pub record IsWithin (outer path : List ℕ) : Type 0 where
  pub rest : List ℕ
  pub is : path ≡ joined outer rest

-- A path that is just below another: that one, followed by a name without a dot.
pub record IsJustBelow (outer path : List ℕ) : Type 0 where
  pub name : List ℕ
  pub plain : ¬ Contains name 46
  pub is : path ≡ joined outer name

-- ---- instances and memories by their places

-- the instance at a place; past the end one without ports, memories and signals
abbrev pub instance_at : InstanceTree → ℕ → Instance
instance_at tree k = slice_index_or tree.instances k (record { parent = None; «module» = 0; first = 0; end = 0; ports = []; memories = []; clocks = [] })

-- the memory at a place of the tree; past the end one without ports
abbrev pub memory_at : InstanceTree → ℕ → MemoryInstance
memory_at tree k = slice_index_or tree.memories k (record { instance = 0; memory = 0; ports = []; clocks = [] })

-- the stop at a place; past the end one without a clock, of signal 0
abbrev pub stop_at : InstanceTree → ℕ → StopInstance
stop_at tree k = slice_index_or tree.stops k (record { instance = 0; signal = 0; clock = None })

-- the place of the parent; for the top 0
abbrev pub parent_place : Option ℕ → ℕ
parent_place None = 0
parent_place (Some parent) = parent

-- a signal is one of an instance, or of one below it
abbrev pub Holds : Instance → ℕ → Type 0
Holds instance s = (instance.first ≤ s) × (s < instance.end)

-- the innermost instance that holds signal s is at place k: no instance with this parent holds the signal
pub record IsInnermost (tree : InstanceTree) (k s : ℕ) : Type 0 where
  pub known : k < length tree.instances
  pub holds : Holds (instance_at tree k) s
  pub deeper : (i : ℕ) → i < length tree.instances → (instance_at tree i).parent ≡ Some k → ¬ Holds (instance_at tree i) s

-- how many ports the memory at a place of the circuit has; 0 past the end
abbrev pub port_count : FlatCircuit → ℕ → ℕ
port_count circuit m = slice_index_or (map (λ memory. length memory.readers + length memory.writers) circuit.memories) m 0

-- ---- the tree of a circuit

-- The instance at place 0 is the top: it has no parent and the empty path, and holds all signals.
pub record IsTop (circuit : FlatCircuit) (tree : InstanceTree) : Type 0 where
  pub there : 0 < length tree.instances
  pub parent : (instance_at tree 0).parent ≡ None
  pub path : path_at tree.paths 0 ≡ []
  pub first : (instance_at tree 0).first ≡ 0
  pub all : (instance_at tree 0).end ≡ length circuit.signals

-- The instance at place k is below another, its parent. The parent is before it, and each instance between them is
-- below the parent too. The path is just below the parent's, and the signals are among the parent's.
pub record IsBelow (tree : InstanceTree) (k : ℕ) : Type 0 where
  pub above : ℕ
  pub parent : (instance_at tree k).parent ≡ Some above
  pub before : above < k
  pub between : (i : ℕ) → above < i → i < k → above ≤ parent_place (instance_at tree i).parent
  pub path : IsJustBelow (path_at tree.paths above) (path_at tree.paths k)
  pub first : (instance_at tree above).first ≤ (instance_at tree k).first
  pub last : (instance_at tree k).end ≤ (instance_at tree above).end

-- An instance's signals are the circuit's, its ports are among its signals, and its memories are the circuit's.
pub record IsInstance (circuit : FlatCircuit) (instance : Instance) : Type 0 where
  pub range : instance.first ≤ instance.end
  pub inside : instance.end ≤ length circuit.signals
  pub ports : All (λ port. Holds instance port.signal) instance.ports
  pub memories : All (λ m. m < length circuit.memories) instance.memories

-- The memory at place k of the tree is one of its instance's own. Its path is just below the instance's, and it has a
-- name for each of its ports.
pub record IsHeld (circuit : FlatCircuit) (tree : InstanceTree) (k : ℕ) : Type 0 where
  pub instance : (memory_at tree k).instance < length tree.instances
  pub own : Contains (instance_at tree (memory_at tree k).instance).memories (memory_at tree k).memory
  pub path : IsJustBelow (path_at tree.paths (memory_at tree k).instance) (path_at tree.memory_paths k)
  pub ports : length (memory_at tree k).ports ≡ port_count circuit (memory_at tree k).memory

-- The tree of a circuit: the top, and each other instance below an earlier one. No two instances have the same path.
-- Two with the same parent have no signal in common. A signal's path begins with the path of the innermost instance
-- that holds it. Each memory of the circuit is listed once, in the order of the tree.
pub record IsTree (circuit : FlatCircuit) (tree : InstanceTree) : Type 0 where
  pub top : IsTop circuit tree
  pub below : (k : ℕ) → 0 < k → k < length tree.instances → IsBelow tree k
  pub named : length tree.paths ≡ length tree.instances
  pub distinct : AllPairs (λ a b. a ≢ b) tree.paths
  -- the signals of one end before the signals of the other begin
  pub apart : (i j above : ℕ) → i < j → j < length tree.instances → (instance_at tree i).parent ≡ Some above → (instance_at tree j).parent ≡ Some above → ((instance_at tree i).end ≤ (instance_at tree j).first) ⊎ ((instance_at tree j).end ≤ (instance_at tree i).first)
  pub each : (k : ℕ) → k < length tree.instances → IsInstance circuit (instance_at tree k)
  pub signals : (k s : ℕ) → IsInnermost tree k s → IsWithin (path_at tree.paths k) (path_at circuit.paths s)
  pub count : length tree.memories ≡ length circuit.memories
  pub memory_named : length tree.memory_paths ≡ length tree.memories
  pub memory_distinct : AllPairs (λ a b. a ≢ b) tree.memory_paths
  pub held : (k : ℕ) → k < length tree.memories → IsHeld circuit tree k
  pub once : AllPairs (λ a b. a.memory ≢ b.memory) tree.memories
  -- an instance's memories are before the memories of later instances
  pub ordered : AllPairs (λ a b. a.instance ≤ b.instance) tree.memories
