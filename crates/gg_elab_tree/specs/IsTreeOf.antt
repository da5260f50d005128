-- Which tree of instances a circuit has.
-- Source: FIRRTL Specification, "Instances": the top and, below it, the instances that each module holds; "Memories"; "Registers"; "Stop";
-- "Clock" types: what each of these follows.
use Rattle.std.specs.Prelude.{◌≡◌, ℕ, ◌+◌, ◌-◌, List, [], ◌∷◌, ◌++◌, Option, Some, None, Bool, true, false, length, map, flat_map, filter, is_some}
use Rattle.gg_ast.specs.declared.module.Direction.{Direction}
use Rattle.gg_ast.specs.declared.module.Direction.TheVariants.{Input, Output}
use Rattle.gg_ast.specs.declared.module.Port.{Port}
use Rattle.gg_ast.specs.Places.{place_of}
use Rattle.gg_ast.specs.Tree.{ModuleTree, CircuitTree, module_names}
use Rattle.gg_flat_tree.specs.declared.tree.Instance.{Instance}
use Rattle.gg_flat_tree.specs.declared.tree.InstancePort.{InstancePort}
use Rattle.gg_flat_tree.specs.declared.tree.MemoryInstance.{MemoryInstance}
use Rattle.gg_flat_tree.specs.declared.tree.StopInstance.{StopInstance}
use Rattle.gg_flat_tree.specs.Tree.{InstanceTree, joined}
use Rattle.gg_types.specs.Clocks.{clock_inputs}
use Rattle.gg_elab_sites.specs.Sites.{Site, Outer, module_at, sites, sites_of}
use Rattle.gg_elab_sites.specs.Clocks.{clock_of, own_clocks}
use Rattle.gg_elab_sites.specs.Flat.{Drive, Outside, Gets, Holds, Answers, FlatSignal, FlatMemory, signals_at, flat_signals, memories_at, flat_memories}
use Rattle.gg_elab_sites.specs.IsFlat.{memory_paths, top_ports}
use Rattle.gg_elab_sites.specs.Known.{types_of}
use Rattle.gg_types.specs.Memories.{type_shape}
use Rattle.gg_elab_sites.specs.Signals.{OwnStop, own_stops}

-- ---- places by paths

-- The first occurrence of a path in a list of paths is at this place.
pub record IsAt (paths : List (List ℕ)) (path : List ℕ) (place : ℕ) : Type 0 where
  pub is : place_of path paths ≡ Some place

-- both lists have the same length, and the relation holds of the elements at each place
abbrev pub Pairwise : {A B : Type 0} → (A → B → Type 0) → List A → List B → Type 0
Pairwise R [] [] = Unit {0}
Pairwise R [] (y ∷ ys) = ⊥
Pairwise R (x ∷ xs) [] = ⊥
Pairwise R (x ∷ xs) (y ∷ ys) = R x y × Pairwise R xs ys

-- the paths of all sites of the circuit, in order
abbrev pub site_paths : CircuitTree → List (List ℕ)
site_paths circuit = map (λ s. s.path) (sites_of circuit)

-- the paths of all signals of the circuit, in order
abbrev pub signal_paths : CircuitTree → List (List ℕ)
signal_paths circuit = map (λ s. s.path) (flat_signals (types_of circuit) circuit.modules (sites_of circuit))

-- all memories of the circuit, in the order of the sites
abbrev pub memories_of : CircuitTree → List FlatMemory
memories_of circuit = flat_memories circuit.modules (sites_of circuit)

-- ---- instances

-- the parent is the instance with the path of what holds this one; the top has no parent
abbrev pub IsParent : CircuitTree → Option Outer → Option ℕ → Type 0
IsParent circuit None None = Unit {0}
IsParent circuit None (Some parent) = ⊥
IsParent circuit (Some outer) None = ⊥
IsParent circuit (Some outer) (Some parent) = IsAt (site_paths circuit) outer.path parent

-- the ports of a site's module in port order, without Clocks
abbrev pub signal_ports : ModuleTree → List Port
signal_ports m = filter (λ port. is_some (type_shape port.ty)) m.ports

-- whether a direction is an input's
abbrev pub is_input : Direction → Bool
is_input Input = true
is_input Output = false

-- a port of an instance: its signal has the port's path
pub record IsPortFor (circuit : CircuitTree) (site : Site) (port : Port) (found : InstancePort) : Type 0 where
  pub signal : IsAt (signal_paths circuit) (joined site.path port.name) found.signal
  pub goes : found.is_input ≡ is_input port.direction

-- The number m of a memory is the place of its path among the memories' paths.
pub record IsMemoryAt (circuit : CircuitTree) (said : FlatMemory) (m : ℕ) : Type 0 where
  pub number : IsAt (memory_paths (memories_of circuit)) said.path m

-- how many signals these sites have together
abbrev pub signal_count : CircuitTree → List Site → ℕ
signal_count circuit all = length (flat_signals (types_of circuit) circuit.modules all)

-- a site and all sites below it
abbrev pub sites_within : CircuitTree → Site → List Site
sites_within circuit site = sites (length circuit.modules - site.depth) circuit.modules site

-- An instance: its parent, its module, its ports in port order, its own memories, what its Clock inputs follow, and its signals with those
-- below it. These signals are the next ones, starting at `first`.
pub record IsInstanceFor (circuit : CircuitTree) (first : ℕ) (site : Site) (instance : Instance) : Type 0 where
  pub parent : IsParent circuit site.outer instance.parent
  pub number : instance.«module» ≡ site.number
  pub begins : instance.first ≡ first
  pub ends : instance.end ≡ first + signal_count circuit (sites_within circuit site)
  pub ports : Pairwise (IsPortFor circuit site) (signal_ports (module_at circuit.modules site.number)) instance.ports
  pub memories : Pairwise (IsMemoryAt circuit) (memories_at circuit.modules site) instance.memories
  pub clocks : instance.clocks ≡ own_clocks circuit.modules site

-- These instances are the sites in turn. The signals of the first begin at `first`.
abbrev pub AreInstances : CircuitTree → ℕ → List Site → List Instance → Type 0
AreInstances circuit first [] [] = Unit {0}
AreInstances circuit first [] (instance ∷ instances) = ⊥
AreInstances circuit first (site ∷ rest) [] = ⊥
AreInstances circuit first (site ∷ rest) (instance ∷ instances) =
    IsInstanceFor circuit first site instance
    × AreInstances circuit (first + length (signals_at (types_of circuit) circuit.modules site)) rest instances

-- ---- memories

-- The memory that a site holds, in the tree: its instance, its number, the names of its ports, the readers first, and the
-- Clock inputs of the site that these follow.
pub record IsMemoryFor (circuit : CircuitTree) (site : Site) (said : FlatMemory) (memory : MemoryInstance) : Type 0 where
  pub holder : IsAt (site_paths circuit) site.path memory.instance
  pub number : IsAt (memory_paths (memories_of circuit)) said.path memory.memory
  pub ports : memory.ports ≡ said.bank.readers ++ said.bank.writers
  pub clocks : memory.clocks ≡ map said.own_clock (said.bank.readers ++ said.bank.writers)

-- a memory with the site that holds it
pub record HeldMemory : Type 0 where
  pub site : Site
  pub said : FlatMemory

-- this memory with its site
abbrev pub held_memory : Site → FlatMemory → HeldMemory
held_memory site said = record { site = site; said = said }

-- the memories of a site, in the order of the file
abbrev pub held_memories : List ModuleTree → Site → List HeldMemory
held_memories modules site = map (held_memory site) (memories_at modules site)

-- ---- registers

-- the Clock input of its site that a register with this drive follows; none for any other drive
abbrev pub clock_held : Drive → List (Option ℕ)
clock_held Outside = []
clock_held (Gets scope c) = []
clock_held (Holds scope reset next own clock) = own ∷ []
clock_held (Answers memory place latency addr en) = []

-- the Clock inputs that all registers among these signals follow
abbrev pub clocks_held : List FlatSignal → List (Option ℕ)
clocks_held all = flat_map (λ s. clock_held s.drive) all

-- ---- stops

-- The stop of a site, in the tree: its instance, its signal, and the Clock input of the site that it follows.
pub record IsStopFor (circuit : CircuitTree) (site : Site) (said : OwnStop) (stop : StopInstance) : Type 0 where
  pub holder : IsAt (site_paths circuit) site.path stop.instance
  pub signal : IsAt (signal_paths circuit) (joined site.path said.name) stop.signal
  pub clock : stop.clock ≡ clock_of (module_at circuit.modules site.number) said.asked.clock

-- a stop with the site that has it
pub record HeldStop : Type 0 where
  pub site : Site
  pub said : OwnStop

-- this stop with its site
abbrev pub held_stop : Site → OwnStop → HeldStop
held_stop site said = record { site = site; said = said }

-- the stops of a site, in the order of the file
abbrev pub held_stops : List ModuleTree → Site → List HeldStop
held_stops modules site = map (held_stop site) (own_stops (module_at modules site.number).statements)

-- ---- the tree

-- The tree of a circuit has exactly its instances, its memories and its stops, in turn. It has the names of the top's Clock
-- inputs, and what each register follows, in the order of the signals.
pub record IsTreeOf (circuit : CircuitTree) (tree : InstanceTree) : Type 0 where
  pub paths : tree.paths ≡ site_paths circuit
  pub instances : AreInstances circuit 0 (sites_of circuit) tree.instances
  pub memory_names : tree.memory_paths ≡ memory_paths (memories_of circuit)
  pub memories : Pairwise (λ h memory. IsMemoryFor circuit h.site h.said memory) (flat_map (held_memories circuit.modules) (sites_of circuit)) tree.memories
  pub clocks : tree.clocks ≡ clock_inputs (top_ports circuit.modules (place_of circuit.name (module_names circuit)))
  pub register_clocks : tree.register_clocks ≡ clocks_held (flat_signals (types_of circuit) circuit.modules (sites_of circuit))
  pub stops : Pairwise (λ h stop. IsStopFor circuit h.site h.said stop) (flat_map (held_stops circuit.modules) (sites_of circuit)) tree.stops
