-- The parts of a tree while it is built. Each is found by its path among the paths of all sites, signals and
-- memories, and has what it follows.
use Rattle.std.specs.Prelude.{◌≡◌, ℕ, Bool, List, [], ◌∷◌, ◌++◌, Option, Some, None, map, filter, flat_map, length, take, is_some}
use Rattle.gg_ast.specs.declared.module.Port.{Port}
use Rattle.gg_ast.specs.Tree.{ModuleTree, CircuitTree}
use Rattle.gg_flat_tree.specs.declared.tree.Instance.{Instance}
use Rattle.gg_flat_tree.specs.declared.tree.MemoryInstance.{MemoryInstance}
use Rattle.gg_flat_tree.specs.declared.tree.InstancePort.{InstancePort}
use Rattle.gg_flat_tree.specs.declared.tree.StopInstance.{StopInstance}
use Rattle.gg_flat_tree.specs.Tree.{InstanceTree, joined}
use Rattle.gg_elab_sites.specs.declared.digest.Digest.{Digest}
use Rattle.gg_elab_sites.specs.declared.digest.OwnMemory.{OwnMemory}
use Rattle.gg_elab_sites.specs.declared.sites.Around.{Around}
use Rattle.gg_elab_sites.specs.declared.sites.Place.{Place}
use Rattle.gg_elab_sites.specs.declared.stops.OwnStop as kept_stop
use Rattle.gg_elab_sites.specs.Clocks.{clock_of, port_clock}
use Rattle.gg_elab_sites.specs.Flat.{signals_at, flat_memory}
use Rattle.gg_elab_sites.specs.Signals.{Cause, FromOutside, Connected, Expressed, Kept, Answered}
use Rattle.gg_elab_tree.specs.IsTreeOf.{IsAt, Pairwise, is_input, IsMemoryFor, HeldMemory, held_memory, IsStopFor, HeldStop, held_stop}
use Rattle.gg_elab_sites.specs.Known.{types_of}
use Rattle.gg_types.specs.Memories.{type_shape}
use Rattle.gg_elab_sites.specs.inside.Views.{site_of, own_bank_of, own_stop_of}

-- whether a port is a signal: a Clock isn't one, nor is what has a width that is 0 or above 128
abbrev pub is_signal : Port → Bool
is_signal port = is_some (type_shape port.ty)

-- the ports among these that are signals, in order
abbrev pub signals_among : List Port → List Port
signals_among ports = filter is_signal ports

-- a port of the instance with a path
pub record IsPortAt (paths : List (List ℕ)) (outer : List ℕ) (port : Port) (found : InstancePort) : Type 0 where
  pub signal : IsAt paths (joined outer port.name) found.signal
  pub goes : found.is_input ≡ is_input port.direction

-- the number of a memory of the instance with a path
abbrev pub IsNumberAt : List (List ℕ) → List ℕ → OwnMemory → ℕ → Type 0
IsNumberAt paths outer own number = IsAt paths (joined outer own.name.now) number

-- the number of the instance that holds an instance; none for the top
abbrev pub IsHolder : List (List ℕ) → Option Around → Option ℕ → Type 0
IsHolder paths None None = Unit {0}
IsHolder paths None (Some parent) = ⊥
IsHolder paths (Some around) None = ⊥
IsHolder paths (Some around) (Some parent) = IsAt paths around.path parent

-- the paths of these sites, in order
abbrev pub place_paths : List Place → List (List ℕ)
place_paths places = map (λ p. p.path) places

-- how many signals the first sites have
abbrev pub signals_to : CircuitTree → List Place → ℕ → ℕ
signals_to circuit places k = length (flat_map (signals_at (types_of circuit) circuit.modules) (map site_of (take k places)))

-- The instance that is made for a site, by its parts.
pub record IsInstanceAt (paths signals memories : List (List ℕ)) (digest : Digest) (ports : List Port) (place : Place) (first end : ℕ) (made : Instance) : Type 0 where
  pub holder : IsHolder paths place.outer made.parent
  pub number : made.«module» ≡ place.number
  pub begins : made.first ≡ first
  pub ends : made.end ≡ end
  pub ports_are : Pairwise (IsPortAt signals place.path) (signals_among ports) made.ports
  pub memories_are : Pairwise (IsNumberAt memories place.path) digest.memories.items made.memories
  pub clocks_are : made.clocks ≡ place.own_clocks.items

-- The memory that is made for a memory of a module, by its parts.
pub record IsMemoryPart (paths memories : List (List ℕ)) (m : ModuleTree) (outer : List ℕ) (own : OwnMemory) (made : MemoryInstance) : Type 0 where
  pub holder : IsAt paths outer made.instance
  pub number : IsAt memories (joined outer own.name.now) made.memory
  pub ports_are : made.ports ≡ map (λ n. n.now) own.bank.readers.items ++ map (λ n. n.now) own.bank.writers.items
  pub clocks_are : made.clocks ≡ map (λ n. port_clock m own.name.now n.now) own.bank.readers.items ++ map (λ n. port_clock m own.name.now n.now) own.bank.writers.items

-- a memory with the site that holds it
abbrev pub held_at_place : List ModuleTree → Place → OwnMemory → HeldMemory
held_at_place modules place own = held_memory (site_of place) (flat_memory modules (site_of place) (own_bank_of own))

-- the memory is the tree's entry for this memory of this site
abbrev pub IsHeldFor : CircuitTree → HeldMemory → MemoryInstance → Type 0
IsHeldFor circuit h memory = IsMemoryFor circuit h.site h.said memory

-- the Clock input of a module that a register with this cause follows; none for any other cause
abbrev pub clock_kept : ModuleTree → Cause → List (Option ℕ)
clock_kept m FromOutside = []
clock_kept m Connected = []
clock_kept m (Expressed value) = []
clock_kept m (Kept clock reset) = clock_of m clock ∷ []
clock_kept m (Answered memory port place latency) = []

-- The stop that is made for a stop of a module, by its parts.
pub record IsStopPart (paths signals : List (List ℕ)) (m : ModuleTree) (outer : List ℕ) (own : kept_stop.OwnStop) (made : StopInstance) : Type 0 where
  pub holder : IsAt paths outer made.instance
  pub signal : IsAt signals (joined outer own.name) made.signal
  pub clock_is : made.clock ≡ clock_of m own.clock.now

-- a stop as it is kept, with its site
abbrev pub stop_at_place : Place → kept_stop.OwnStop → HeldStop
stop_at_place place own = held_stop (site_of place) (own_stop_of own)

-- the stop is the tree's entry for this stop of this site
abbrev pub IsAskedFor : CircuitTree → HeldStop → StopInstance → Type 0
IsAskedFor circuit h stop = IsStopFor circuit h.site h.said stop

-- ---- a tree with other parts

-- a tree with these instances, and their paths
abbrev pub with_instances : InstanceTree → List (List ℕ) → List Instance → InstanceTree
with_instances tree paths instances = record tree { paths = paths; instances = instances }

-- a tree with these memories, and their paths
abbrev pub with_memories : InstanceTree → List (List ℕ) → List MemoryInstance → InstanceTree
with_memories tree paths memories = record tree { memory_paths = paths; memories = memories }

-- a tree with these stops
abbrev pub with_stops : InstanceTree → List StopInstance → InstanceTree
with_stops tree stops = record tree { stops = stops }

-- a tree with what the registers follow, in the order of the signals
abbrev pub with_register_clocks : InstanceTree → List (Option ℕ) → InstanceTree
with_register_clocks tree clocks = record tree { register_clocks = clocks }

-- a tree with these names of the top's Clock inputs
abbrev pub with_clocks : InstanceTree → List (List ℕ) → InstanceTree
with_clocks tree clocks = record tree { clocks = clocks }
