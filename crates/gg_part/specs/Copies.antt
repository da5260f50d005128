-- Two instances of one module, signal by signal. What they hold is the same, except for the front of its paths.
-- Source: FIRRTL Specification, "Instances": each instance has all that its module declares; "Clock" types: a Clock input is connected
-- where the instance is declared.
use Rattle.std.specs.Prelude.{◌≡◌, ◌≢◌, ℕ, zero, suc, ◌<◌, Option, Some, None, length, map, slice_index_or, option_and_then, option_map, Contains}
use Rattle.gg_flat.specs.declared.memory.Memory.{Memory}
use Rattle.gg_flat.specs.declared.piece.Driver.TheVariants.{Held}
use Rattle.gg_flat.specs.declared.piece.Register.{Register}
use Rattle.gg_flat.specs.Circuit.{FlatCircuit, signal_shapes, driver_at}
use Rattle.gg_flat.specs.Line.{shape_at}
use Rattle.gg_flat_tree.specs.Scoped.{IsInputOf}
use Rattle.gg_flat_tree.specs.Tree.{InstanceTree, instance_at, memory_at, path_at, stop_at, Holds as IsHeldBy}
use Rattle.gg_part.specs.Moved.{IsMoved, moved_port, moved_stop, shifted, unclocked_memory, unclocked_register}
use Rattle.gg_flat.specs.Renaming.{numbers_by, renamed_driver, renamed_memory, renamed_register, signals_by}

-- the place of the instance this many levels above the instance at place k
abbrev pub above : InstanceTree → ℕ → ℕ → Option ℕ
above tree zero k = Some k
above tree (suc levels) k = option_and_then (above tree levels) (instance_at tree k).parent

-- The instance at place k is the instance at place i, or one below it.
pub record LiesIn (tree : InstanceTree) (i k : ℕ) : Type 0 where
  pub levels : ℕ
  pub is : above tree levels k ≡ Some i

-- how many signals, registers and memories come before an instance's own
pub record Start : Type 0 where
  pub signals : ℕ
  pub registers : ℕ
  pub memories : ℕ

-- The instance at place j has what the instance at place i has, with numbers at the same distances from its own start: as many signals,
-- memories and Clock inputs, the same paths after its own, the same types, the same drivers except of its inputs, the same registers and
-- memories except for their clocks, the same instances in each other, and the same stops. What follows a Clock input of an instance follows
-- the same one there. The clocks therefore differ only in what the two instances are given.
pub record IsCopy (circuit : FlatCircuit) (tree : InstanceTree) (i j : ℕ) (one other : Start) : Type 0 where
  pub size : (instance_at tree j).end ≡ shifted one.signals other.signals (instance_at tree i).end
  pub path : (s : ℕ) → IsHeldBy (instance_at tree i) s → IsMoved (path_at tree.paths i) (path_at tree.paths j) (path_at circuit.paths s) (path_at circuit.paths (shifted one.signals other.signals s))
  pub shape : (s : ℕ) → IsHeldBy (instance_at tree i) s → shape_at (signal_shapes circuit) (shifted one.signals other.signals s) ≡ shape_at (signal_shapes circuit) s
  pub driver : (s : ℕ) → IsHeldBy (instance_at tree i) s → ¬ IsInputOf tree i s
      → driver_at circuit (shifted one.signals other.signals s) ≡ renamed_driver (numbers_by (shifted one.signals other.signals) (shifted one.registers other.registers) (shifted one.memories other.memories)) (driver_at circuit s)
  pub register : (s r : ℕ) (any : Register) → IsHeldBy (instance_at tree i) s → ¬ IsInputOf tree i s → driver_at circuit s ≡ Held r
      → unclocked_register (slice_index_or circuit.registers (shifted one.registers other.registers r) any) ≡ unclocked_register (renamed_register (signals_by (shifted one.signals other.signals)) (slice_index_or circuit.registers r any))
  pub register_clock : (s r : ℕ) → IsHeldBy (instance_at tree i) s → ¬ IsInputOf tree i s → driver_at circuit s ≡ Held r
      → slice_index_or tree.register_clocks (shifted one.registers other.registers r) None ≡ slice_index_or tree.register_clocks r None
  pub ports : (instance_at tree j).ports ≡ map (λ port. moved_port (shifted one.signals other.signals) port) (instance_at tree i).ports
  pub instance : (k : ℕ) → k < length tree.instances → LiesIn tree i k
      → ((instance_at tree (shifted i j k)).«module» ≡ (instance_at tree k).«module») × ((instance_at tree (shifted i j k)).first ≡ shifted one.signals other.signals (instance_at tree k).first)
  pub parent : (k : ℕ) → k < length tree.instances → LiesIn tree i k → k ≢ i → (instance_at tree (shifted i j k)).parent ≡ option_map (shifted i j) (instance_at tree k).parent
  pub memory_path : (m : ℕ) → m < length tree.memories → LiesIn tree i (memory_at tree m).instance → IsMoved (path_at tree.paths i) (path_at tree.paths j) (path_at tree.memory_paths m) (path_at tree.memory_paths (shifted one.memories other.memories m))
  pub memory : (m : ℕ) (any : Memory) → m < length tree.memories → LiesIn tree i (memory_at tree m).instance
      → unclocked_memory (slice_index_or circuit.memories (shifted one.memories other.memories m) any) ≡ unclocked_memory (renamed_memory (signals_by (shifted one.signals other.signals)) (slice_index_or circuit.memories m any))
  pub memory_clocks : (m : ℕ) → m < length tree.memories → LiesIn tree i (memory_at tree m).instance → (memory_at tree (shifted one.memories other.memories m)).clocks ≡ (memory_at tree m).clocks
  pub own_clocks : length (instance_at tree j).clocks ≡ length (instance_at tree i).clocks
  pub clocks : (k : ℕ) → k < length tree.instances → LiesIn tree i k → k ≢ i → (instance_at tree (shifted i j k)).clocks ≡ (instance_at tree k).clocks
  pub stop : (p : ℕ) → p < length tree.stops → LiesIn tree i (stop_at tree p).instance → Contains tree.stops (moved_stop (shifted i j) (shifted one.signals other.signals) (stop_at tree p))

-- Any two instances of one module are copies of each other. The memories of the circuit are numbered by their places in the tree.
pub record HasCopies (circuit : FlatCircuit) (tree : InstanceTree) : Type 0 where
  pub number : (m : ℕ) → m < length tree.memories → (memory_at tree m).memory ≡ m
  pub start : ℕ → Start
  pub first : (k : ℕ) → k < length tree.instances → (instance_at tree k).first ≡ (start k).signals
  pub copy : (i j : ℕ) → i < length tree.instances → j < length tree.instances → (instance_at tree i).«module» ≡ (instance_at tree j).«module» → IsCopy circuit tree i j (start i) (start j)
