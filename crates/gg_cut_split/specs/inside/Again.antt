-- A unit has what another unit has, with other numbers.
-- Source: FIRRTL Specification, "Instances": each instance of a module has all that the module declares; ICCAD 2019 (duplicate
-- instances that share one host unit).
use Rattle.std.specs.Prelude.{◌≡◌, ◌↔◌, ◌⊎◌, ℕ, ◌<◌, ◌≤◌, ◌-◌, ◌==◌, List, [], Bool, Option, length, map, slice_index_or, AllPairs, Contains}
use Rattle.std.specs.List.{list_any}
use Rattle.gg_flat.specs.declared.memory.Memory.{Memory}
use Rattle.gg_flat.specs.declared.piece.Driver.TheVariants.{Held}
use Rattle.gg_flat.specs.declared.piece.Register.{Register}
use Rattle.gg_flat.specs.Circuit.{signal_shapes, driver_at}
use Rattle.gg_flat.specs.Line.{shape_at, value_at}
use Rattle.gg_flat_tree.specs.Tree.{InstanceTree, instance_at}
use Rattle.gg_part.specs.inside.Domains.{FollowsInside, ports_inside}
use Rattle.gg_part.specs.Moved.{shifted, unclocked_register, unclocked_memory}
use Rattle.gg_order.specs.Design.{Ordered}
use Rattle.gg_cut_plan.specs.declared.listed.Listed.{Listed}
use Rattle.gg_cut_plan.specs.declared.wires.Wire.{Wire}
use Rattle.gg_cut_plan.specs.Channels.{wires_of}
use Rattle.gg_cut_plan.specs.Machines.{first_unit, first_memory}
use Rattle.gg_cut_plan.specs.Plan.{channels_to, channels_from, givens_of, signals_of, Takes, HasMemory, machine_clocks}
use Rattle.gg_cut_plan.specs.inside.Plan.{Makes}
use Rattle.gg_flat.specs.Renaming.{numbers_by, renamed_driver, renamed_memory, renamed_register, signals_by}

-- the first signal of the instance that is machine m
abbrev pub unit_first : InstanceTree → Listed → ℕ → ℕ
unit_first tree listed m = (instance_at tree (value_at listed.units (m - first_unit))).first

-- the channels of a cut without bridges, before any routing
abbrev pub cut_wires : Ordered → Listed → List Wire
cut_wires design listed = wires_of design.circuit design.tree listed []

-- machine m has signal s: it makes it or takes it
abbrev pub HasSignal : Ordered → Listed → ℕ → ℕ → Type 0
HasSignal design listed m s = Makes design.circuit design.tree listed (cut_wires design listed) m s ⊎ Takes (cut_wires design listed) m s

-- the number in unit n of what has number s in unit m
abbrev pub again_at : Ordered → Listed → ℕ → ℕ → ℕ → ℕ
again_at design listed m n s = shifted (unit_first design.tree listed m) (unit_first design.tree listed n) s

-- exactly the units are homes
abbrev pub AreHomes : Listed → (ℕ → Bool) → Type 0
AreHomes listed is_home = (k : ℕ) → is_home k ≡ list_any (λ unit. k == unit) listed.units

-- Unit n has what unit m has, with numbers equally far after the first of its own signals: the same signals, taken by channels in the same order,
-- with the same types and, except for the signals that it takes, the same drivers; the same registers and memories, except for the clocks that they
-- follow in the circuit. Inside of the two units these follow the same Clock inputs, and both units have equally many. Ascending lists of the
-- memories of the two units have them in the same order.
pub record IsUnitAgain (design : Ordered) (listed : Listed) (m n : ℕ) : Type 0 where
  pub registers : ℕ → ℕ
  pub memories : ℕ → ℕ
  pub units : (first_unit ≤ m) × (m < first_memory listed) × (first_unit ≤ n) × (n < first_memory listed)
  pub behind : (s : ℕ) → HasSignal design listed m s → unit_first design.tree listed m ≤ s
  pub has : (s : ℕ) → HasSignal design listed m s → HasSignal design listed n (again_at design listed m n s)
  pub back : (t : ℕ) → HasSignal design listed n t → (s : ℕ) × HasSignal design listed m s × (again_at design listed m n s ≡ t)
  pub ins : signals_of (cut_wires design listed) (channels_to (cut_wires design listed) n) ≡ map (again_at design listed m n) (signals_of (cut_wires design listed) (channels_to (cut_wires design listed) m))
  pub outs : (s : ℕ) → HasSignal design listed m s
      → Contains (givens_of (cut_wires design listed) (channels_from (cut_wires design listed) m)) s ↔ Contains (givens_of (cut_wires design listed) (channels_from (cut_wires design listed) n)) (again_at design listed m n s)
  pub shape : (s : ℕ) → HasSignal design listed m s → shape_at (signal_shapes design.circuit) (again_at design listed m n s) ≡ shape_at (signal_shapes design.circuit) s
  pub driver : (s : ℕ) → Makes design.circuit design.tree listed (cut_wires design listed) m s
      → driver_at design.circuit (again_at design listed m n s) ≡ renamed_driver (numbers_by (again_at design listed m n) registers memories) (driver_at design.circuit s)
  pub register : (s r : ℕ) (any : Register) → Makes design.circuit design.tree listed (cut_wires design listed) m s → driver_at design.circuit s ≡ Held r
      → (registers r < length design.circuit.registers)
      × (unclocked_register (slice_index_or design.circuit.registers (registers r) any) ≡ unclocked_register (renamed_register (signals_by (again_at design listed m n)) (slice_index_or design.circuit.registers r any)))
  pub banks : (own other : List ℕ) → AllPairs (λ a b. a < b) own → AllPairs (λ a b. a < b) other
      → ((k : ℕ) → Contains own k ↔ HasMemory design.tree listed m k) → ((k : ℕ) → Contains other k ↔ HasMemory design.tree listed n k) → other ≡ map memories own
  pub memory : (k : ℕ) (any : Memory) → HasMemory design.tree listed m k
      → (memories k < length design.circuit.memories)
      × (unclocked_memory (slice_index_or design.circuit.memories (memories k) any) ≡ unclocked_memory (renamed_memory (signals_by (again_at design listed m n)) (slice_index_or design.circuit.memories k any)))
  pub register_clock : (is_home : ℕ → Bool) (s r : ℕ) (clock : Option ℕ) → AreHomes listed is_home → Makes design.circuit design.tree listed (cut_wires design listed) m s → driver_at design.circuit s ≡ Held r
      → FollowsInside is_home design.tree s r clock → FollowsInside is_home design.tree (again_at design listed m n s) (registers r) clock
  pub memory_clocks : (is_home : ℕ → Bool) (k : ℕ) → AreHomes listed is_home → HasMemory design.tree listed m k → ports_inside is_home design.tree (memories k) ≡ ports_inside is_home design.tree k
  pub own_clocks : length (machine_clocks design.tree listed n) ≡ length (machine_clocks design.tree listed m)
