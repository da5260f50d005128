-- What a request lists, by places in the tree of instances: its units and its memories. Also which instances contain which.
-- Source: ICCAD 2019 (instances and memories of a target that are marked become models of their own); FIRRTL
-- Specification, "Instances" and "Memories" for what an instance holds.
use Rattle.std.specs.Prelude.{ℕ, zero, suc, ◌+◌, List, [], ◌∷◌, Bool, true, false, ◌||◌, ◌&&◌, ◌==◌, if◌then◌else◌, Option, Some, None, length, map, filter, option_map, unwrap_or, is_some, bytes_eq, nat_lt, nat_le}
use Rattle.std.specs.List.{list_any, range_with_len}
use Rattle.gg_flat.specs.Circuit.{FlatCircuit}
use Rattle.gg_flat_tree.specs.Tree.{InstanceTree, path_at, instance_at, memory_at}
use Rattle.gg_flat_tree.specs.Scoped.{memory_fields}
use Rattle.gg_cut_plan.specs.declared.listed.Listed.{Listed}
use Rattle.gg_cut_plan.specs.Machines.{unit_number, memory_after}
use Rattle.gg_partfile.specs.declared.request.Request.{Request}

-- ---- paths

-- whether a path is among these
abbrev pub is_among : List (List ℕ) → List ℕ → Bool
is_among paths path = list_any (bytes_eq path) paths

-- the place of the first item that passes a test
abbrev pub first_place : {A : Type 0} → (A → Bool) → List A → Option ℕ
first_place test [] = None
first_place test (x ∷ xs) = if test x then Some 0 else option_map suc (first_place test xs)

-- the place of a path among paths
abbrev pub place_of : List (List ℕ) → List ℕ → Option ℕ
place_of paths path = first_place (bytes_eq path) paths

-- The top, at place 0, is a module and not an instance. Its path isn't an instance path.
abbrev pub is_lower : Option ℕ → Bool
is_lower None = false
is_lower (Some zero) = false
is_lower (Some (suc k)) = true

-- whether a path is an instance's, below the top
abbrev pub is_instance_path : InstanceTree → List ℕ → Bool
is_instance_path tree path = is_lower (place_of tree.paths path)

-- whether a path is a memory's
abbrev pub is_memory_path : InstanceTree → List ℕ → Bool
is_memory_path tree path = is_some (place_of tree.memory_paths path)

-- the place of the instance with a path; the top's, 0, if there is none
abbrev pub instance_of : InstanceTree → List ℕ → ℕ
instance_of tree path = unwrap_or (place_of tree.paths path) 0

-- ---- which instances contain which

-- whether a test holds of the parent, if there is one
abbrev pub of_parent : (ℕ → Bool) → Option ℕ → Bool
of_parent test None = false
of_parent test (Some parent) = test parent

-- whether instance k is instance i, or i is among this many instances above it
abbrev pub lies_within : InstanceTree → ℕ → ℕ → ℕ → Bool
lies_within tree zero k i = k == i
lies_within tree (suc more) k i = (k == i) || of_parent (λ parent. lies_within tree more parent i) (instance_at tree k).parent

-- Instance k is instance i, or one below it. The number of instances above an instance is at most its place.
abbrev pub lies : InstanceTree → ℕ → ℕ → Bool
lies tree k i = lies_within tree k k i

-- ---- what is listed

-- the instances that are units, in the order of the request, and the places in the tree of the listed memories, in the order of
-- the tree
abbrev pub listed_of : InstanceTree → Request → Listed
listed_of tree request =
    record {
      units = map (instance_of tree) request.units;
      memories = filter (λ j. is_among request.memories (path_at tree.memory_paths j)) (range_with_len 0 (length tree.memories));
    }

-- ---- the owners

-- the machine of a unit by its place among the units; the hub is machine 0
abbrev pub unit_or_hub : Option ℕ → ℕ
unit_or_hub None = 0
unit_or_hub (Some u) = unit_number u

-- the machine that an instance belongs to: the unit that it is in, otherwise the hub
abbrev pub owner_of_instance : InstanceTree → List ℕ → ℕ → ℕ
owner_of_instance tree units k = unit_or_hub (first_place (λ unit. lies tree k unit) units)

-- whether a signal belongs to an instance, or to one below it
abbrev pub has_signal : InstanceTree → ℕ → ℕ → Bool
has_signal tree s k = nat_le (instance_at tree k).first s && nat_lt s (instance_at tree k).end

-- whether a signal is a field of the memory at place j of the tree
abbrev pub has_field : FlatCircuit → InstanceTree → ℕ → ℕ → Bool
has_field circuit tree s j = list_any (λ t. t == s) (memory_fields circuit (memory_at tree j).memory)

-- the machine of the listed memory at a place, if there is one; otherwise another machine
abbrev pub memory_or : ℕ → ℕ → Option ℕ → ℕ
memory_or units other None = other
memory_or units other (Some j) = memory_after units + j

-- The owner of a signal: the listed memory that has it as a field, otherwise the unit that has it, otherwise the hub.
abbrev pub owner_of : FlatCircuit → InstanceTree → Listed → ℕ → ℕ
owner_of circuit tree listed s =
    memory_or (length listed.units) (unit_or_hub (first_place (has_signal tree s) listed.units)) (first_place (has_field circuit tree s) listed.memories)

-- the owner of the memory at a place of the tree: its own machine if it is listed, otherwise its instance's
abbrev pub memory_owner : InstanceTree → Listed → ℕ → ℕ
memory_owner tree listed place =
    memory_or (length listed.units) (owner_of_instance tree listed.units (memory_at tree place).instance) (first_place (λ j. j == place) listed.memories)
