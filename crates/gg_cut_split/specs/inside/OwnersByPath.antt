-- The machines of a cut by the paths that a request lists.
-- Source: ICCAD 2019 (an instance or a memory that is marked becomes a model of its own, with all that is below it;
-- what is left is the hub's).
use Rattle.std.specs.Prelude.{◌≡◌, ◌↔◌, ℕ, ◌+◌, ◌<◌, None, length}
use Rattle.gg_flat_tree.specs.Tree.{path_at}
use Rattle.gg_part.specs.KeepsToTree.{KeepsToTree}
use Rattle.gg_order.specs.Design.{Ordered, IsDesign}
use Rattle.gg_partfile.specs.declared.request.Request.{Request}
use Rattle.gg_cut_plan.specs.Listed.{listed_of, owner_of, owner_of_instance, memory_owner}
use Rattle.gg_cut_plan.specs.Fault.{first_fault}
use Rattle.gg_cut_plan.specs.Plan.{machine_names}
use Rattle.gg_cut_split.specs.inside.Longest.{listed_paths, IsLongestHolder, IsLongestCover}

-- A signal belongs to the machine of the longest listed path that holds its own, and to no other.
abbrev pub SignalsBelongByPath : Type 0
SignalsBelongByPath =
    (design : Ordered) (request : Request) (s m : ℕ)
    -- The design keeps to its tree, and the request has no fault.
    → IsDesign design → KeepsToTree design.circuit design.tree → first_fault design request ≡ None
    -- The signal is one of the circuit.
    → s < length design.circuit.signals
    -- The machine of the longest path is the owner of the signal, and the owner is the machine of the longest path.
    → IsLongestHolder design request s m ↔ (owner_of design.circuit design.tree (listed_of design.tree request) s ≡ m)

-- An instance belongs to the machine of the longest listed path that is its own or holds it, and to no other.
abbrev pub InstancesBelongByPath : Type 0
InstancesBelongByPath =
    (design : Ordered) (request : Request) (k m : ℕ)
    -- The design keeps to its tree, and the request has no fault.
    → IsDesign design → KeepsToTree design.circuit design.tree → first_fault design request ≡ None
    -- The instance is one of the tree.
    → k < length design.tree.instances
    -- The machine of the longest path is the owner of the instance, and the owner is the machine of the longest path.
    → IsLongestCover design request (path_at design.tree.paths k) m ↔ (owner_of_instance design.tree (listed_of design.tree request).units k ≡ m)

-- A memory belongs to the machine of the longest listed path that is its own or holds it, and to no other.
abbrev pub MemoriesBelongByPath : Type 0
MemoriesBelongByPath =
    (design : Ordered) (request : Request) (j m : ℕ)
    -- The design keeps to its tree, and the request has no fault.
    → IsDesign design → KeepsToTree design.circuit design.tree → first_fault design request ≡ None
    -- The memory is one of the tree.
    → j < length design.tree.memories
    -- The machine of the longest path is the owner of the memory, and the owner is the machine of the longest path.
    → IsLongestCover design request (path_at design.tree.memory_paths j) m ↔ (memory_owner design.tree (listed_of design.tree request) j ≡ m)

-- The machine of a listed path has the path as its name.
abbrev pub MachinesHaveListedNames : Type 0
MachinesHaveListedNames =
    (design : Ordered) (request : Request) (k : ℕ)
    -- The design keeps to its tree, and the request lists the path at place k.
    → IsDesign design → KeepsToTree design.circuit design.tree → k < length (listed_paths design.tree request)
    -- The machine at the path's place after the hub has the path as its name.
    → path_at (machine_names design request (listed_of design.tree request)) (k + 1) ≡ path_at (listed_paths design.tree request) k
