-- The machine of a signal, of an instance and of a memory, only by paths.
-- Source: ICCAD 2019 (an instance or a memory that is marked becomes a model of its own, with all that is below it;
-- what is left is the hub's); FIRRTL Specification, "Instances" and "Memories": what is below an instance or a memory
-- is named by its path, a dot and a name.
use Rattle.std.specs.Prelude.{◌≡◌, ◌≢◌, ◌⊎◌, ℕ, zero, suc, ◌<◌, List, ◌∷◌, ◌++◌, length, filter}
use Rattle.gg_flat_tree.specs.Tree.{InstanceTree, path_at}
use Rattle.gg_order.specs.Design.{Ordered}
use Rattle.gg_partfile.specs.declared.request.Request.{Request}
use Rattle.gg_cut_plan.specs.Listed.{is_among}

-- ---- what a path holds

-- A path holds another: the other is this path, a dot and a rest.
pub record HoldsPath (outer path : List ℕ) : Type 0 where
  pub rest : List ℕ
  pub is : path ≡ outer ++ 46 ∷ rest

-- a path covers another: it is the other, or holds it
abbrev pub Covers : List ℕ → List ℕ → Type 0
Covers outer path = (outer ≡ path) ⊎ HoldsPath outer path

-- ---- the longest

-- Among the paths with a property, the one at place k is the longest. It has the property, and each other path that
-- has it is shorter.
pub record IsLongest (Has : List ℕ → Type 0) (paths : List (List ℕ)) (k : ℕ) : Type 0 where
  pub known : k < length paths
  pub has : Has (path_at paths k)
  pub longest : (i : ℕ) → i < length paths → i ≢ k → Has (path_at paths i) → length (path_at paths i) < length (path_at paths k)

-- The machine of the longest path with a property: machine k + 1 for the path at place k. If no path has the property,
-- it is machine 0, the hub.
abbrev pub IsOfLongest : (List ℕ → Type 0) → List (List ℕ) → ℕ → Type 0
IsOfLongest Has paths zero = (i : ℕ) → i < length paths → ¬ Has (path_at paths i)
IsOfLongest Has paths (suc k) = IsLongest Has paths k

-- ---- what a request lists

-- The paths of the units in the order of the request, followed by the paths of the listed memories in the order of the
-- tree.
abbrev pub listed_paths : InstanceTree → Request → List (List ℕ)
listed_paths tree request = request.units ++ filter (is_among request.memories) tree.memory_paths

-- Machine m is the machine of the longest listed path that holds the path of signal s, or the hub if there is none.
abbrev pub IsLongestHolder : Ordered → Request → ℕ → ℕ → Type 0
IsLongestHolder design request s m = IsOfLongest (λ path. HoldsPath path (path_at design.circuit.paths s)) (listed_paths design.tree request) m

-- Machine m is the machine of the longest listed path that covers this path, or the hub if there is none. The path is
-- an instance's or a memory's.
abbrev pub IsLongestCover : Ordered → Request → List ℕ → ℕ → Type 0
IsLongestCover design request inner m = IsOfLongest (λ path. Covers path inner) (listed_paths design.tree request) m
