-- What the Clock inputs of instances follow inside their homes. Homes are some of the instances, and each is treated like a top.
-- Source: FIRRTL Specification, "Clock" types, "Instances" (a Clock input is connected where the instance is declared). FireSim's clock
-- domains: a part of a target knows only its own clock ports.
use Rattle.std.specs.Prelude.{◌≡◌, ℕ, suc, List, [], ◌∷◌, Bool, Option, None, length, map, slice_index_or, if◌then◌else◌}
use Rattle.gg_flat_tree.specs.declared.tree.Instance.{Instance}
use Rattle.gg_flat_tree.specs.Clocked.{clock_at, clocks_from, top_clocks}
use Rattle.gg_flat_tree.specs.Tree.{InstanceTree, IsInnermost, memory_at}

-- an instance without a parent; its Clock inputs are clocks
abbrev pub alone : Instance → Instance
alone instance = record instance { parent = None; clocks = clocks_from 0 (length instance.clocks) }

-- these instances, with each home as an instance without a parent; the first is at place k
abbrev pub apart_from : (is_home : ℕ → Bool) → ℕ → List Instance → List Instance
apart_from is_home k [] = []
apart_from is_home k (instance ∷ instances) = (if is_home k then alone instance else instance) ∷ apart_from is_home (suc k) instances

-- the tree of instances, with each home as an instance without a parent
abbrev pub tree_apart : (is_home : ℕ → Bool) → InstanceTree → InstanceTree
tree_apart is_home tree = record tree { instances = apart_from is_home 0 tree.instances }

-- for each Clock input of the instance at place k the Clock input of its home that it follows, or that it is
abbrev pub inner_clocks : (is_home : ℕ → Bool) → InstanceTree → ℕ → List (Option ℕ)
inner_clocks is_home tree k = top_clocks (tree_apart is_home tree) k

-- register r, which signal s holds, follows this Clock input of the home of the signal, if any
abbrev pub FollowsInside : (is_home : ℕ → Bool) → InstanceTree → (s r : ℕ) → Option ℕ → Type 0
FollowsInside is_home tree s r clock = (k : ℕ) → IsInnermost tree k s → clock ≡ clock_at (inner_clocks is_home tree k) (slice_index_or tree.register_clocks r None)

-- for each port of the memory at place j the Clock input of the memory's home that it follows, if any
abbrev pub ports_inside : (is_home : ℕ → Bool) → InstanceTree → ℕ → List (Option ℕ)
ports_inside is_home tree j = map (clock_at (inner_clocks is_home tree (memory_at tree j).instance)) (memory_at tree j).clocks
