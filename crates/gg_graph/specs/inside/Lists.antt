-- A graph given by a list of targets for each node. A number that is not a node means a place without a target.
use Rattle.std.proofs.Math.Nat.{not-suc-le-zero}
use Rattle.std.specs.Prelude.{ℕ, ◌<◌, List, [], length, take, Contains, slice_index_or}

-- the targets of node s, in order; none for a number that is not a node
abbrev pub targets_of : List (List ℕ) → ℕ → List ℕ
targets_of lists s = slice_index_or lists s []

-- node t is a target of node s
abbrev pub HasTarget : List (List ℕ) → ℕ → ℕ → Type 0
HasTarget lists s t = Contains (targets_of lists s) t × (t < length lists)

-- node t is a target of node s at one of its first k places
abbrev pub HasTargetBelow : List (List ℕ) → ℕ → ℕ → ℕ → Type 0
HasTargetBelow lists s k t = Contains (take k (targets_of lists s)) t × (t < length lists)

-- there is no target below the first place
pub none_below_first : (lists : List (List ℕ)) (s t : ℕ) → HasTargetBelow lists s 0 t → ⊥
none_below_first lists s t below = not-suc-le-zero below.0.1
