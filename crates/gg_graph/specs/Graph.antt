-- Orders and rings of a directed graph. Its nodes are the numbers below `count`, and `Edge s t` says that there is an
-- edge from node s to node t. An order is a topological order of the graph with its edges reversed; a ring is a cycle.
-- Source: Knuth, The Art of Computer Programming, volume 1, section 2.2.3, "Topological sorting".
use Rattle.std.specs.Prelude.{◌≢◌, ℕ, ◌<◌, List, [], ◌∷◌, length, AllPairs, slice_index_or}

-- the node at a place of a list; 0 past the end
abbrev pub node_at : List ℕ → ℕ → ℕ
node_at nodes i = slice_index_or nodes i 0

-- each node of a list has an edge to the next, and the last to `first`
abbrev pub GoesTo : (ℕ → ℕ → Type 0) → ℕ → List ℕ → Type 0
GoesTo Edge first [] = ⊥
GoesTo Edge first (a ∷ []) = Edge a first
GoesTo Edge first (a ∷ b ∷ rest) = Edge a b × GoesTo Edge first (b ∷ rest)

-- each node of a list has an edge to the next, and the last to the first
abbrev pub GoesRound : (ℕ → ℕ → Type 0) → List ℕ → Type 0
GoesRound Edge [] = ⊥
GoesRound Edge (first ∷ rest) = GoesTo Edge first (first ∷ rest)

-- A ring: distinct nodes, each with an edge to the next, the last to the first.
pub record IsRing (Edge : ℕ → ℕ → Type 0) (count : ℕ) (ring : List ℕ) : Type 0 where
  pub nodes : (i : ℕ) → i < length ring → node_at ring i < count
  pub once : AllPairs (λ a b. a ≢ b) ring
  pub round : GoesRound Edge ring
