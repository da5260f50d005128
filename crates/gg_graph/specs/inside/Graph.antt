-- More on Graph: what no promise of the program reaches.
-- Source: Knuth, The Art of Computer Programming, volume 1, section 2.2.3, "Topological sorting".
use Rattle.std.specs.Prelude.{◌≢◌, ℕ, ◌<◌, List, length, take, Contains, AllPairs}
use Rattle.gg_graph.specs.Graph.{node_at}

-- An order: each node once, after all its targets.
pub record IsOrderOf (Edge : ℕ → ℕ → Type 0) (count : ℕ) (order : List ℕ) : Type 0 where
  pub nodes : (i : ℕ) → i < length order → node_at order i < count
  pub once : AllPairs (λ a b. a ≢ b) order
  pub every : (s : ℕ) → s < count → Contains order s
  pub after : (i t : ℕ) → i < length order → Edge (node_at order i) t → Contains (take i order) t
