-- The state of a walk: what is known of its lists.
use Rattle.std.specs.Prelude.{◌≡◌, ◌≢◌, ℕ, ◌<◌, List, [], ◌∷◌, length, take, drop, Contains, AllPairs, slice_index_or}
use Rattle.gg_graph.specs.Graph.{node_at}
use Rattle.gg_graph.specs.declared.state.Stage.{Stage}
use Rattle.gg_graph.specs.declared.state.Stage.TheVariants.{New, Open, Done}
use Rattle.gg_graph.specs.declared.state.Progress.{Progress}

-- the stage of a node; past the end it is new
abbrev pub stage_at : List Stage → ℕ → Stage
stage_at stages s = slice_index_or stages s New

-- how many steps are left with a node at most
abbrev pub weight : Stage → ℕ
weight New = 2
weight Open = 1
weight Done = 0

-- a node that was met before is also met now
abbrev pub StaysMet : List Stage → List Stage → Type 0
StaysMet before after = (s : ℕ) → stage_at before s ≢ New → stage_at after s ≢ New

-- each node of a path has an edge to the next
abbrev pub IsChain : (ℕ → ℕ → Type 0) → List ℕ → Type 0
IsChain Edge [] = Unit {0}
IsChain Edge (a ∷ []) = Unit {0}
IsChain Edge (a ∷ b ∷ rest) = Edge a b × IsChain Edge (b ∷ rest)

-- each node of a list comes after all its targets
abbrev pub StandsAfter : (ℕ → ℕ → Type 0) → List ℕ → Type 0
StandsAfter Edge order = (i t : ℕ) → i < length order → Edge (node_at order i) t → Contains (take i order) t

-- The state of a walk along a path. The path ends at the node that the walk is at.
pub record Walks (Edge : ℕ → ℕ → Type 0) (EdgeBelow : ℕ → ℕ → ℕ → Type 0) (count : ℕ) (path : List ℕ) (stages : List Stage) (places order : List ℕ) : Type 0 where
  pub stage_count : length stages ≡ count
  pub place_count : length places ≡ count
  -- the nodes that are done are just the nodes of the order
  pub finished : (s : ℕ) → stage_at stages s ≡ Done → Contains order s
  pub ordered : (s : ℕ) → Contains order s → stage_at stages s ≡ Done
  -- the open nodes are just the nodes of the path
  pub on_path : (s : ℕ) → stage_at stages s ≡ Open → Contains path s
  pub opened : (s : ℕ) → Contains path s → stage_at stages s ≡ Open
  pub order_once : AllPairs (λ a b. a ≢ b) order
  pub path_once : AllPairs (λ a b. a ≢ b) path
  pub after : StandsAfter Edge order
  pub chain : IsChain Edge path
  -- the targets of a node at places below its entry in `places` are done
  pub scanned : (s t : ℕ) → EdgeBelow s (node_at places s) t → stage_at stages t ≡ Done

-- `Walks` for the lists that a walk keeps
abbrev pub IsUnderWay : (ℕ → ℕ → Type 0) → (ℕ → ℕ → ℕ → Type 0) → ℕ → List ℕ → Progress → Type 0
IsUnderWay Edge EdgeBelow count path walk = Walks Edge EdgeBelow count path walk.stages.items walk.places.items walk.order.items

-- the part of a path that begins at the node `first`
pub record IsEndFrom (path : List ℕ) (first : ℕ) (end : List ℕ) : Type 0 where
  pub start : ℕ
  pub within : start < length path
  pub is : slice_index_or path start first ≡ first
  pub end_is : end ≡ drop start path
