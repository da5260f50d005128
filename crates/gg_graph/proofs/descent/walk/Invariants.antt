use Rattle.std.proofs.Common.{◌≡◌, ◌≢◌, ℕ, ◌<◌, []}
use Rattle.gg_graph.specs.inside.Walk.{stage_at, IsUnderWay}
use Rattle.gg_graph.specs.declared.state.Stage.TheVariants.{New}
use Rattle.gg_graph.proofs.descent.walk.Given as goal

abbrev pub invariant-loop-root : goal.invariant-loop-root
invariant-loop-root g l = record {
  walks : IsUnderWay (g.G.Graph.edge l.graph) (g.G.Graph.edge_below l.graph) (g.G.Graph.nodes l.graph) [] l.walk;
  path : l.walk.path.items ≡ [];
  met : (s : ℕ) → s < l.root → stage_at l.walk.stages.items s ≢ New;
}
