use Rattle.std.proofs.Common.{[], ◌∷◌, ◌++◌}
use Rattle.std.specs.Prelude.{sum_by}
use Rattle.gg_graph.specs.inside.Walk.{weight, StaysMet, IsUnderWay}
use Rattle.gg_graph.proofs.descent.descend.Given as goal

abbrev pub invariant-loop-next : goal.invariant-loop-next
invariant-loop-next g l = record {
  walks : IsUnderWay (g.G.Graph.edge l.graph) (g.G.Graph.edge_below l.graph) (g.G.Graph.nodes l.graph) (l.walk.path.items ++ l.node ∷ []) l.walk;
  stays_met : StaysMet l.fn.walk.stages.items l.walk.stages.items;
}

abbrev pub decreases-loop-next : goal.decreases-loop-next
decreases-loop-next g l = sum_by weight l.walk.stages.items
