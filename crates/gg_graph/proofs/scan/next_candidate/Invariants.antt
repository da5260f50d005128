use Rattle.std.proofs.Common.{◌≡◌, ℕ, ◌-◌, ◌^◌}
use Rattle.gg_graph.specs.inside.Walk.{stage_at}
use Rattle.gg_graph.specs.declared.state.Stage.TheVariants.{Done}
use Rattle.gg_graph.proofs.scan.next_candidate.Given as goal

abbrev pub invariant-loop-target : goal.invariant-loop-target
invariant-loop-target g l = (t : ℕ) → g.G.Graph.edge_below l.graph l.node l.place t → stage_at l.stages t ≡ Done

abbrev pub decreases-loop-target : goal.decreases-loop-target
decreases-loop-target g l = 2 ^ 64 - l.place
