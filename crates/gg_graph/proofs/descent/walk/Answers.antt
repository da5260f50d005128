use Rattle.std.proofs.Common.{arith}
use Rattle.gg_graph.proofs.RingLemmas.{no_ring}
use Rattle.gg_graph.proofs.StepLemmas.{IsOrderOf-walked}
use Rattle.gg_graph.proofs.descent.walk.Goals as goal

pub returns-clause-order : goal.returns-clause-order
returns-clause-order g c =
    IsOrderOf-walked c.loop-root.invariant.walks (λ s lt. c.loop-root.invariant.met s (omega (arith, lt, c.node_count-root-end.ensures)))

pub returns-clause-free : goal.returns-clause-free
returns-clause-free g c = λ ring.
    no_ring (g.G.Graph.edge c.args.graph.now) (g.G.Graph.nodes c.args.graph.now) c.loop-root.walk.order.items ring
    (IsOrderOf-walked c.loop-root.invariant.walks (λ s lt. c.loop-root.invariant.met s (omega (arith, lt, c.node_count-root-end.ensures))))
