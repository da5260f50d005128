use Rattle.gg_graph.proofs.RingLemmas.{no_ring}
use Rattle.gg_graph.proofs.nodes.no_ring.Goals as goal

pub returns : goal.returns
returns g c = λ graph order ring. no_ring (g.G.Graph.edge graph) (g.G.Graph.nodes graph) order ring
