use Rattle.gg_clocks.proofs.PhaseLemmas.{edge_count-quotient}
use Rattle.gg_clocks.proofs.ratio.Ratio.edges_before.Goals as goal

pub returns : goal.returns
returns c = rw (← c.self.view_is) (edge_count-quotient _ c.self.invariant c.args.b)
