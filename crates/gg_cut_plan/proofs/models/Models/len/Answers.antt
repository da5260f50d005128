use Rattle.gg_bits.proofs.PathLemmas.{distinct-paths}
use Rattle.gg_cut_plan.proofs.models.Models.len.Goals as goal

pub returns-clause-distinct : goal.returns-clause-distinct
returns-clause-distinct c = rw (← c.self.view_is) (distinct-paths _ c.len.ensures.unique)
