use Rattle.gg_bits.proofs.PathLemmas.{distinct-paths}
use Rattle.gg_bits.proofs.paths.Paths.len.Goals as goal

pub returns-clause-distinct : goal.returns-clause-distinct
returns-clause-distinct c = rw (← c.self.view_is) (distinct-paths _ c.len.ensures.unique)
