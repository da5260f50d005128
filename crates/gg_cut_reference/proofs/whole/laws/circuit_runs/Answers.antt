use Rattle.gg_cut_reference.proofs.WholeLemmas.RunLemmas.{whole-runs}
use Rattle.gg_cut_reference.proofs.whole.laws.circuit_runs.Goals as goal

pub returns : goal.returns
returns c = λ design request models start columns end rows can typed given run. whole-runs design request models start columns end rows can typed given run
