use Rattle.gg_cut_reference.proofs.WholeLemmas.PlanLemmas.{circuit-formed, circuit-ordered}
use Rattle.gg_cut_reference.proofs.whole.laws.circuit_is_formed.Goals as goal

pub returns-clause-formed : goal.returns-clause-formed
returns-clause-formed c = λ design request models can. circuit-formed design request models can

pub returns-clause-ordered : goal.returns-clause-ordered
returns-clause-ordered c = λ design request models can. circuit-ordered design request models can
