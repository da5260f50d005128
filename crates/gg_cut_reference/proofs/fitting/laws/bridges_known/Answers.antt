use Rattle.gg_cut_plan.proofs.PortLemmas.{are-bridges}
use Rattle.gg_cut_reference.proofs.fitting.laws.bridges_known.Goals as goal

pub returns : goal.returns
returns c = λ circuit outputs listed entries. are-bridges circuit outputs listed entries
