use Rattle.gg_cut_reference.proofs.WholeLemmas.PlanLemmas.{all-stand}
use Rattle.gg_cut_reference.proofs.whole.laws.bridges_stand.Goals as goal

pub returns : goal.returns
returns c = λ design request models can. all-stand design request models can
