use Rattle.gg_cut.proofs.ExistenceLemmas.PlanLemmas.{plan-there}
use Rattle.gg_cut.proofs.existence.laws.each_has_plan.Goals as goal

pub returns : goal.returns
returns c = plan-there
