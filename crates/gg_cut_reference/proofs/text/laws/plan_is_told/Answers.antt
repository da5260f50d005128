use Rattle.gg_cut_reference.proofs.TextLemmas.PlanTextLemmas.{plan-text-is}
use Rattle.gg_cut_reference.proofs.text.laws.plan_is_told.Goals as goal

pub returns : goal.returns
returns c = plan-text-is
