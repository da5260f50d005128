use Rattle.gg_cut_reference.specs.Made.{plan_reference}
use Rattle.gg_cut_reference.proofs.PlanLemmas.{plan-made}
use Rattle.gg_snap.proofs.SaveLemmas.{can-save}
use Rattle.gg_snap.proofs.laws.plans_can_save.Goals as goal

pub returns : goal.returns
returns c = λ design request is keeps held paths none.
    can-save design.circuit (plan_reference design request) _ _ (plan-made design request is keeps held none) is.formed design.tree keeps.fitting held paths
