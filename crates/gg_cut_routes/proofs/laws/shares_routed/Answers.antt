use Rattle.gg_cut_routes.proofs.PlanLemmas.{hub-plan-share, other-plan-share}
use Rattle.gg_cut_routes.proofs.laws.shares_routed.Goals as goal

pub returns-clause-hub : goal.returns-clause-hub
returns-clause-hub c = λ design listed piped entries direct gone ins outs globals memories is keeps apart are marks own. hub-plan-share design listed piped entries direct is keeps apart are gone ins outs globals memories marks own

pub returns-clause-others : goal.returns-clause-others
returns-clause-others c = λ design listed piped entries direct m ins outs globals memories is keeps apart are other own. other-plan-share design listed piped entries direct is keeps apart are m ins outs globals memories other own
