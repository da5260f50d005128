use Rattle.gg_build.specs.inside.Given.{given_of}
use Rattle.gg_build.proofs.PlanLemmas.PlanLemmas.{plan-wired}
use Rattle.gg_build.proofs.plan.laws.plan_is_wired.Goals as goal

pub returns : goal.returns
returns c = λ design request models default plan columns n start rows given token starts machines built. plan-wired (given_of given) token starts machines built
