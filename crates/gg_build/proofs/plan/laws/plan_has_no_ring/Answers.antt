use Rattle.gg_build.specs.inside.Given.{given_of}
use Rattle.gg_build.proofs.PlanLemmas.PlanLemmas.{plan-no-ring}
use Rattle.gg_build.proofs.plan.laws.plan_has_no_ring.Goals as goal

pub returns : goal.returns
returns c = λ design request models default plan columns n start rows given token starts machines built. plan-no-ring (given_of given) token starts machines built
