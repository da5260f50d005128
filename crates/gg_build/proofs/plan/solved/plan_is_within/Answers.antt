use Rattle.gg_build.specs.inside.Given.{given_of}
use Rattle.gg_build.proofs.PlanLemmas.WithinLemmas.{plan-within}
use Rattle.gg_build.proofs.plan.solved.plan_is_within.Goals as goal

pub returns : goal.returns
returns c = λ design request models default plan columns n start rows given token starts machines built most. plan-within (given_of given) token starts machines built most
