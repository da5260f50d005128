use Rattle.gg_build.specs.inside.Given.{given_of}
use Rattle.gg_build.proofs.PlanLemmas.SolvedLemmas.{plan-sound}
use Rattle.gg_build.proofs.plan.solved.plan_is_sound.Goals as goal

pub returns : goal.returns
returns c = λ design request models default plan columns n start rows given machines built. plan-sound (given_of given) machines built
