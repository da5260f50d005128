use Rattle.gg_build.specs.inside.Given.{given_of}
use Rattle.gg_build.proofs.PlanLemmas.SolveLemmas.{plan-solves}
use Rattle.gg_build.proofs.plan.laws.columns_solve.Goals as goal

pub returns : goal.returns
returns c = λ design request models default plan columns n start rows given. plan-solves (given_of given)
