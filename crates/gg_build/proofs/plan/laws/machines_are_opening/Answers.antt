use Rattle.gg_build.specs.inside.Given.{given_of}
use Rattle.gg_build.proofs.PlanLemmas.OpeningLemmas.{given-opening}
use Rattle.gg_build.proofs.plan.laws.machines_are_opening.Goals as goal

pub returns : goal.returns
returns c = λ design request models default plan columns n start rows given machines built m lt. given-opening (given_of given) machines built m lt
