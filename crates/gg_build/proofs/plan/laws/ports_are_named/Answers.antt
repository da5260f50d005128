use Rattle.gg_build.specs.inside.Given.{given_of}
use Rattle.gg_build.proofs.PlanLemmas.PlanLemmas.{fit}
use Rattle.gg_build.proofs.plan.laws.ports_are_named.Goals as goal

pub returns-clause-numbers : goal.returns-clause-numbers
returns-clause-numbers c = λ design request models default plan columns n start rows given token starts machines built m lt. ((fit (given_of given) token starts machines built).each m lt).numbers

pub returns-clause-fields : goal.returns-clause-fields
returns-clause-fields c = λ design request models default plan columns n start rows given token starts machines built m lt. ((fit (given_of given) token starts machines built).each m lt).fields
