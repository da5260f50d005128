use Rattle.gg_cut_plan.specs.declared.plan.Body.TheVariants.{Source}
use Rattle.gg_build.specs.inside.Given.{given_of}
use Rattle.gg_build.proofs.PlanLemmas.BodyLemmas.{source-some, source-few, source-known}
use Rattle.gg_build.proofs.PlanLemmas.GivenLemmas.{body-is}
use Rattle.gg_build.proofs.plan.bodies.source_has_column.Goals as goal

pub returns-clause-some : goal.returns-clause-some
returns-clause-some c = λ design request models default plan columns n start rows given m place lt is. source-some (given_of given) m place lt (body-is (given_of given) m (Source place) lt is)

pub returns-clause-few : goal.returns-clause-few
returns-clause-few c = λ design request models default plan columns n start rows given m place lt is. source-few (given_of given) m lt

pub returns-clause-known : goal.returns-clause-known
returns-clause-known c = λ design request models default plan columns n start rows given m place lt is. source-known (given_of given) m place (body-is (given_of given) m (Source place) lt is)
