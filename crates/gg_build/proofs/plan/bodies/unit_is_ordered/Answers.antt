use Rattle.gg_cut_plan.specs.declared.plan.Body.TheVariants.{Cut}
use Rattle.gg_build.specs.inside.Given.{given_of}
use Rattle.gg_build.proofs.PlanLemmas.BodyLemmas.{unit-formed}
use Rattle.gg_build.proofs.PlanLemmas.GivenLemmas.{body-is}
use Rattle.gg_build.proofs.plan.bodies.unit_is_ordered.Goals as goal

pub returns-clause-formed : goal.returns-clause-formed
returns-clause-formed c = λ design request models default plan columns n start rows given m part lt is. unit-formed (given_of given) m part (body-is (given_of given) m (Cut part) lt is)

pub returns-clause-ordered : goal.returns-clause-ordered
returns-clause-ordered c = λ design request models default plan columns n start rows given m part lt is. (body-is (given_of given) m (Cut part) lt is).1.ordered
