use Rattle.gg_cut_plan.specs.declared.plan.Body.TheVariants.{Bridge}
use Rattle.gg_build.specs.inside.Given.{given_of}
use Rattle.gg_build.proofs.PlanLemmas.BodyLemmas.{attached-entry, bridge-once}
use Rattle.gg_build.proofs.PlanLemmas.BridgeLemmas.{bridge-model, bridge-ports}
use Rattle.gg_build.proofs.PlanLemmas.GivenLemmas.{body-is}
use Rattle.gg_build.proofs.plan.bodies.bridge_is_attached.Goals as goal

pub returns-clause-model : goal.returns-clause-model
returns-clause-model c = λ design request models default plan columns n start rows given m bridge lt is. bridge-model (given_of given) m bridge (body-is (given_of given) m (Bridge bridge) lt is)

pub returns-clause-ports : goal.returns-clause-ports
returns-clause-ports c = λ design request models default plan columns n start rows given m bridge lt is. bridge-ports (given_of given) m bridge (body-is (given_of given) m (Bridge bridge) lt is)

pub returns-clause-entry : goal.returns-clause-entry
returns-clause-entry c = λ design request models default plan columns n start rows given m bridge lt is. attached-entry design request models default plan columns n start rows given m lt bridge is

pub returns-clause-once : goal.returns-clause-once
returns-clause-once c = λ design request models default plan columns n start rows given m k bridge other lt less is also same. bridge-once (given_of given) m k bridge other (body-is (given_of given) m (Bridge bridge) lt is) (body-is (given_of given) k (Bridge other) less also) same
