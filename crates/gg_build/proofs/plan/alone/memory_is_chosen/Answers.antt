use Rattle.gg_cut_plan.specs.declared.plan.Body.TheVariants.{Memory}
use Rattle.gg_build.specs.inside.Given.{given_of}
use Rattle.gg_build.proofs.PlanLemmas.GivenLemmas.{body-is}
use Rattle.gg_build.proofs.PlanLemmas.StandLemmas.{memory-formed, memory-chosen, memory-alone}
use Rattle.gg_build.proofs.plan.alone.memory_is_chosen.Goals as goal

pub returns-clause-formed : goal.returns-clause-formed
returns-clause-formed c = λ design request models default plan columns n start rows given m part lt memory. memory-formed (given_of given) m part (body-is (given_of given) m (Memory part) lt memory)

pub returns-clause-chosen : goal.returns-clause-chosen
returns-clause-chosen c = λ design request models default plan columns n start rows given m part lt memory. memory-chosen (given_of given) m part (body-is (given_of given) m (Memory part) lt memory)

pub returns-clause-alone : goal.returns-clause-alone
returns-clause-alone c = λ design request models default plan columns n start rows given m part lt memory. memory-alone (given_of given) m part (body-is (given_of given) m (Memory part) lt memory)
