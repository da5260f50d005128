use Rattle.gg_build.proofs.PlanLemmas.ZeroLemmas.{built-with-zeros, zero-tokens, zeros-with-built}
use Rattle.gg_build.proofs.plan.laws.all_begin_with_zeros.Goals as goal

pub returns-clause-machines : goal.returns-clause-machines
returns-clause-machines c = λ design request models default plan can planned columns machines.
    (zeros-with-built design request models default plan columns machines planned, built-with-zeros design request models default plan columns machines planned)

pub returns-clause-tokens : goal.returns-clause-tokens
returns-clause-tokens c = λ design request plan. zero-tokens design request plan
