use Rattle.gg_net.proofs.MarkingsLemmas.StepsLemmas.{goes-on, all-done, stops-at}
use Rattle.gg_net.proofs.markings.marking.steps_by_marking.Goals as goal

pub returns-clause-done : goal.returns-clause-done
returns-clause-done c = λ flow old new layout k events kept has steps. all-done flow layout k old events new kept has steps

pub returns-clause-stopped : goal.returns-clause-stopped
returns-clause-stopped c = λ flow old new layout k events stopped kept has at. stops-at flow layout k old events new stopped kept has at

pub returns-clause-goes_on : goal.returns-clause-goes_on
returns-clause-goes_on c = λ flow old new layout k event events kept has step. goes-on flow layout k old event new events kept has step
