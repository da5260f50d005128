use Rattle.gg_measure.proofs.GoLemmas.{step-falls}
use Rattle.gg_measure.proofs.FallLemmas.{steps-fall, goes-while-left}
use Rattle.gg_measure.proofs.laws.steps_fall.Goals as goal

pub returns-clause-one : goal.returns-clause-one
returns-clause-one c = λ flow old new event kept step. step-falls flow old kept new event step

pub returns-clause-all : goal.returns-clause-all
returns-clause-all c = λ flow old new events kept steps. steps-fall flow old new events kept steps

pub returns-clause-longer : goal.returns-clause-longer
returns-clause-longer c = λ flow old new events kept steps. goes-while-left flow old new events kept steps
