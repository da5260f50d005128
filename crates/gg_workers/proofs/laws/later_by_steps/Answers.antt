use Rattle.gg_workers.proofs.LawLemmas.{steps-of, falls-by-ready}
use Rattle.gg_workers.proofs.laws.later_by_steps.Goals as goal

pub returns-clause-steps : goal.returns-clause-steps
returns-clause-steps c = λ flow upto old new kept later. steps-of flow upto old new kept later

pub returns-clause-falls : goal.returns-clause-falls
returns-clause-falls c = λ flow upto old new ready kept later distinct could. falls-by-ready flow upto old new kept later ready distinct could
