use Rattle.gg_measure.proofs.FallLemmas.{ends-count, ends-there, ends-drained, ends-kept}
use Rattle.gg_measure.proofs.laws.steps_end_so.Goals as goal

pub returns-clause-count : goal.returns-clause-count
returns-clause-count c = λ flow old new events kept steps none. ends-count flow old new events kept steps none

pub returns-clause-there : goal.returns-clause-there
returns-clause-there c = λ flow old new events kept steps none. ends-there flow old new events kept steps none

pub returns-clause-drained : goal.returns-clause-drained
returns-clause-drained c = λ flow old new events kept steps none. ends-drained flow old new events kept steps none

pub returns-clause-kept : goal.returns-clause-kept
returns-clause-kept c = λ flow old new events kept steps none. ends-kept flow old new events kept steps none
