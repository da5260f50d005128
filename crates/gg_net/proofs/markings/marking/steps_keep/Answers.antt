use Rattle.gg_net.proofs.MarkingsLemmas.StepsLemmas.{steps-kept, steps-frame, steps-more}
use Rattle.gg_net.proofs.markings.marking.steps_keep.Goals as goal

pub returns-clause-kept : goal.returns-clause-kept
returns-clause-kept c = λ flow old new events kept steps. steps-kept flow old events new kept steps

pub returns-clause-frame : goal.returns-clause-frame
returns-clause-frame c = λ old new events steps. steps-frame old events new steps

pub returns-clause-more : goal.returns-clause-more
returns-clause-more c = λ old next new events event steps step. steps-more old events next event new steps step
