use Rattle.gg_net.proofs.MarkingsLemmas.EndLemmas.{opening-allowed, opening-lowest, opening-left}
use Rattle.gg_net.proofs.markings.progress.opens_allowed.Goals as goal

pub returns-clause-allowed : goal.returns-clause-allowed
returns-clause-allowed c = λ layout begin can le. opening-allowed layout can begin le

pub returns-clause-measure : goal.returns-clause-measure
returns-clause-measure c = λ layout begin can le. opening-left layout can begin le

pub returns-clause-lowest : goal.returns-clause-lowest
returns-clause-lowest c = λ layout begin counts can le allowed begun. opening-lowest layout can begin le counts allowed begun
