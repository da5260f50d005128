use Rattle.gg_net.proofs.MarkingsLemmas.LeadLemmas.{went}
use Rattle.gg_net.proofs.markings.progress.keeps_allowed.Goals as goal

pub returns-clause-raises : goal.returns-clause-raises
returns-clause-raises c = λ layout old event can shape allowed is. (went layout can old event shape allowed is).raises

pub returns-clause-allowed : goal.returns-clause-allowed
returns-clause-allowed c = λ layout old event can shape allowed is. (went layout can old event shape allowed is).allowed

pub returns-clause-falls : goal.returns-clause-falls
returns-clause-falls c = λ layout old event can shape allowed is. (went layout can old event shape allowed is).falls
