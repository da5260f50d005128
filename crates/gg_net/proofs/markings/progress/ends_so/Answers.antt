use Rattle.gg_net.proofs.MarkingsLemmas.EndLemmas.{stuck-ends, end-held}
use Rattle.gg_net.proofs.markings.progress.ends_so.Goals as goal

pub returns-clause-ends : goal.returns-clause-ends
returns-clause-ends c = λ layout old new events can shape allowed leads stuck. stuck-ends layout can old events new shape allowed leads stuck

pub returns-clause-held : goal.returns-clause-held
returns-clause-held c = λ layout d can known. end-held layout can d known
