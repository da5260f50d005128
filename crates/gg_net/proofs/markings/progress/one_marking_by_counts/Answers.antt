use Rattle.gg_net.proofs.MarkingsLemmas.LeadLemmas.{one-marking}
use Rattle.gg_net.proofs.markings.progress.one_marking_by_counts.Goals as goal

pub returns : goal.returns
returns c = λ layout one other can shape other_shape same. one-marking layout can one other shape other_shape same
