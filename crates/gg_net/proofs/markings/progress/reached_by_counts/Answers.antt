use Rattle.gg_net.proofs.MarkingsLemmas.ReachLemmas.{reached-exactly}
use Rattle.gg_net.proofs.markings.progress.reached_by_counts.Goals as goal

pub returns : goal.returns
returns c = λ layout begin counts can le. reached-exactly layout begin counts can le
