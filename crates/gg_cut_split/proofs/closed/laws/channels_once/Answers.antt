use Rattle.gg_cut_split.proofs.ClosedLemmas.ChoiceLemmas.{pairs-once}
use Rattle.gg_cut_split.proofs.ClosedLemmas.EndLemmas.{ends}
use Rattle.gg_cut_split.proofs.closed.laws.channels_once.Goals as goal

pub returns-clause-once : goal.returns-clause-once
returns-clause-once c = λ design listed entries is keeps apart. pairs-once design.circuit design.tree listed entries is.formed keeps.fitting keeps.scoped apart

pub returns-clause-ends : goal.returns-clause-ends
returns-clause-ends c = λ design listed entries is keeps apart. ends design.circuit design.tree listed entries keeps.fitting apart
