use Rattle.gg_cut_split.proofs.ClosedLemmas.OwnerEndLemmas.{owners-at-ends}
use Rattle.gg_cut_split.proofs.closed.laws.owner_at_end.Goals as goal

pub returns : goal.returns
returns c = λ design listed entries is keeps apart. owners-at-ends design.circuit design.tree listed entries keeps.fitting keeps.scoped apart
