use Rattle.gg_cut_split.proofs.ClosedLemmas.ChoiceLemmas.{choice}
use Rattle.gg_cut_split.proofs.closed.laws.machine_makes_part.Goals as goal

pub returns : goal.returns
returns c = λ design listed entries m globals memories is keeps apart low signals once banks memories-once. choice design.circuit design.tree listed entries is.formed keeps.fitting keeps.scoped apart m globals memories low signals once banks memories-once
