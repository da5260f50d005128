use Rattle.gg_measure.proofs.OrderLemmas.{one-end}
use Rattle.gg_measure.proofs.laws.one_end.Goals as goal

pub returns : goal.returns
returns c = λ flow old one other events others kept steps other_steps permutes. one-end flow old one other events others kept steps other_steps permutes
