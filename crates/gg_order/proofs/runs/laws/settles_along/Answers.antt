use Rattle.gg_order.proofs.RunsLemmas.AlongLemmas.{Settled-along}
use Rattle.gg_order.proofs.runs.laws.settles_along.Goals as goal

pub returns : goal.returns
returns c = Settled-along
