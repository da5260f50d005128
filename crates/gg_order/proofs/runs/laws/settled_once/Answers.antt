use Rattle.gg_order.proofs.RunsLemmas.UniqueLemmas.{Settled-once}
use Rattle.gg_order.proofs.runs.laws.settled_once.Goals as goal

pub returns : goal.returns
returns c = Settled-once
