use Rattle.gg_flat.proofs.OrderLemmas.{IsLoop-none}
use Rattle.gg_order.proofs.runs.laws.no_loop.Goals as goal

pub returns : goal.returns
returns c = IsLoop-none
