use Rattle.gg_order.proofs.FoundLemmas.{found-is}
use Rattle.gg_order.proofs.laws.orders_are_found.Goals as goal

pub returns : goal.returns
returns c = found-is
