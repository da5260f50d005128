use Rattle.gg_partfile.proofs.KeyOrder.{clocks_ordered}
use Rattle.gg_partfile.proofs.laws.clocks_in_order.Goals as goal

pub returns : goal.returns
returns c = clocks_ordered
