use Rattle.gg_partfile.proofs.KeyOrder.{capacities_ordered}
use Rattle.gg_partfile.proofs.laws.capacities_in_order.Goals as goal

pub returns : goal.returns
returns c = capacities_ordered
