use Rattle.gg_partfile.proofs.KeyOrder.{least_unknown}
use Rattle.gg_partfile.proofs.laws.least_unknown.Goals as goal

pub returns : goal.returns
returns c = least_unknown
