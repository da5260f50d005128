use Rattle.gg_rows.proofs.OutputLemmas.{net-stays}
use Rattle.gg_rows.proofs.laws.steps_keep_nets.Goals as goal

pub returns : goal.returns
returns c = net-stays
