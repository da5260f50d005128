use Rattle.gg_rows.proofs.OutputLemmas.{opening-is-net}
use Rattle.gg_rows.proofs.laws.openings_are_nets.Goals as goal

pub returns : goal.returns
returns c = opening-is-net
