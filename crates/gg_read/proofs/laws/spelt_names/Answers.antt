use Rattle.gg_read.proofs.NamesSpelt.{circuit-named}
use Rattle.gg_read.proofs.laws.spelt_names.Goals as goal

pub returns : goal.returns
returns c = circuit-named
