use Rattle.gg_elab.proofs.EachCircuitLemmas.{flat-there}
use Rattle.gg_elab.proofs.laws.each_has_flat.Goals as goal

pub returns : goal.returns
returns c = flat-there
