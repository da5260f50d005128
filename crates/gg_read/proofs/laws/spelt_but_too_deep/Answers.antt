use Rattle.gg_read.proofs.FaultLines.{spelt_but_too_deep-law}
use Rattle.gg_read.proofs.laws.spelt_but_too_deep.Goals as goal

pub returns : goal.returns
returns c = spelt_but_too_deep-law
