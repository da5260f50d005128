use Rattle.gg_bridge.proofs.FormedLemmas.{whole-formed}
use Rattle.gg_bridge.proofs.laws.joined_formed.Goals as goal

pub returns : goal.returns
returns c = λ one front model sees drives can formed is. whole-formed one front model sees drives can formed is.formed is.clocks
