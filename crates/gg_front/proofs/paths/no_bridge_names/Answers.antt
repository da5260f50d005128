use Rattle.gg_front.proofs.FreshLemmas.{none-bridged}
use Rattle.gg_front.proofs.paths.no_bridge_names.Goals as goal

pub returns : goal.returns
returns c = λ text circuit flat spelt is s path lt. none-bridged text circuit flat spelt is s path
