use Rattle.gg_front.proofs.SpeltLemmas.{names-spelt}
use Rattle.gg_front.proofs.paths.spelt_names.Goals as goal

pub returns : goal.returns
returns c = names-spelt
