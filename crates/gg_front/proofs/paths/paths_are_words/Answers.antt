use Rattle.gg_front.proofs.PortLemmas.{have-paths}
use Rattle.gg_front.proofs.paths.paths_are_words.Goals as goal

pub returns : goal.returns
returns c = have-paths
