use Rattle.gg_front.proofs.FreshLemmas.{none-piped}
use Rattle.gg_front.proofs.paths.no_pipe_names.Goals as goal

pub returns : goal.returns
returns c = λ text circuit flat spelt is s path lt. none-piped text circuit flat spelt is s path
