use Rattle.gg_cut_routes.proofs.FewLemmas.{few-machines}
use Rattle.gg_cut_routes.proofs.laws.machines_few.Goals as goal

pub returns : goal.returns
returns c = few-machines
