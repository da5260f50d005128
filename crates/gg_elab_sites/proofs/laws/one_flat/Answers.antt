use Rattle.gg_elab_sites.proofs.OneLemmas.{flats-same}
use Rattle.gg_elab_sites.proofs.laws.one_flat.Goals as goal

pub returns : goal.returns
returns c = flats-same
