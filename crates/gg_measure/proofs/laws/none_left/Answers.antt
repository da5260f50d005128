use Rattle.gg_measure.proofs.DoneLemmas.{none-left}
use Rattle.gg_measure.proofs.laws.none_left.Goals as goal

pub returns : goal.returns
returns c = λ flow net kept. none-left flow net kept
