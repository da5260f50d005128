use Rattle.gg_front.proofs.EachMeaningLemmas.{one-there}
use Rattle.gg_front.proofs.laws.each_has_one_run.Goals as goal

pub returns : goal.returns
returns c = λ bytes text. one-there bytes text (c.one_meaning.ensures.flat bytes)
