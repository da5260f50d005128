use Rattle.gg_front.proofs.EachMeaningLemmas.{design-there}
use Rattle.gg_front.proofs.laws.each_has_design.Goals as goal

pub returns : goal.returns
returns c = design-there
