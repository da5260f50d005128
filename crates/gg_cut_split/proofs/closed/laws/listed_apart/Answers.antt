use Rattle.gg_cut_split.proofs.ClosedLemmas.FaultlessLemmas.{entries-apart, faultless-few}
use Rattle.gg_cut_split.proofs.closed.laws.listed_apart.Goals as goal

pub returns-clause-apart : goal.returns-clause-apart
returns-clause-apart c = λ design request keeps none. entries-apart design request none keeps.fitting

pub returns-clause-few : goal.returns-clause-few
returns-clause-few c = λ design request none. faultless-few design request none
