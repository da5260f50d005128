use Rattle.gg_part.proofs.RunLemmas.{IsRunFrom-part, IsRun-part, IsColumns-part}
use Rattle.gg_part.proofs.laws.part_runs.Goals as goal

pub returns-clause-from : goal.returns-clause-from
returns-clause-from c = λ whole part globals held memories clocks start columns inputs n rows is. IsRunFrom-part whole part globals held memories clocks is start columns inputs n rows

pub returns-clause-opening : goal.returns-clause-opening
returns-clause-opening c = λ whole part globals held memories clocks ratios columns n rows is. IsRun-part whole part globals held memories clocks is ratios columns n rows

pub returns-clause-columns : goal.returns-clause-columns
returns-clause-columns c = λ whole part globals held memories clocks ratios columns n rows is. IsColumns-part whole part globals held memories clocks is ratios columns n rows
