use Rattle.gg_order.proofs.RunsLemmas.AlongLemmas.{IsRunFrom-along, IsRun-along}
use Rattle.gg_order.proofs.runs.laws.runs_along.Goals as goal

pub returns-clause-from : goal.returns-clause-from
returns-clause-from c = IsRunFrom-along

pub returns-clause-opening : goal.returns-clause-opening
returns-clause-opening c = IsRun-along
