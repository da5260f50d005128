use Rattle.gg_order.proofs.RunsLemmas.RunLemmas.{IsRunFrom-first, IsRunFrom-rest}
use Rattle.gg_order.proofs.runs.laws.runs_split.Goals as goal

pub returns-clause-first : goal.returns-clause-first
returns-clause-first c = IsRunFrom-first

pub returns-clause-rest : goal.returns-clause-rest
returns-clause-rest c = IsRunFrom-rest
