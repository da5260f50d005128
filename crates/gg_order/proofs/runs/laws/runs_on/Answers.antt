use Rattle.gg_order.proofs.RunsLemmas.RunLemmas.{IsRunFrom-on}
use Rattle.gg_order.proofs.runs.laws.runs_on.Goals as goal

pub returns : goal.returns
returns c = IsRunFrom-on
