use Rattle.gg_order.proofs.RunsLemmas.ServedLemmas.{all-served}
use Rattle.gg_order.proofs.runs.laws.all_served.Goals as goal

pub returns : goal.returns
returns c = all-served
