use Rattle.gg_flat.proofs.StateLemmas.{IsState-opening}
use Rattle.gg_order.proofs.RunsLemmas.AlongLemmas.{IsState-at}
use Rattle.gg_order.proofs.runs.laws.states_typed.Goals as goal

pub returns-clause-opening : goal.returns-clause-opening
returns-clause-opening c = IsState-opening

pub returns-clause-at : goal.returns-clause-at
returns-clause-at c = IsState-at
