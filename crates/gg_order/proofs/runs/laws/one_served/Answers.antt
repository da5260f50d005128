use Rattle.gg_order.proofs.RunsLemmas.ServedLemmas.{served-more, access-agree}
use Rattle.gg_flat.proofs.BankLemmas.{IsBank-access}
use Rattle.gg_order.proofs.runs.laws.one_served.Goals as goal

pub returns-clause-more : goal.returns-clause-more
returns-clause-more c = served-more

pub returns-clause-agree : goal.returns-clause-agree
returns-clause-agree c = access-agree

pub returns-clause-typed : goal.returns-clause-typed
returns-clause-typed c = IsBank-access
