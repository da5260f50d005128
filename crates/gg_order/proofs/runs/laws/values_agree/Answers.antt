use Rattle.gg_order.proofs.RunsLemmas.AgreeLemmas.{driver_value-agree, next_register-agree}
use Rattle.gg_order.proofs.RunsLemmas.ServedLemmas.{next_bank-agree}
use Rattle.gg_order.proofs.runs.laws.values_agree.Goals as goal

pub returns-clause-drivers : goal.returns-clause-drivers
returns-clause-drivers c = driver_value-agree

pub returns-clause-registers : goal.returns-clause-registers
returns-clause-registers c = next_register-agree

pub returns-clause-memories : goal.returns-clause-memories
returns-clause-memories c = next_bank-agree
