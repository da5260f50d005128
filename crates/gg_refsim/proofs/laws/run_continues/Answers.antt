use Rattle.gg_refsim.proofs.RunLemmas.{IsRunFrom-next, state-next}
use Rattle.gg_refsim.proofs.laws.run_continues.Goals as goal

pub returns-clause-run : goal.returns-clause-run
returns-clause-run c = IsRunFrom-next

pub returns-clause-state : goal.returns-clause-state
returns-clause-state c = state-next
