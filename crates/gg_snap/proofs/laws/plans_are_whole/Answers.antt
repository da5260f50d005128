use Rattle.gg_snap.proofs.WholeLemmas.{plan-whole}
use Rattle.gg_snap.proofs.laws.plans_are_whole.Goals as goal

pub returns : goal.returns
returns c = plan-whole
