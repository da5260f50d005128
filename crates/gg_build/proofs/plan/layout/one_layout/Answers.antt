use Rattle.gg_build.proofs.PlanLemmas.OneLemmas.{one-layout}
use Rattle.gg_build.proofs.plan.layout.one_layout.Goals as goal

pub returns : goal.returns
returns c = λ one other request default n alike layout others a b. one-layout one other request default n layout others alike a b
