use Rattle.gg_net.proofs.MarkingsLemmas.LeadLemmas.{leads-up}
use Rattle.gg_net.proofs.MarkingsLemmas.EndLemmas.{leads-only}
use Rattle.gg_net.proofs.markings.progress.leads_up.Goals as goal

pub returns-clause-up : goal.returns-clause-up
returns-clause-up c = λ layout old new can shape goal_shape allowed high le. leads-up layout can new goal_shape high old shape allowed le

pub returns-clause-only : goal.returns-clause-only
returns-clause-only c = λ layout old new events can shape allowed leads. leads-only layout can old new events shape allowed leads
