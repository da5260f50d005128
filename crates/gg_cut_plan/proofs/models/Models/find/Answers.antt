use Rattle.gg_cut_plan.proofs.ModelLemmas.{slice_get-found, missing-place}
use Rattle.gg_cut_plan.proofs.models.Models.find.Goals as goal

pub returns-clause-found : goal.returns-clause-found
returns-clause-found c = rw (← c.self.view_is) (slice_get-found _ _ _ c.get_index_of.ensures.index)

pub returns-clause-missing : goal.returns-clause-missing
returns-clause-missing c = rw (← c.self.view_is) (missing-place _ _ _ c.get_index_of.ensures.found)
