use Rattle.gg_cut_reference.proofs.TextLemmas.PlanLemmas.{channel-needs}
use Rattle.gg_cut_reference.proofs.text.laws.needs_are_told.Goals as goal

pub returns : goal.returns
returns c = channel-needs
