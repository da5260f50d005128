use Rattle.gg_snap.proofs.TextLemmas.SaveLemmas.{can-save}
use Rattle.gg_snap.proofs.text.laws.trees_can_save.Goals as goal

pub returns : goal.returns
returns c = can-save
