use Rattle.gg_bridge.proofs.AllLemmas.{all-ordered}
use Rattle.gg_bridge.proofs.laws.joined_all_ordered.Goals as goal

pub returns : goal.returns
returns c = all-ordered
