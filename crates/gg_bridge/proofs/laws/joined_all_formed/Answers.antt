use Rattle.gg_bridge.proofs.AllLemmas.{all-formed}
use Rattle.gg_bridge.proofs.laws.joined_all_formed.Goals as goal

pub returns : goal.returns
returns c = all-formed
