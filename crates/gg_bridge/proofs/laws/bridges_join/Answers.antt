use Rattle.gg_bridge.proofs.EachLemmas.{each-can}
use Rattle.gg_bridge.proofs.laws.bridges_join.Goals as goal

pub returns : goal.returns
returns c = each-can
