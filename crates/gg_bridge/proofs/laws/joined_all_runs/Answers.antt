use Rattle.gg_bridge.proofs.AllLemmas.{all-runs}
use Rattle.gg_bridge.proofs.laws.joined_all_runs.Goals as goal

pub returns : goal.returns
returns c = all-runs
