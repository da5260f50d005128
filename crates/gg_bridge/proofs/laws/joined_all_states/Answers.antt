use Rattle.gg_bridge.proofs.StateLemmas.{states-all, zeros-all}
use Rattle.gg_bridge.proofs.laws.joined_all_states.Goals as goal

pub returns-clause-typed : goal.returns-clause-typed
returns-clause-typed c = states-all

pub returns-clause-zeros : goal.returns-clause-zeros
returns-clause-zeros c = zeros-all
