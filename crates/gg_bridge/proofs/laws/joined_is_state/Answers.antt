use Rattle.gg_bridge.proofs.StateLemmas.{state-joined, opening-joined}
use Rattle.gg_bridge.proofs.laws.joined_is_state.Goals as goal

pub returns-clause-typed : goal.returns-clause-typed
returns-clause-typed c = λ one front model sees drives state begin first second. state-joined one front model sees drives state begin first second

pub returns-clause-zeros : goal.returns-clause-zeros
returns-clause-zeros c = λ one front model sees drives. opening-joined one front model sees drives
