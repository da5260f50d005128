use Rattle.gg_bridge.proofs.PartLemmas.{front-part, model-part}
use Rattle.gg_bridge.proofs.laws.joined_parts.Goals as goal

pub returns-clause-circuit : goal.returns-clause-circuit
returns-clause-circuit c = λ one front model sees drives can formed. front-part one front model sees drives can formed

pub returns-clause-model : goal.returns-clause-model
returns-clause-model c = λ one front model sees drives named is. model-part one front model sees drives named is.formed is.clocks
