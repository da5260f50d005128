use Rattle.gg_bridge.proofs.RunLemmas.{front-run, model-run, driven}
use Rattle.gg_bridge.proofs.laws.joined_runs.Goals as goal

pub returns-clause-circuit : goal.returns-clause-circuit
returns-clause-circuit c = λ one front model sees drives start begin columns inputs n rows can formed is first second run given. front-run one front model sees drives can formed is start begin first second columns n rows run inputs given

pub returns-clause-model : goal.returns-clause-model
returns-clause-model c = λ one front model sees drives start begin columns inputs n rows can formed is first second run given. model-run one front model sees drives can formed is start begin first second columns n rows run inputs given

pub returns-clause-driven : goal.returns-clause-driven
returns-clause-driven c = λ one front model sees drives start begin columns n rows i can formed is first second run lt. driven one front model sees drives can formed is start begin first second columns n rows run i lt
