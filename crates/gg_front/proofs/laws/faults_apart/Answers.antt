use Rattle.gg_front.proofs.FaultLemmas.{text-told, read-told}
use Rattle.gg_front.proofs.laws.faults_apart.Goals as goal

pub returns-clause-accepted : goal.returns-clause-accepted
returns-clause-accepted c = text-told c.one_circuit.ensures

pub returns-clause-read : goal.returns-clause-read
returns-clause-read c = read-told
