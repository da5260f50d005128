use Rattle.gg_front.proofs.AgreementLemmas.{faults-agree}
use Rattle.gg_front.proofs.laws.one_fault.Goals as goal

pub returns : goal.returns
returns c = faults-agree c.one_circuit.ensures c.one_fault_line.ensures
