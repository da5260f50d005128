use Rattle.gg_read.proofs.FaultLines.{one_circuit-law}
use Rattle.gg_read.proofs.laws.one_circuit.Goals as goal

pub returns : goal.returns
returns c = one_circuit-law
