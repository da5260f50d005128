use Rattle.gg_read.proofs.FaultLines.{one_fault_line-law}
use Rattle.gg_read.proofs.laws.one_fault_line.Goals as goal

pub returns : goal.returns
returns c = one_fault_line-law
