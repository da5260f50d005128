use Rattle.gg_net.proofs.MarkingsLemmas.OpeningLemmas.{none-put, opens-so}
use Rattle.gg_net.proofs.markings.marking.opens_with_marking.Goals as goal

pub returns-clause-marking : goal.returns-clause-marking
returns-clause-marking c = λ flow machines wires end layout opening has. opens-so flow machines wires end opening layout has

pub returns-clause-none : goal.returns-clause-none
returns-clause-none c = λ flow machines wires end d opening there. none-put flow machines wires end opening d there
