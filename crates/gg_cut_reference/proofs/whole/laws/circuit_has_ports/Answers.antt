use Rattle.gg_cut_reference.proofs.WholeLemmas.PortLemmas.{plan-ins, plan-outs, plan-clocks}
use Rattle.gg_cut_reference.proofs.whole.laws.circuit_has_ports.Goals as goal

pub returns-clause-ins : goal.returns-clause-ins
returns-clause-ins c = λ design request models can. plan-ins design request models can

pub returns-clause-outs : goal.returns-clause-outs
returns-clause-outs c = λ design request models can. plan-outs design request models can

pub returns-clause-clocks : goal.returns-clause-clocks
returns-clause-clocks c = λ design request models can. plan-clocks design request models can
