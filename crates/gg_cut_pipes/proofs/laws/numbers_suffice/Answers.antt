use Rattle.gg_cut_pipes.proofs.FewLemmas.{few-machines, few-states}
use Rattle.gg_cut_pipes.proofs.laws.numbers_suffice.Goals as goal

pub returns-clause-machines : goal.returns-clause-machines
returns-clause-machines c = few-machines

pub returns-clause-registers : goal.returns-clause-registers
returns-clause-registers c = few-states
