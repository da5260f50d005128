use Rattle.gg_cut_reference.proofs.TextLemmas.SameCutLemmas.{fault-same, whole-fault-same}
use Rattle.gg_cut_reference.proofs.text.laws.one_fault.Goals as goal

pub returns-clause-cut : goal.returns-clause-cut
returns-clause-cut c = λ one other request alike. fault-same one other alike request

pub returns-clause-whole : goal.returns-clause-whole
returns-clause-whole c = λ one other models request alike. whole-fault-same one other alike models request
