use Rattle.gg_cut_reference.proofs.OneReference.{one-reference, one-start}
use Rattle.gg_cut_reference.proofs.laws.one_reference.Goals as goal

pub returns-clause-circuit : goal.returns-clause-circuit
returns-clause-circuit c = λ design request other is keeps held none other-none same. one-reference design request other is keeps held none other-none same

pub returns-clause-start : goal.returns-clause-start
returns-clause-start c = λ design request other is keeps held none other-none same alike. one-start design request other is keeps held none other-none same alike
