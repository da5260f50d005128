use Rattle.gg_snap.proofs.AllLemmas.{memories-kept}
use Rattle.gg_snap.proofs.HolderLemmas.{registers-held}
use Rattle.gg_snap.proofs.laws.plans_have_all.Goals as goal

pub returns-clause-registers : goal.returns-clause-registers
returns-clause-registers c = λ design request models default plan planned is keeps held none. registers-held design request models default plan planned is keeps none held

pub returns-clause-memories : goal.returns-clause-memories
returns-clause-memories c = λ design request models default plan planned is keeps held none. memories-kept design request models default plan planned keeps
