use Rattle.gg_net.proofs.MarkingsLemmas.AgreeLemmas.{marked}
use Rattle.gg_net.proofs.MarkingsLemmas.GoesLemmas.{step-marks, step-frame}
use Rattle.gg_net.proofs.markings.marking.goes_by_marking.Goals as goal

pub returns-clause-refusals : goal.returns-clause-refusals
returns-clause-refusals c = λ flow net layout event kept has. marked flow net kept layout has event

pub returns-clause-step : goal.returns-clause-step
returns-clause-step c = λ flow old new layout event kept has step. step-marks flow old kept layout has event new step

pub returns-clause-frame : goal.returns-clause-frame
returns-clause-frame c = λ old new event step. step-frame old event new step
