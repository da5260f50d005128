use Rattle.gg_measure.proofs.WayLemmas.{steps-up}
use Rattle.gg_measure.proofs.laws.steps_up.Goals as goal

pub returns : goal.returns
returns c = λ flow old layout kept by goal goal_kept same le. steps-up flow old goal layout kept goal_kept same by le
