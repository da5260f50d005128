use Rattle.gg_measure.proofs.AtLemmas.{at-once}
use Rattle.gg_measure.proofs.CountWays.{reached-exactly}
use Rattle.gg_measure.proofs.laws.reached_exactly.Goals as goal

pub returns-clause-exactly : goal.returns-clause-exactly
returns-clause-exactly c = λ flow old layout kept has opens new counts. (
  (λ may. (reached-exactly flow old new layout counts kept has opens).0 (may.0.0, may.0.1, may.1)),
  (λ led. let may = (reached-exactly flow old new layout counts kept has opens).1 led in ((may.0, may.1), may.2)),
)

pub returns-clause-one : goal.returns-clause-one
returns-clause-one c = λ flow frame counts one other sound is was. at-once flow frame sound counts one other is was
