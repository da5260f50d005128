use Rattle.gg_measure.proofs.CountWays.{made-by, made-exactly}
use Rattle.gg_measure.proofs.laws.made_by_counts.Goals as goal

pub returns-clause-up : goal.returns-clause-up
returns-clause-up c = λ flow old layout kept has counts allowed le. made-by flow old layout counts kept has allowed le

pub returns-clause-exactly : goal.returns-clause-exactly
returns-clause-exactly c = λ flow old layout kept has opens counts. made-exactly flow old layout counts kept has opens
