use Rattle.std.proofs.Common.{sym}
use Rattle.gg_bits.proofs.PathLemmas.{slice_get-position, missing-path}
use Rattle.gg_bits.proofs.paths.Paths.find.Goals as goal

pub returns-in-Some-clause-found : goal.returns-in-Some-clause-found
returns-in-Some-clause-found c = rw (← c.self.view_is) (slice_get-position _ _ _ (sym c.in-Some.ensures.index))

pub returns-in-None-clause-missing : goal.returns-in-None-clause-missing
returns-in-None-clause-missing c = rw (← c.self.view_is) (missing-path _ _ (sym c.in-None.ensures.found))
