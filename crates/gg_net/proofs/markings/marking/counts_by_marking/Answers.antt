use Rattle.std.proofs.Common.{sym}
use Rattle.gg_net.proofs.MarkingsLemmas.CountLemmas.{puts-are, takes-are, held-is, newest-is}
use Rattle.gg_net.proofs.markings.marking.counts_by_marking.Goals as goal

pub returns-clause-puts : goal.returns-clause-puts
returns-clause-puts c = λ net layout d has known. puts-are net layout has d known

pub returns-clause-takes : goal.returns-clause-takes
returns-clause-takes c = λ net layout d has known. takes-are net layout has d known

pub returns-clause-held : goal.returns-clause-held
returns-clause-held c = λ flow net layout d kept has known. sym (held-is net layout has flow kept d known)

pub returns-clause-newest : goal.returns-clause-newest
returns-clause-newest c = λ flow net d kept known some. newest-is flow net d kept known some
