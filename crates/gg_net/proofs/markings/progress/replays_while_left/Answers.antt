use Rattle.gg_net.proofs.MarkingsLemmas.ReplayLemmas.{replayed-kept, left-longer, longer-left}
use Rattle.gg_net.proofs.markings.progress.replays_while_left.Goals as goal
use Rattle.std.proofs.Common.{Some}

pub returns-clause-count : goal.returns-clause-count
returns-clause-count c = λ layout k old new events can shape allowed is. (replayed-kept layout can k old events new shape allowed is).2

pub returns-clause-longer : goal.returns-clause-longer
returns-clause-longer c = λ layout k old new events can shape allowed is. (
  λ lt. let more = left-longer layout can k old events new shape allowed is lt in (Some more.0, more.1, more.2),
  λ more. longer-left layout can k old events new shape allowed is more.0 more.1 more.2,
)
