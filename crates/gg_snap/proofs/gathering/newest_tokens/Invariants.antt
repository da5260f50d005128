use Rattle.std.proofs.Common.{◌≡◌}
use Rattle.gg_snap.specs.inside.Gathered.{newest_tokens}
use Rattle.gg_snap.proofs.gathering.newest_tokens.Given as goal

abbrev pub invariant-loop-c : goal.invariant-loop-c
invariant-loop-c g l = l.tokens.items ≡ newest_tokens l.net.queues l.c
