use Rattle.std.proofs.Common.{◌≡◌, length, map, take}
use Rattle.gg_workers.proofs.setup.thread_counts.Given as goal

abbrev pub invariant-loop-host : goal.invariant-loop-host
invariant-loop-host g l = l.counts.items ≡ map (λ machines. length machines) (map g.H.Host.machines (take l.host-index l.hosts))
