use Rattle.std.proofs.Common.{◌≡◌, map}
use Rattle.net_tests.proofs.notes.noting_hosts.Given as goal

abbrev pub invariant-loop-host : goal.invariant-loop-host
invariant-loop-host g l = map (λ noting. g.H.Host.machines noting.host) l.all.items ≡ map g.H.Host.machines l.yielded
