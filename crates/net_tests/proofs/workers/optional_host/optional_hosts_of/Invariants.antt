use Rattle.std.proofs.Common.{◌≡◌, [], map}
use Rattle.std.specs.Option.{option_map_or}
use Rattle.net_tests.proofs.workers.optional_host.optional_hosts_of.Given as goal

abbrev pub invariant-loop-host : goal.invariant-loop-host
invariant-loop-host g l = map (λ optional. option_map_or g.H.Host.machines optional.host []) l.all.items ≡ map g.H.Host.machines l.yielded
