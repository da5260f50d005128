use Rattle.std.proofs.Common.{◌≡◌}
use Rattle.net_tests.proofs.links.threads.put_all.Given as goal

abbrev pub invariant-loop : goal.invariant-loop
invariant-loop g l =
    g.L.Link.puts_into l.link l.seat × ((g.L.Link.putting l.seat).stream ≡ l.values) × ((g.L.Link.putting l.seat).count ≡ l.next)
    × ((g.L.Link.putting l.seat).capacity ≡ (g.L.Link.putting l.initial.seat).capacity)
