use Rattle.std.proofs.Common.{◌≡◌}
use Rattle.net_tests.proofs.links.calls.play.Given as goal

abbrev pub invariant-loop-call : goal.invariant-loop-call
invariant-loop-call g l =
    g.L.Link.puts_into l.link l.put × ((g.L.Link.putting l.put).stream ≡ l.values) × ((g.L.Link.putting l.put).count ≡ l.puts)
    × ((g.L.Link.putting l.put).capacity ≡ (g.L.Link.putting l.initial.put).capacity)
    × g.L.Link.takes_from l.link l.take
