use Rattle.net_tests.proofs.links.threads.take_all.Given as goal

abbrev pub invariant-loop : goal.invariant-loop
invariant-loop g l = g.L.Link.takes_from l.link l.seat
