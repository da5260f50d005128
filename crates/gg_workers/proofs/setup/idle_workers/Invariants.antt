use Rattle.gg_workers.specs.inside.Making.{AreIdle}
use Rattle.gg_workers.proofs.setup.idle_workers.Given as goal

abbrev pub invariant-loop : goal.invariant-loop
invariant-loop g l = AreIdle l.counter l.hosts l.workers.items
