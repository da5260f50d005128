use Rattle.gg_net.specs.inside.Net.{AreOpen}
use Rattle.gg_net.proofs.net.open_queues.Given as goal

abbrev pub invariant-loop-wire : goal.invariant-loop-wire
invariant-loop-wire l = AreOpen l.wires l.wire-index l.queues.items
