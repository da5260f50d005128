use Rattle.gg_measure.proofs.TurnLemmas.{channel-found}
use Rattle.gg_measure.proofs.tells.find_event.Goals as goal

pub loop-c-preserved : goal.loop-c-preserved
loop-c-preserved g c = channel-found c.args.net.now c.loop-c.c c.loop-c.invariant (c.in_default.ensures {u = tt})
