use Rattle.std.proofs.Common.{subst, sym}
use Rattle.gg_measure.specs.inside.Nets.{Goes}
use Rattle.gg_measure.proofs.GoLemmas.{goes-then, goes-falls}
use Rattle.gg_measure.proofs.pass.pass.Goals as goal

pub loop-event-preserved : goal.loop-event-preserved
loop-event-preserved g c =
    subst (λ b. Goes c.args.cycle c.args.net.now b c.try_below-done.new.net) (sym c.either-moved.ensures)
    (goes-then c.args.cycle c.args.net.now c.loop-event.net c.try_below-done.new.net c.loop-event.moved c.try_below-done.result c.loop-event.invariant c.try_below-done.ensures)

pub returns-clause-falls : goal.returns-clause-falls
returns-clause-falls g c = λ is. goes-falls g.Z.Streams.flow c.args.cycle c.args.net.now c.loop-event.net c.kept.ensures (subst (λ b. Goes c.args.cycle c.args.net.now b c.loop-event.net) is c.loop-event.invariant)
