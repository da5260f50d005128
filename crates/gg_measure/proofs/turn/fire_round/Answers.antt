use Rattle.std.proofs.Common.{arith, subst, sym}
use Rattle.gg_measure.specs.inside.Nets.{Goes}
use Rattle.gg_measure.proofs.GoLemmas.{goes-then}
use Rattle.gg_measure.proofs.TurnLemmas.{goes-count}
use Rattle.gg_measure.proofs.turn.fire_round.Goals as goal

pub fire_below-done-requires-clause-there : goal.fire_below-done-requires-clause-there
fire_below-done-requires-clause-there g c κs within =
    omega (arith, c.loop-machine-test.true, c.machines-count.ensures, goes-count c.args.cycle c.args.net.now c.loop-machine.net c.loop-machine.moved c.loop-machine.invariant)

pub loop-machine-preserved : goal.loop-machine-preserved
loop-machine-preserved g c =
    subst (λ b. Goes c.args.cycle c.args.net.now b c.fire_below-done.new.net) (sym c.either-moved.ensures)
    (goes-then c.args.cycle c.args.net.now c.loop-machine.net c.fire_below-done.new.net c.loop-machine.moved c.fire_below-done.result c.loop-machine.invariant c.fire_below-done.ensures)
