use Rattle.std.proofs.Common.{◌+◌, arith, subst, sym}
use Rattle.gg_measure.specs.inside.Turns.{HasGoneRound}
use Rattle.gg_measure.proofs.TurnLemmas.{more-round, goes-count}
use Rattle.gg_measure.proofs.turn.round.Goals as goal

pub turn_below-done-requires-clause-there : goal.turn_below-done-requires-clause-there
turn_below-done-requires-clause-there g c κs within =
    omega (arith, c.loop-machine-test.true, c.machines-count.ensures, goes-count c.args.cycle c.args.net.now c.loop-machine.net c.loop-machine.moved c.loop-machine.invariant.goes)

pub loop-machine-preserved : goal.loop-machine-preserved
loop-machine-preserved g c =
    subst (λ b. HasGoneRound c.args.cycle (c.loop-machine.machine + 1) c.args.net.now b c.turn_below-done.new.net) (sym c.either-moved.ensures)
    (more-round c.args.cycle c.loop-machine.machine c.args.net.now c.loop-machine.net c.turn_below-done.new.net c.loop-machine.moved c.turn_below-done.result c.loop-machine.invariant c.turn_below-done.ensures.goes c.turn_below-done.ensures.idle)
