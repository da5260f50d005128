use Rattle.std.proofs.Common.{◌+◌, arith, subst, sym}
use Rattle.gg_net.specs.declared.event.Event.TheVariants.{Fire}
use Rattle.gg_net.specs.Network.{IsAtOut}
use Rattle.gg_measure.specs.inside.Turns.{HasTried}
use Rattle.gg_measure.proofs.TurnLemmas.{fire-tried, all-fired, goes-outs}
use Rattle.gg_measure.proofs.turn.fire_all.Goals as goal

pub out_channel-channel-requires-clause-within : goal.out_channel-channel-requires-clause-within
out_channel-channel-requires-clause-within g c κs within =
    omega (arith, c.loop-place-test.true, c.out_count-count.ensures, goes-outs c.args._cycle c.args.net.now c.loop-place.net c.loop-place.moved c.loop-place.invariant.goes c.args.machine)

pub loop-place-preserved : goal.loop-place-preserved
loop-place-preserved g c =
    subst (λ b. HasTried (λ d. Fire d) IsAtOut c.args._cycle c.args.machine (c.loop-place.place + 1) c.args.net.now b c.attempt_noted-done.new.net) (sym c.either-moved.ensures)
    (fire-tried g.Z.Streams.flow c.args._cycle c.args.machine c.loop-place.place c.out_channel-channel.result c.args.net.now c.loop-place.net c.attempt_noted-done.new.net c.loop-place.moved c.attempt_noted-done.result c.kept-in-loop-place.ensures
    c.loop-place.invariant c.out_channel-channel.ensures c.attempt_noted-done.ensures)

pub returns-clause-none : goal.returns-clause-none
returns-clause-none g c =
    all-fired g.Z.Streams.flow c.args._cycle c.args.machine c.loop-place.place c.args.net.now c.loop-place.net c.loop-place.moved c.kept.ensures (omega (arith, c.out_count-count.ensures)) c.loop-place.invariant
