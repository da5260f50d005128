use Rattle.std.proofs.Common.{◌+◌, arith, subst, sym}
use Rattle.gg_net.specs.declared.event.Event.TheVariants.{Latch}
use Rattle.gg_net.specs.Network.{IsAtIn}
use Rattle.gg_measure.specs.inside.Turns.{HasTried}
use Rattle.gg_measure.proofs.TurnLemmas.{latch-tried, all-latched, goes-ins}
use Rattle.gg_measure.proofs.turn.latch_all.Goals as goal

pub in_channel-channel-requires-clause-within : goal.in_channel-channel-requires-clause-within
in_channel-channel-requires-clause-within g c κs within =
    omega (arith, c.loop-place-test.true, c.in_count-count.ensures, goes-ins c.args._cycle c.args.net.now c.loop-place.net c.loop-place.moved c.loop-place.invariant.goes c.args.machine)

pub loop-place-preserved : goal.loop-place-preserved
loop-place-preserved g c =
    subst (λ b. HasTried (λ d. Latch d) IsAtIn c.args._cycle c.args.machine (c.loop-place.place + 1) c.args.net.now b c.attempt_noted-done.new.net) (sym c.either-moved.ensures)
    (latch-tried g.Z.Streams.flow c.args._cycle c.args.machine c.loop-place.place c.in_channel-channel.result c.args.net.now c.loop-place.net c.attempt_noted-done.new.net c.loop-place.moved c.attempt_noted-done.result c.kept-in-loop-place.ensures
    c.loop-place.invariant c.in_channel-channel.ensures c.attempt_noted-done.ensures)

pub returns-clause-none : goal.returns-clause-none
returns-clause-none g c =
    all-latched g.Z.Streams.flow c.args._cycle c.args.machine c.loop-place.place c.args.net.now c.loop-place.net c.loop-place.moved c.kept.ensures (omega (arith, c.in_count-count.ensures)) c.loop-place.invariant
