use Rattle.gg_measure.specs.inside.Turns.{HasServedOne}
use Rattle.gg_measure.proofs.TurnLemmas.{served-more}
use Rattle.gg_measure.proofs.turn.serve_all.Goals as goal

pub loop-moved-preserved : goal.loop-moved-preserved
loop-moved-preserved g c =
    let one : HasServedOne c.args.cycle c.args.machine c.loop-moved.net c.serve_next.new.net = c.loop-moved-test.ensures {u = tt} in
    record { work = one.work; goes = served-more c.args.cycle c.args.machine c.args.net.now c.loop-moved.net c.serve_next.new.net c.loop-moved.moved c.loop-moved.invariant.goes one }
