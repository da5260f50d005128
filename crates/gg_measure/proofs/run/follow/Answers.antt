use Rattle.std.proofs.Common.{arith}
use Rattle.gg_measure.proofs.RunLemmas.{run-then, run-up-to}
use Rattle.gg_measure.proofs.run.follow.Goals as goal

pub loop-preserved : goal.loop-preserved
loop-preserved g c =
    run-then c.args.cycle c.args.net.now c.loop.net c.pass.new.net c.loop.invariant
    (run-up-to c.args.cycle c.args.cycle c.loop.net c.pass.new.net c.pass.result (omega arith) c.pass.ensures.goes)

pub returns : goal.returns
returns g c =
    run-then c.args.cycle c.args.net.now c.loop.net c.pass.new.net c.loop.invariant
    (run-up-to c.args.cycle c.args.cycle c.loop.net c.pass.new.net c.pass.result (omega arith) c.pass.ensures.goes)
