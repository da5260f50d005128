use Rattle.gg_measure.proofs.RunLemmas.{run-then, run-up-to}
use Rattle.gg_measure.proofs.run.settle.Goals as goal

pub loop-preserved : goal.loop-preserved
loop-preserved g c =
    run-then c.args._cycle c.args.net.now c.loop.net c.go_round.new.net c.loop.invariant
    (run-up-to c.args.upto c.args._cycle c.loop.net c.go_round.new.net c.go_round.result c.requires c.go_round.ensures.round.goes)

pub returns : goal.returns
returns g c =
    run-then c.args._cycle c.args.net.now c.loop.net c.go_round.new.net c.loop.invariant
    (run-up-to c.args.upto c.args._cycle c.loop.net c.go_round.new.net c.go_round.result c.requires c.go_round.ensures.round.goes)
