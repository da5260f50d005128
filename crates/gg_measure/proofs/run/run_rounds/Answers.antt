use Rattle.std.proofs.Common.{◌||◌}
use Rattle.gg_measure.proofs.GoLemmas.{goes-then}
use Rattle.gg_measure.proofs.TurnLemmas.{run-ends, run-bounds, run-frame}
use Rattle.gg_measure.proofs.run.run_rounds.Goals as goal

pub loop-preserved : goal.loop-preserved
loop-preserved g c =
    record {
      moved = c.loop.invariant.moved || c.go_round.result;
      goes = goes-then c.args.cycle c.args.net.now c.loop.net c.go_round.new.net c.loop.invariant.moved c.go_round.result c.loop.invariant.goes c.go_round.ensures.round.goes;
    }

pub returns-clause-there : goal.returns-clause-there
returns-clause-there g c =
    run-ends g.Z.Streams.flow c.args.cycle c.args.net.now c.loop.net c.go_round.new.net c.loop.invariant.moved c.go_round.result c.kept.ensures c.loop.invariant.goes c.go_round.ensures.round
    c.if-not-go_round.true c.kept-2.ensures c.requires.within c.requires.none_above

pub returns-clause-bounds : goal.returns-clause-bounds
returns-clause-bounds g c =
    run-bounds g.Z.Streams.flow c.args.cycle c.args.net.now c.loop.net c.go_round.new.net c.loop.invariant.moved c.go_round.result c.kept.ensures c.loop.invariant.goes c.go_round.ensures.round

pub returns-clause-frame : goal.returns-clause-frame
returns-clause-frame g c =
    run-frame g.Z.Streams.flow c.args.cycle c.args.net.now c.loop.net c.go_round.new.net c.loop.invariant.moved c.go_round.result c.kept.ensures c.loop.invariant.goes c.go_round.ensures.round
