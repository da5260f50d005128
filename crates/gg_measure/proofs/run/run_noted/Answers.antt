use Rattle.gg_measure.proofs.RunLemmas.{run-then, within-run, frame-run, end-run, above-run}
use Rattle.gg_measure.proofs.run.run_noted.Goals as goal

pub run_to-requires-clause-within : goal.run_to-requires-clause-within
run_to-requires-clause-within g c κs within = end-run g.Z.Streams.flow c.args.cycle c.args.net.now c.follow.new.net c.kept.ensures c.follow.ensures c.requires.within

pub run_to-requires-clause-none_above : goal.run_to-requires-clause-none_above
run_to-requires-clause-none_above g c κs within = above-run g.Z.Streams.flow c.args.cycle c.args.net.now c.follow.new.net c.kept.ensures c.follow.ensures c.requires.none_above

pub returns-clause-steps : goal.returns-clause-steps
returns-clause-steps g c = run-then c.args.cycle c.args.net.now c.follow.new.net c.run_to.new.net c.follow.ensures c.run_to.ensures.steps

pub returns-clause-bounds : goal.returns-clause-bounds
returns-clause-bounds g c =
    within-run g.Z.Streams.flow c.args.cycle c.args.net.now c.run_to.new.net c.kept.ensures
    (run-then c.args.cycle c.args.net.now c.follow.new.net c.run_to.new.net c.follow.ensures c.run_to.ensures.steps)

pub returns-clause-frame : goal.returns-clause-frame
returns-clause-frame g c =
    frame-run g.Z.Streams.flow c.args.cycle c.args.net.now c.run_to.new.net c.kept.ensures
    (run-then c.args.cycle c.args.net.now c.follow.new.net c.run_to.new.net c.follow.ensures c.run_to.ensures.steps)
