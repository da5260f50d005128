use Rattle.gg_measure.proofs.RunLemmas.{within-run, frame-run}
use Rattle.gg_measure.proofs.run.note_cycle.Goals as goal

pub returns-clause-bounds : goal.returns-clause-bounds
returns-clause-bounds g c = within-run g.Z.Streams.flow c.args.cycle c.args.net.now c.note_first.new.net c.kept.ensures c.note_first.ensures

pub returns-clause-frame : goal.returns-clause-frame
returns-clause-frame g c = frame-run g.Z.Streams.flow c.args.cycle c.args.net.now c.note_first.new.net c.kept.ensures c.note_first.ensures
