use Rattle.gg_measure.proofs.RunLemmas.{run-then}
use Rattle.gg_measure.proofs.run.note.Goals as goal

pub returns : goal.returns
returns g c =
    run-then c.args.cycle c.args.net.now c.begin_cycle.new.net c.settle-2.new.net
    (run-then c.args.cycle c.args.net.now c.settle.new.net c.begin_cycle.new.net c.settle.ensures c.begin_cycle.ensures)
    c.settle-2.ensures
