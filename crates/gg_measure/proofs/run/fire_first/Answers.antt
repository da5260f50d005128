use Rattle.gg_measure.proofs.RunLemmas.{run-up-to}
use Rattle.gg_measure.proofs.run.fire_first.Goals as goal

pub returns : goal.returns
returns g c = run-up-to c.args.upto c.args._cycle c.args.net.now c.fire_round.new.net c.fire_round.result c.requires c.fire_round.ensures
