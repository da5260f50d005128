use Rattle.gg_measure.proofs.RunLemmas.{tried-goes}
use Rattle.gg_measure.proofs.pass.try_below.Goals as goal

pub returns : goal.returns
returns g c = tried-goes c.args.cycle c.args.event c.args.net.now c.step_below.new.self c.step_below.result c.step_below.ensures
