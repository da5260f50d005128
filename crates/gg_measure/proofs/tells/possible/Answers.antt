use Rattle.gg_measure.proofs.TurnLemmas.{found-told}
use Rattle.gg_measure.proofs.tells.possible.Goals as goal

pub returns : goal.returns
returns g c = found-told g.Z.Streams.flow c.args.net.now c.kept.ensures c.find_event.result c.find_event.ensures
