use Rattle.gg_measure.proofs.TurnLemmas.{served-one}
use Rattle.gg_measure.proofs.turn.serve_next.Goals as goal

pub returns : goal.returns
returns g c = served-one g.Z.Streams.flow c.args._cycle c.args.machine c.args.net.now c.serve_due.new.net c.kept.ensures c.requires c.serve_due.result c.serve_due.ensures
