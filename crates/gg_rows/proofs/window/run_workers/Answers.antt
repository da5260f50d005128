use Rattle.gg_rows.proofs.WindowLemmas.{worked}
use Rattle.gg_rows.proofs.window.run_workers.Goals as goal

pub returns-clause-within : goal.returns-clause-within
returns-clause-within g c = worked c.args.workers c.args.upto g.Z.Streams.flow c.args.net c.work.result c.work.ensures.later c.work.ensures.none
