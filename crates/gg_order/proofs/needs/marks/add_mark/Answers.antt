use Rattle.gg_order.proofs.NeedsLemmas.AddLemmas.{Adds-one}
use Rattle.gg_order.proofs.needs.marks.add_mark.Goals as goal

pub returns : goal.returns
returns c = Adds-one c.args.added c.args.signal c.args.marks.now c.requires
