use Rattle.gg_cut_plan.proofs.PathLemmas.{look-up}
use Rattle.gg_cut_rules.proofs.paths.instance.Goals as goal

pub returns : goal.returns
returns c = look-up c.args.tree.now.paths c.args.path.now c.find.result c.len.ensures.distinct c.find.ensures.found c.find.ensures.missing
