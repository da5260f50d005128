use Rattle.gg_cut_plan.proofs.PathLemmas.{look-up}
use Rattle.gg_cut_rules.proofs.bridges.signal_of.Goals as goal

pub returns-clause-place : goal.returns-clause-place
returns-clause-place c = look-up c.args.piece.now.paths c.args.port.now c.find.result c.signal_count.ensures.distinct c.find.ensures.found c.find.ensures.missing
