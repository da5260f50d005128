use Rattle.gg_cut_plan.proofs.KnownLemmas.{parents-before}
use Rattle.gg_cut_rules.proofs.verdict.check_entries.Goals as goal

pub none_overlap-requires-clause-parents : goal.none_overlap-requires-clause-parents
none_overlap-requires-clause-parents c = parents-before c.args._piece.now c.args.tree.now c.requires.fitting
