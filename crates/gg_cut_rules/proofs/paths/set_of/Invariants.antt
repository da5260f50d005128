use Rattle.gg_cut_plan.proofs.PathLemmas.{Includes}
use Rattle.gg_cut_rules.proofs.paths.set_of.Given as goal

abbrev pub invariant-loop-path : goal.invariant-loop-path
invariant-loop-path l = Includes l.paths l.path-index l.set
