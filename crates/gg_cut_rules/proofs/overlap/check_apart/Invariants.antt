use Rattle.gg_cut_plan.proofs.ChainLemmas.{Apart}
use Rattle.gg_cut_rules.proofs.overlap.check_apart.Given as goal

abbrev pub invariant-loop-path : goal.invariant-loop-path
invariant-loop-path l = Apart l.tree l.units l.path-index l.own l.above
