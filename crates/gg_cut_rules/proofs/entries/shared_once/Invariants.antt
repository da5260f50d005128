use Rattle.gg_cut_plan.proofs.FindLemmas.{SeenGroups}
use Rattle.gg_cut_rules.proofs.entries.shared_once.Given as goal

abbrev pub invariant-loop-group : goal.invariant-loop-group
invariant-loop-group l = SeenGroups l.share l.group-index l.seen
