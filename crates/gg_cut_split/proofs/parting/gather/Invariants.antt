use Rattle.gg_cut_split.proofs.GatherLemmas.{GatheredTo}
use Rattle.gg_cut_split.proofs.parting.gather.Given as goal

abbrev pub invariant-loop-machine : goal.invariant-loop-machine
invariant-loop-machine l = GatheredTo l.initial.globals l.initial.memories l.machine l.globals l.memories l.shares.items
