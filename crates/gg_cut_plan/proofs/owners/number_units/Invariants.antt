use Rattle.gg_cut_plan.proofs.OwnerLemmas.{Numbered}
use Rattle.gg_cut_plan.proofs.owners.number_units.Given as goal

abbrev pub invariant-loop-number : goal.invariant-loop-number
invariant-loop-number l = Numbered l.units l.number l.initial.owners l.owners
