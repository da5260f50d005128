use Rattle.gg_cut_plan.proofs.OwnerLemmas.{OwnersSoFar}
use Rattle.gg_cut_plan.proofs.owners.fill_owners.Given as goal

abbrev pub invariant-loop-place : goal.invariant-loop-place
invariant-loop-place l = OwnersSoFar l.tree l.units l.place l.owners
