use Rattle.gg_order.proofs.RunsLemmas.LateLemmas.{BanksSoFar}
use Rattle.gg_order.proofs.runs.state.next_contents.Given as goal

abbrev pub invariant-loop-m : goal.invariant-loop-m
invariant-loop-m l = BanksSoFar l.edges l.signals l.memories l.initial.banks l.m l.banks
