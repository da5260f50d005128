-- proofs/bank/read_words/Invariants.antt
use Rattle.gg_order.proofs.RunsLemmas.LateLemmas.{Found}
use Rattle.gg_order.proofs.runs.bank.read_words.Given as goal

abbrev pub invariant-loop-r : goal.invariant-loop-r
invariant-loop-r l = Found l.edges l.signals l.words l.readers l.initial.reads l.r l.reads
