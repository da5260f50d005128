use Rattle.gg_snap.proofs.PipeLemmas.{AreFilled}
use Rattle.gg_snap.proofs.pipes.fill.Given as goal

abbrev pub invariant-loop-c : goal.invariant-loop-c
invariant-loop-c l = AreFilled l.channels l.tokens l.c l.initial.pipes l.pipes
