use Rattle.gg_order.proofs.LoopLemmas.{IsLeastBelow}
use Rattle.gg_order.proofs.loops.least_place.Given as goal

abbrev pub invariant-loop-i : goal.invariant-loop-i
invariant-loop-i l = IsLeastBelow l.piece.paths l.signals l.i l.least
