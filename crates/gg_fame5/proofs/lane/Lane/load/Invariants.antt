use Rattle.gg_fame5.proofs.LaneLemmas.{IsLoading}
use Rattle.gg_fame5.proofs.lane.Lane.load.Given as goal

abbrev pub invariant-loop-i : goal.invariant-loop-i
invariant-loop-i l = IsLoading l.program.circuit l.self l.i l.slots
