use Rattle.gg_tape.proofs.RunLemmas.{IsRunning}
use Rattle.gg_tape.proofs.run.run.Given as goal

abbrev pub invariant-loop-instruction : goal.invariant-loop-instruction
invariant-loop-instruction l = IsRunning l._signals l.literals l.instructions l.fn.cells.items l.instruction-index l.cells.items l.value
