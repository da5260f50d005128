use Rattle.gg_tape.specs.inside.Told.{TellsTo}
use Rattle.gg_tape.proofs.tell.tell.Given as goal

abbrev pub invariant-loop-k : goal.invariant-loop-k
invariant-loop-k l = TellsTo l.nodes l.signals 0 l.k l.fn.instructions.items l.fn.literals.items l.instructions.items l.literals.items
