use Rattle.gg_measure.specs.inside.Turns.{HasGoneRound}
use Rattle.gg_measure.proofs.turn.round.Given as goal

abbrev pub invariant-loop-machine : goal.invariant-loop-machine
invariant-loop-machine g l = HasGoneRound l.cycle l.machine l.initial.net l.moved l.net
