use Rattle.gg_measure.specs.inside.Nets.{Goes}
use Rattle.gg_measure.proofs.turn.fire_round.Given as goal

abbrev pub invariant-loop-machine : goal.invariant-loop-machine
invariant-loop-machine g l = Goes l.cycle l.initial.net l.moved l.net
