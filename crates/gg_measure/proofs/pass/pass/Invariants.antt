use Rattle.gg_measure.specs.inside.Nets.{Goes}
use Rattle.gg_measure.proofs.pass.pass.Given as goal

abbrev pub invariant-loop-event : goal.invariant-loop-event
invariant-loop-event g l = Goes l.cycle l.initial.net l.moved l.net
