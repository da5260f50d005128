use Rattle.gg_measure.specs.inside.Nets.{HasRun, net_left}
use Rattle.gg_measure.proofs.run.settle.Given as goal

abbrev pub invariant-loop : goal.invariant-loop
invariant-loop g l = HasRun l._cycle l.initial.net l.net

abbrev pub decreases-loop : goal.decreases-loop
decreases-loop g l = net_left l.net
