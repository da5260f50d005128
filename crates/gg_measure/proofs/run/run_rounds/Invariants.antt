use Rattle.std.proofs.Common.{Bool}
use Rattle.gg_measure.specs.inside.Nets.{Goes, net_left}
use Rattle.gg_measure.proofs.run.run_rounds.Given as goal

abbrev pub invariant-loop : goal.invariant-loop
invariant-loop g l = record { moved : Bool; goes : Goes l.cycle l.initial.net moved l.net }

abbrev pub decreases-loop : goal.decreases-loop
decreases-loop g l = net_left l.net
