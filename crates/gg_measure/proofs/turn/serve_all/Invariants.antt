use Rattle.gg_measure.specs.inside.Nets.{IsAtWork, Goes, net_left}
use Rattle.gg_measure.proofs.turn.serve_all.Given as goal

abbrev pub invariant-loop-moved : goal.invariant-loop-moved
invariant-loop-moved g l = record { work : IsAtWork l.cycle l.machine l.net; goes : Goes l.cycle l.initial.net l.moved l.net }

abbrev pub decreases-loop-moved : goal.decreases-loop-moved
decreases-loop-moved g l = net_left l.net
