use Rattle.gg_net.specs.declared.event.Event.TheVariants.{Fire}
use Rattle.gg_net.specs.Network.{IsAtOut}
use Rattle.gg_measure.specs.inside.Turns.{HasTried}
use Rattle.gg_measure.proofs.turn.fire_all.Given as goal

abbrev pub invariant-loop-place : goal.invariant-loop-place
invariant-loop-place g l = HasTried (λ c. Fire c) IsAtOut l._cycle l.machine l.place l.initial.net l.moved l.net
