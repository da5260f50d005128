use Rattle.gg_workers.specs.inside.LinkedHosts.{ReadyAt, DoneAt}
use Rattle.gg_workers.specs.inside.Turns.{steps_of, machines_in, StepsTold}
use Rattle.gg_workers.proofs.TurnLemmas.{ArePassing, done-ready}
use Rattle.gg_workers.proofs.turns.pass_all.Given as goal

abbrev pub invariant-loop-k : goal.invariant-loop-k
invariant-loop-k g l =
    ArePassing g.H.Host.machines l.threads (ReadyAt g.L.Link.takes_from g.L.Link.puts_into g.L.Link.taking g.L.Link.putting g.Z.Streams.flow g.E.Era.start l.stations l.links l.upto)
    (DoneAt g.L.Link.takes_from g.L.Link.puts_into g.L.Link.taking g.L.Link.putting g.Z.Streams.flow g.E.Era.start l.stations l.links l.upto)
    (done-ready g.L.Link.takes_from g.L.Link.puts_into g.L.Link.taking g.L.Link.putting g.Z.Streams.flow g.E.Era.start l.stations l.links l.upto)
    l.k l.initial.linked_hosts.items l.linked_hosts.items
    × StepsTold steps_of (machines_in g.H.Host.machines l.initial.linked_hosts.items) (machines_in g.H.Host.machines l.linked_hosts.items) l.stepped
