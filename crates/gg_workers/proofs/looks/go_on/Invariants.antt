use Rattle.std.proofs.Common.{◌≡◌, map}
use Rattle.gg_workers.specs.inside.LinkedHosts.{DoneAt, AreLinkedHosts}
use Rattle.gg_workers.specs.inside.Turns.{steps_of, machines_in, StepsTold}
use Rattle.gg_workers.proofs.looks.go_on.Given as goal

abbrev pub invariant-loop-next : goal.invariant-loop-next
invariant-loop-next g l = record {
  linked_hosts : AreLinkedHosts g.H.Host.machines l.threads (DoneAt g.L.Link.takes_from g.L.Link.puts_into g.L.Link.taking g.L.Link.putting g.Z.Streams.flow g.E.Era.start l.stations l.links l.upto) l.linked_hosts.items;
  numbers : map (λ b. b.number) l.linked_hosts.items ≡ map (λ b. b.number) l.initial.linked_hosts.items;
  told : StepsTold steps_of (machines_in g.H.Host.machines l.initial.linked_hosts.items) (machines_in g.H.Host.machines l.linked_hosts.items) l.stepped;
}
