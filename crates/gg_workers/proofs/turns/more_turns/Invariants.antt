use Rattle.std.proofs.Common.{◌≡◌, ◌+◌, ◌*◌, ◌≤◌, map}
use Rattle.gg_workers.specs.inside.LinkedHosts.{DoneAt, AreLinkedHosts}
use Rattle.gg_workers.specs.inside.Turns.{steps_of, machines_in}
use Rattle.gg_workers.proofs.turns.more_turns.Given as goal

abbrev pub invariant-loop-turn : goal.invariant-loop-turn
invariant-loop-turn g l =
    AreLinkedHosts g.H.Host.machines l.threads (DoneAt g.L.Link.takes_from g.L.Link.puts_into g.L.Link.taking g.L.Link.putting g.Z.Streams.flow g.E.Era.start l.stations l.links l.upto) l.linked_hosts.items
    × (map (λ b. b.number) l.linked_hosts.items ≡ map (λ b. b.number) l.initial.linked_hosts.items)
    × (steps_of (machines_in g.H.Host.machines l.initial.linked_hosts.items) ≤ steps_of (machines_in g.H.Host.machines l.linked_hosts.items))
    × (l.turn + l.idle_before + 1024 * steps_of (machines_in g.H.Host.machines l.initial.linked_hosts.items) ≤ 1024 * steps_of (machines_in g.H.Host.machines l.linked_hosts.items) + l.idle + 1)
    × (l.idle ≤ 1024)
    × (l.idle ≤ l.turn)
