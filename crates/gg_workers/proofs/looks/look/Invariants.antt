use Rattle.std.proofs.Common.{◌≡◌}
use Rattle.gg_workers_pass.specs.inside.Pass.{HasSeatsAt}
use Rattle.gg_workers.proofs.looks.look.Given as goal

abbrev pub invariant-loop : goal.invariant-loop
invariant-loop g l = record {
  machine : l.machine_seats.machine ≡ l.initial.machine_seats.machine;
  seats : HasSeatsAt g.L.Link.takes_from g.L.Link.puts_into g.L.Link.taking g.L.Link.putting g.Z.Streams.flow g.E.Era.start l.links l.initial.machine_seats.machine l.station (g.H.Host.machines l.host) l.machine_seats;
  same : g.H.Host.machines l.host ≡ g.H.Host.machines l.initial.host;
}
