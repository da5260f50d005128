use Rattle.std.proofs.Common.{map}
use Rattle.gg_workers.specs.inside.HostSeats.{IsEmptyFor, HasPlaces, EachMachine}
use Rattle.gg_workers.proofs.host_seats.reserve_seats.Given as goal

abbrev pub invariant-loop-machine : goal.invariant-loop-machine
invariant-loop-machine g l = record {
  places : HasPlaces (map g.H.Host.machines l.hosts) l.rows.items;
  each : EachMachine IsEmptyFor l.stations 0 l.machine l.rows.items;
}
