use Rattle.std.proofs.Common.{length, map}
use Rattle.gg_net.specs.Network.{wire_at}
use Rattle.gg_workers_pass.specs.inside.SeatLists.{AreLeft}
use Rattle.gg_workers.specs.inside.HostSeats.{IsEmptyFor, IsFilledFor, HasPlaces, EachMachine}
use Rattle.gg_workers.proofs.host_seats.fill_all.Given as goal

abbrev pub invariant-loop-machine : goal.invariant-loop-machine
invariant-loop-machine g l = record {
  places : HasPlaces (map g.H.Host.machines l._hosts) l.rows.items;
  empty : EachMachine IsEmptyFor l.stations l.machine (length l.stations) l.rows.items;
  full : EachMachine (IsFilledFor l.fn.take_seats.items l.fn.put_seats.items) l.stations 0 l.machine l.rows.items;
  takes : AreLeft (λ c. (wire_at g.E.Era.start.wires c).consumer) l.machine l.fn.take_seats.items l.takes.items;
  puts : AreLeft (λ c. (wire_at g.E.Era.start.wires c).producer) l.machine l.fn.put_seats.items l.puts.items;
}
