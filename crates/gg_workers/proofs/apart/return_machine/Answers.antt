use Rattle.std.proofs.Common.{map}
use Rattle.gg_net.specs.inside.Stations.{machines_by}
use Rattle.gg_workers.proofs.ListLemmas.{read_at}
use Rattle.gg_workers.proofs.ApartLemmas.{takes-back, puts-back, takes-once, takes-long, takes-within, puts-once, puts-long, puts-within}
use Rattle.gg_workers.proofs.apart.return_machine.Goals as goal

pub returns-clause-takes : goal.returns-clause-takes
returns-clause-takes g c = takes-back g.L.Link.takes_from g.L.Link.puts_into g.L.Link.taking g.L.Link.putting g.Z.Streams.flow g.E.Era.start c.requires.kept c.args._links.now (machines_by (map g.H.Host.machines c.args._hosts.now) c.args.stations.now) c.args.stations.now c.requires.listed.0 c.requires.listed.1 c.args.machine_seats c.requires.machine_seats c.index-stations-machine.result (read_at c.args.stations.now c.args.machine_seats.machine c.index-stations-machine.result c.requires.machine_seats.known c.index-stations-machine.is) c.as_slice.result.now c.args.takes.now.items c.put_back.new.seats.items c.as_slice.ensures c.put_back.ensures

pub returns-clause-puts : goal.returns-clause-puts
returns-clause-puts g c = puts-back g.L.Link.takes_from g.L.Link.puts_into g.L.Link.taking g.L.Link.putting g.Z.Streams.flow g.E.Era.start c.requires.kept c.args._links.now (machines_by (map g.H.Host.machines c.args._hosts.now) c.args.stations.now) c.args.stations.now c.requires.listed.0 c.requires.listed.1 c.args.machine_seats c.requires.machine_seats c.index-stations-machine.result (read_at c.args.stations.now c.args.machine_seats.machine c.index-stations-machine.result c.requires.machine_seats.known c.index-stations-machine.is) c.as_slice-2.result.now c.args.puts.now.items c.put_back-2.new.seats.items c.as_slice-2.ensures c.put_back-2.ensures

pub put_back-requires-clause-once : goal.put_back-requires-clause-once
put_back-requires-clause-once g c = takes-once g.L.Link.takes_from g.L.Link.puts_into g.L.Link.taking g.L.Link.putting g.Z.Streams.flow g.E.Era.start c.requires.kept c.args._links.now (machines_by (map g.H.Host.machines c.args._hosts.now) c.args.stations.now) c.args.stations.now c.requires.listed.0 c.requires.listed.1 c.args.machine_seats c.requires.machine_seats c.index-stations-machine.result (read_at c.args.stations.now c.args.machine_seats.machine c.index-stations-machine.result c.requires.machine_seats.known c.index-stations-machine.is) c.as_slice.result.now c.as_slice.ensures

pub put_back-requires-clause-long : goal.put_back-requires-clause-long
put_back-requires-clause-long g c = takes-long g.L.Link.takes_from g.L.Link.puts_into g.L.Link.taking g.L.Link.putting g.Z.Streams.flow g.E.Era.start c.requires.kept c.args._links.now (machines_by (map g.H.Host.machines c.args._hosts.now) c.args.stations.now) c.args.stations.now c.requires.listed.0 c.requires.listed.1 c.args.machine_seats c.requires.machine_seats c.index-stations-machine.result (read_at c.args.stations.now c.args.machine_seats.machine c.index-stations-machine.result c.requires.machine_seats.known c.index-stations-machine.is) c.as_slice.result.now c.as_slice.ensures

pub put_back-requires-clause-within : goal.put_back-requires-clause-within
put_back-requires-clause-within g c = takes-within g.L.Link.takes_from g.L.Link.puts_into g.L.Link.taking g.L.Link.putting g.Z.Streams.flow g.E.Era.start c.requires.kept c.args._links.now (machines_by (map g.H.Host.machines c.args._hosts.now) c.args.stations.now) c.args.stations.now c.requires.listed.0 c.requires.listed.1 c.args.machine_seats c.requires.machine_seats c.index-stations-machine.result (read_at c.args.stations.now c.args.machine_seats.machine c.index-stations-machine.result c.requires.machine_seats.known c.index-stations-machine.is) c.as_slice.result.now c.args.takes.now.items c.as_slice.ensures c.requires.long.0

pub put_back-requires-2-clause-once : goal.put_back-requires-2-clause-once
put_back-requires-2-clause-once g c = puts-once g.L.Link.takes_from g.L.Link.puts_into g.L.Link.taking g.L.Link.putting g.Z.Streams.flow g.E.Era.start c.requires.kept c.args._links.now (machines_by (map g.H.Host.machines c.args._hosts.now) c.args.stations.now) c.args.stations.now c.requires.listed.0 c.requires.listed.1 c.args.machine_seats c.requires.machine_seats c.index-stations-machine.result (read_at c.args.stations.now c.args.machine_seats.machine c.index-stations-machine.result c.requires.machine_seats.known c.index-stations-machine.is) c.as_slice-2.result.now c.as_slice-2.ensures

pub put_back-requires-2-clause-long : goal.put_back-requires-2-clause-long
put_back-requires-2-clause-long g c = puts-long g.L.Link.takes_from g.L.Link.puts_into g.L.Link.taking g.L.Link.putting g.Z.Streams.flow g.E.Era.start c.requires.kept c.args._links.now (machines_by (map g.H.Host.machines c.args._hosts.now) c.args.stations.now) c.args.stations.now c.requires.listed.0 c.requires.listed.1 c.args.machine_seats c.requires.machine_seats c.index-stations-machine.result (read_at c.args.stations.now c.args.machine_seats.machine c.index-stations-machine.result c.requires.machine_seats.known c.index-stations-machine.is) c.as_slice-2.result.now c.as_slice-2.ensures

pub put_back-requires-2-clause-within : goal.put_back-requires-2-clause-within
put_back-requires-2-clause-within g c = puts-within g.L.Link.takes_from g.L.Link.puts_into g.L.Link.taking g.L.Link.putting g.Z.Streams.flow g.E.Era.start c.requires.kept c.args._links.now (machines_by (map g.H.Host.machines c.args._hosts.now) c.args.stations.now) c.args.stations.now c.requires.listed.0 c.requires.listed.1 c.args.machine_seats c.requires.machine_seats c.index-stations-machine.result (read_at c.args.stations.now c.args.machine_seats.machine c.index-stations-machine.result c.requires.machine_seats.known c.index-stations-machine.is) c.as_slice-2.result.now c.args.puts.now.items c.as_slice-2.ensures c.requires.long.1
