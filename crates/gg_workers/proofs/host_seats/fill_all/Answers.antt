use Rattle.std.proofs.Common.{◌+◌, length, map, arith}
use Rattle.gg_net.specs.Network.{frame_of}
use Rattle.gg_workers.specs.inside.HostSeats.{IsEmptyFor, IsFilledFor}
use Rattle.gg_workers.proofs.ListLemmas.{read_at}
use Rattle.gg_workers.proofs.HostSeatsLemmas.{host-within, places-kept, each-kept, each-more}
use Rattle.gg_workers.proofs.FillLemmas.{rows-there, full-here, takes-left, puts-left}
use Rattle.gg_workers.proofs.host_seats.fill_all.Goals as goal

pub fill_row-requires-clause-there : goal.fill_row-requires-clause-there
fill_row-requires-clause-there g c =
    let inv = c.loop-machine.invariant in
    let m = c.loop-machine.machine in
    let stations = c.args.stations.now in
    let station = c.index-stations-machine.result in
    let known = c.loop-machine-test.true in
    let at = read_at stations m station known c.index-stations-machine.is in
    rows-there (frame_of g.E.Era.start) c.requires.wired stations c.requires.listed c.args.take_seats.items c.args.put_seats.items c.requires.long.0 c.requires.long.1 m known station at c.loop-machine.takes.items c.loop-machine.puts.items inv.takes inv.puts

pub loop-machine-preserved : goal.loop-machine-preserved
loop-machine-preserved g c =
    let inv = c.loop-machine.invariant in
    let m = c.loop-machine.machine in
    let stations = c.args.stations.now in
    let machines = map g.H.Host.machines c.args._hosts.now in
    let rows = c.loop-machine.rows.items in
    let station = c.index-stations-machine.result in
    let known = c.loop-machine-test.true in
    let at = read_at stations m station known c.index-stations-machine.is in
    let old = c.index_mut-row.result.now in
    let was = read_at rows station.host old (host-within stations machines c.requires.stationed rows inv.places m known station at) c.index_mut-row.ensures.value in
    let new = c.fill_row.new.row in
    let done = c.fill_row.ensures in
    let q = done.0 in
    let takes = c.loop-machine.takes.items in
    let puts = c.loop-machine.puts.items in
    let frame = frame_of g.E.Era.start in
    let full = full-here frame c.requires.wired stations c.requires.listed c.args.take_seats.items c.args.put_seats.items c.requires.long.0 c.requires.long.1 m known station at takes puts inv.takes inv.puts c.fill_row.new.takes.items c.fill_row.new.puts.items q done.3 done.4 done.2 in
    record {
      places = places-kept stations machines c.requires.stationed rows inv.places m known station at old was new q done.1;
      empty = each-kept stations machines c.requires.stationed rows inv.places m known station at old was new q done.1 IsEmptyFor (m + 1) (length stations) (omega arith) (λ k low high same. omega (arith, low, same)) (λ k s r d low high. inv.empty k s r d (omega (arith, low)) high);
      full = each-more stations machines c.requires.stationed rows inv.places m known station at old was new q done.1 (IsFilledFor c.args.take_seats.items c.args.put_seats.items) full inv.full;
      takes = takes-left frame c.requires.wired stations c.requires.listed c.args.take_seats.items c.args.put_seats.items c.requires.long.0 c.requires.long.1 m known station at takes puts inv.takes inv.puts c.fill_row.new.takes.items c.fill_row.new.puts.items q done.3 done.4;
      puts = puts-left frame c.requires.wired stations c.requires.listed c.args.take_seats.items c.args.put_seats.items c.requires.long.0 c.requires.long.1 m known station at takes puts inv.takes inv.puts c.fill_row.new.takes.items c.fill_row.new.puts.items q done.3 done.4;
    }
