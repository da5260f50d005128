use Rattle.std.proofs.Common.{map}
use Rattle.gg_workers.specs.inside.HostSeats.{IsEmptyFor}
use Rattle.gg_workers.proofs.ListLemmas.{read_at}
use Rattle.gg_workers.proofs.HostSeatsLemmas.{host-within, places-kept, each-more}
use Rattle.gg_workers.proofs.host_seats.reserve_seats.Goals as goal

pub loop-machine-preserved : goal.loop-machine-preserved
loop-machine-preserved g c =
    let inv = c.loop-machine.invariant in
    let m = c.loop-machine.machine in
    let stations = c.args.stations.now in
    let machines = map g.H.Host.machines c.args.hosts.now in
    let rows = c.loop-machine.rows.items in
    let station = c.index-stations-machine.result in
    let known = c.loop-machine-test.true in
    let at = read_at stations m station known c.index-stations-machine.is in
    let old = c.index_mut.result.now in
    let was = read_at rows station.host old (host-within stations machines c.requires.stationed rows inv.places m known station at) c.index_mut.ensures.value in
    record {
      places = places-kept stations machines c.requires.stationed rows inv.places m known station at old was c.set_seats.new.row c.in_ok-machine_seats.machine_seats c.set_seats.ensures;
      each = each-more stations machines c.requires.stationed rows inv.places m known station at old was c.set_seats.new.row c.in_ok-machine_seats.machine_seats c.set_seats.ensures IsEmptyFor c.in_ok-machine_seats.ensures inv.each;
    }
