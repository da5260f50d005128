use Rattle.std.proofs.Common.{◌≡◌, ◌<◌, get_or, length, sym, subst, ◌∙◌, arith}
use Rattle.std.proofs.lemmas.List.{get_or_default}
use Rattle.gg_cut_plan.specs.declared.plan.Machine as planned
use Rattle.gg_flat.specs.Line.{value_at}
use Rattle.gg_node.specs.Machine.{machine_at}
use Rattle.gg_build.specs.plan.Built.{nameless}
use Rattle.gg_build.specs.declared.node.Node.{Node}
use Rattle.gg_build.specs.inside.Hosts.{HasPorts, IsStation, AreStations}
use Rattle.gg_build.specs.inside.Node.{machines_of}
use Rattle.gg_build.proofs.PlacementLemmas.{stations-more}
use Rattle.gg_build.proofs.placement.stations_of.Goals as goal

pub loop-number-preserved : goal.loop-number-preserved
loop-number-preserved g c =
    let machines = c.args.machines.now in
    let hosts = c.args.hosts.now in
    let threads = c.args.threads.now in
    let nodes = c.args.nodes.now in
    let m = c.loop-number.number in
    let own = c.index-machines-number.result in
    let node = c.index-nodes-host.result in
    let machine : get_or machines m nameless ≡ own = get_or_default machines m nameless own c.loop-number-test.true ∙ sym c.index-machines-number.is in
    stations-more machines hosts threads nodes m c.loop-number.stations.items c.push.new.self.items c.in_ok-station.station c.in_ok-push.ensures.items c.loop-number.invariant
    (λ any.
    let host : get_or nodes (value_at hosts m) any ≡ node = get_or_default nodes (value_at hosts m) any node (c.requires.known m c.loop-number-test.true) ∙ sym c.index-nodes-host.is in
    subst (λ (o : planned.Machine). IsStation o (value_at hosts m) (value_at threads m) (machine_at (machines_of (get_or nodes (value_at hosts m) any)) (value_at threads m)) c.in_ok-station.station) (sym machine)
    (subst (λ (n : Node _). IsStation own (value_at hosts m) (value_at threads m) (machine_at (machines_of n) (value_at threads m)) c.in_ok-station.station) (sym host) c.in_ok-station.ensures))

pub bounds-nodes-host : goal.bounds-nodes-host
bounds-nodes-host g c = c.requires.known c.loop-number.number c.loop-number-test.true

pub station_of-requires-clause-ports : goal.station_of-requires-clause-ports
station_of-requires-clause-ports g c =
    let m = c.loop-number.number in
    subst HasPorts (sym c.index-nodes-host.is) (c.requires.ports (value_at c.args.hosts.now m) c.index-nodes-host.result (c.requires.known m c.loop-number-test.true))

pub station_of-requires-clause-thread : goal.station_of-requires-clause-thread
station_of-requires-clause-thread g c =
    let m = c.loop-number.number in
    subst (λ (n : Node _). value_at c.args.threads.now c.loop-number.number < length (machines_of n)) (sym c.index-nodes-host.is) (c.requires.there m c.index-nodes-host.result c.loop-number-test.true)

pub returns : goal.returns
returns g c =
    let all : c.loop-number.number ≡ length c.args.machines.now = omega arith in
    subst (λ n. AreStations c.args.machines.now c.args.hosts.now c.args.threads.now c.args.nodes.now n c.loop-number.stations.items) all c.loop-number.invariant
