use Rattle.std.proofs.Common.{◌<◌, length, map, sym, subst, arith}
use Rattle.std.proofs.lemmas.List.{length-map}
use Rattle.gg_net.specs.inside.Net.{net_of}
use Rattle.gg_net.specs.inside.Stations.{stationed}
use Rattle.gg_net.specs.Step.{Ready, GoesOn}
use Rattle.gg_net.specs.declared.event.Event.TheVariants.{Finish}
use Rattle.gg_net.proofs.TableLemmas.{finish-can}
use Rattle.gg_net.proofs.CloseLemmas.{finish-stationed, finish-may, finish-goes, finish-closes}
use Rattle.gg_net.proofs.net.Net.finish.Goals as goal

pub index-requires : goal.index-requires
index-requires g c =
    let m = c.args.machine in
    let stations = c.self.inside.shape.stations.items in
    let can = finish-can (net_of (map g.H.Host.machines c.self.inside.hosts.items) c.self.inside.shape.stations.items c.self.inside.shape.wires.items c.self.inside.queues.items c.self.inside.shape.end) c.self.invariant.kept.sound.wired m (subst (λ n. Ready n (Finish m)) (sym c.self.view_is) c.requires) in
    omega (arith, can.there, length-map stations (stationed (map g.H.Host.machines c.self.inside.hosts.items)))

pub finish-requires-clause-stationed : goal.finish-requires-clause-stationed
finish-requires-clause-stationed g c =
    let m = c.args.machine in
    let stations = c.self.inside.shape.stations.items in
    let can = finish-can (net_of (map g.H.Host.machines c.self.inside.hosts.items) c.self.inside.shape.stations.items c.self.inside.shape.wires.items c.self.inside.queues.items c.self.inside.shape.end) c.self.invariant.kept.sound.wired m (subst (λ n. Ready n (Finish m)) (sym c.self.view_is) c.requires) in
    let below : m < length stations = omega (arith, can.there, length-map stations (stationed (map g.H.Host.machines c.self.inside.hosts.items))) in
    λ κs outlive. finish-stationed c.self.invariant m c.index.result.now below c.index.ensures can

pub finish-requires-clause-may : goal.finish-requires-clause-may
finish-requires-clause-may g c =
    let m = c.args.machine in
    let stations = c.self.inside.shape.stations.items in
    let can = finish-can (net_of (map g.H.Host.machines c.self.inside.hosts.items) c.self.inside.shape.stations.items c.self.inside.shape.wires.items c.self.inside.queues.items c.self.inside.shape.end) c.self.invariant.kept.sound.wired m (subst (λ n. Ready n (Finish m)) (sym c.self.view_is) c.requires) in
    let below : m < length stations = omega (arith, can.there, length-map stations (stationed (map g.H.Host.machines c.self.inside.hosts.items))) in
    λ κs outlive. finish-may c.self.invariant m c.index.result.now below c.index.ensures can

pub invariant_of-self : goal.invariant_of-self
invariant_of-self g c =
    let m = c.args.machine in
    let stations = c.self.inside.shape.stations.items in
    let can = finish-can (net_of (map g.H.Host.machines c.self.inside.hosts.items) c.self.inside.shape.stations.items c.self.inside.shape.wires.items c.self.inside.queues.items c.self.inside.shape.end) c.self.invariant.kept.sound.wired m (subst (λ n. Ready n (Finish m)) (sym c.self.view_is) c.requires) in
    let below : m < length stations = omega (arith, can.there, length-map stations (stationed (map g.H.Host.machines c.self.inside.hosts.items))) in
    finish-closes c.self.invariant m c.index.result.now below c.index.ensures can (map g.H.Host.machines c.finish.new.hosts.items) c.finish.ensures

pub returns : goal.returns
returns g c =
    let m = c.args.machine in
    let stations = c.self.inside.shape.stations.items in
    let can = finish-can (net_of (map g.H.Host.machines c.self.inside.hosts.items) c.self.inside.shape.stations.items c.self.inside.shape.wires.items c.self.inside.queues.items c.self.inside.shape.end) c.self.invariant.kept.sound.wired m (subst (λ n. Ready n (Finish m)) (sym c.self.view_is) c.requires) in
    let below : m < length stations = omega (arith, can.there, length-map stations (stationed (map g.H.Host.machines c.self.inside.hosts.items))) in
    let after = map g.H.Host.machines c.finish.new.hosts.items in
    subst (λ n. GoesOn n m (net_of after stations c.self.inside.shape.wires.items c.self.inside.queues.items c.self.inside.shape.end)) c.self.view_is
    (finish-goes c.self.invariant m c.index.result.now below c.index.ensures can after c.finish.ensures)
