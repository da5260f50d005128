use Rattle.std.proofs.Common.{◌<◌, length, map, sym, ap, subst, ◌∙◌, arith}
use Rattle.std.proofs.lemmas.List.{length-map}
use Rattle.gg_net.specs.inside.Stations.{stationed}
use Rattle.gg_net.specs.Step.{Ready, after_serve}
use Rattle.gg_net.specs.inside.Net.{net_of}
use Rattle.gg_net.specs.declared.event.Event.TheVariants.{Serve}
use Rattle.gg_net.proofs.TableLemmas.{serve-can}
use Rattle.gg_net.proofs.CloseLemmas.{serve-stationed, serve-may, serve-is, serve-closes}
use Rattle.gg_net.proofs.net.Net.serve.Goals as goal

pub invariant_of-self : goal.invariant_of-self
invariant_of-self g c =
    let m = c.args.machine in
    let stations = c.self.inside.shape.stations.items in
    let can = serve-can (net_of (map g.H.Host.machines c.self.inside.hosts.items) c.self.inside.shape.stations.items c.self.inside.shape.wires.items c.self.inside.queues.items c.self.inside.shape.end) c.self.invariant.kept.sound.wired m c.args.port (subst (λ n. Ready n (Serve m c.args.port)) (sym c.self.view_is) c.requires) in
    let below : m < length stations = omega (arith, can.there.0, length-map stations (stationed (map g.H.Host.machines c.self.inside.hosts.items))) in
    serve-closes c.self.invariant m c.index.result.now below c.index.ensures c.args.port can (map g.H.Host.machines c.serve.new.hosts.items) c.serve.ensures

pub returns : goal.returns
returns g c =
    let m = c.args.machine in
    let stations = c.self.inside.shape.stations.items in
    let can = serve-can (net_of (map g.H.Host.machines c.self.inside.hosts.items) c.self.inside.shape.stations.items c.self.inside.shape.wires.items c.self.inside.queues.items c.self.inside.shape.end) c.self.invariant.kept.sound.wired m c.args.port (subst (λ n. Ready n (Serve m c.args.port)) (sym c.self.view_is) c.requires) in
    let below : m < length stations = omega (arith, can.there.0, length-map stations (stationed (map g.H.Host.machines c.self.inside.hosts.items))) in
    serve-is c.self.invariant m c.index.result.now below c.index.ensures c.args.port can (map g.H.Host.machines c.serve.new.hosts.items) c.serve.ensures
    ∙ ap (λ n. after_serve n m) c.self.view_is

pub index-requires : goal.index-requires
index-requires g c =
    let m = c.args.machine in
    let stations = c.self.inside.shape.stations.items in
    let can = serve-can (net_of (map g.H.Host.machines c.self.inside.hosts.items) c.self.inside.shape.stations.items c.self.inside.shape.wires.items c.self.inside.queues.items c.self.inside.shape.end) c.self.invariant.kept.sound.wired m c.args.port (subst (λ n. Ready n (Serve m c.args.port)) (sym c.self.view_is) c.requires) in
    let below : m < length stations = omega (arith, can.there.0, length-map stations (stationed (map g.H.Host.machines c.self.inside.hosts.items))) in
    omega (arith, below)

pub serve-requires-clause-stationed : goal.serve-requires-clause-stationed
serve-requires-clause-stationed g c κs within =
    let m = c.args.machine in
    let stations = c.self.inside.shape.stations.items in
    let can = serve-can (net_of (map g.H.Host.machines c.self.inside.hosts.items) c.self.inside.shape.stations.items c.self.inside.shape.wires.items c.self.inside.queues.items c.self.inside.shape.end) c.self.invariant.kept.sound.wired m c.args.port (subst (λ n. Ready n (Serve m c.args.port)) (sym c.self.view_is) c.requires) in
    let below : m < length stations = omega (arith, can.there.0, length-map stations (stationed (map g.H.Host.machines c.self.inside.hosts.items))) in
    serve-stationed c.self.invariant m c.index.result.now below c.index.ensures

pub serve-requires-clause-may : goal.serve-requires-clause-may
serve-requires-clause-may g c κs within =
    let m = c.args.machine in
    let stations = c.self.inside.shape.stations.items in
    let can = serve-can (net_of (map g.H.Host.machines c.self.inside.hosts.items) c.self.inside.shape.stations.items c.self.inside.shape.wires.items c.self.inside.queues.items c.self.inside.shape.end) c.self.invariant.kept.sound.wired m c.args.port (subst (λ n. Ready n (Serve m c.args.port)) (sym c.self.view_is) c.requires) in
    let below : m < length stations = omega (arith, can.there.0, length-map stations (stationed (map g.H.Host.machines c.self.inside.hosts.items))) in
    serve-may c.self.invariant m c.index.result.now below c.index.ensures c.args.port can
