use Rattle.std.proofs.Common.{map, sym, ap, subst, ◌∙◌, arith}
use Rattle.gg_net.specs.Step.{Ready, after_latch}
use Rattle.gg_net.specs.inside.Net.{net_of}
use Rattle.gg_net.specs.declared.event.Event.TheVariants.{Latch}
use Rattle.gg_net.proofs.TableLemmas.{latch-can}
use Rattle.gg_net.proofs.CloseLemmas.{queues-there, consumer-known, latch-held, latch-stationed, latch-may, latch-is, latch-closes}
use Rattle.gg_net.proofs.net.Net.latch.Goals as goal

pub index-wire-requires : goal.index-wire-requires
index-wire-requires g c =
    let can = latch-can (net_of (map g.H.Host.machines c.self.inside.hosts.items) c.self.inside.shape.stations.items c.self.inside.shape.wires.items c.self.inside.queues.items c.self.inside.shape.end) c.args.channel (subst (λ n. Ready n (Latch c.args.channel)) (sym c.self.view_is) c.requires) in
    omega (arith, can.can.0)

pub index_mut-requires : goal.index_mut-requires
index_mut-requires g c =
    let can = latch-can (net_of (map g.H.Host.machines c.self.inside.hosts.items) c.self.inside.shape.stations.items c.self.inside.shape.wires.items c.self.inside.queues.items c.self.inside.shape.end) c.args.channel (subst (λ n. Ready n (Latch c.args.channel)) (sym c.self.view_is) c.requires) in
    omega (arith, queues-there c.self.invariant c.args.channel can.can.0)

pub take-token-requires : goal.take-token-requires
take-token-requires g c =
    let can = latch-can (net_of (map g.H.Host.machines c.self.inside.hosts.items) c.self.inside.shape.stations.items c.self.inside.shape.wires.items c.self.inside.queues.items c.self.inside.shape.end) c.args.channel (subst (λ n. Ready n (Latch c.args.channel)) (sym c.self.view_is) c.requires) in
    latch-held c.self.invariant c.args.channel c.index-wire.result.now c.index-wire.ensures can.can.0 c.index_mut.result.now c.index_mut.ensures.value can

pub index-requires : goal.index-requires
index-requires g c =
    let can = latch-can (net_of (map g.H.Host.machines c.self.inside.hosts.items) c.self.inside.shape.stations.items c.self.inside.shape.wires.items c.self.inside.queues.items c.self.inside.shape.end) c.args.channel (subst (λ n. Ready n (Latch c.args.channel)) (sym c.self.view_is) c.requires) in
    omega (arith, consumer-known c.self.invariant c.args.channel c.index-wire.result.now c.index-wire.ensures can.can.0)

pub latch-requires-clause-stationed : goal.latch-requires-clause-stationed
latch-requires-clause-stationed g c =
    let can = latch-can (net_of (map g.H.Host.machines c.self.inside.hosts.items) c.self.inside.shape.stations.items c.self.inside.shape.wires.items c.self.inside.queues.items c.self.inside.shape.end) c.args.channel (subst (λ n. Ready n (Latch c.args.channel)) (sym c.self.view_is) c.requires) in
    λ κs outlive. latch-stationed c.self.invariant c.args.channel c.index-wire.result.now c.index-wire.ensures can.can.0 c.index_mut.result.now c.index_mut.ensures.value c.index.result.now c.index.ensures c.take-token.result c.take-token.ensures.token

pub latch-requires-clause-may : goal.latch-requires-clause-may
latch-requires-clause-may g c =
    let can = latch-can (net_of (map g.H.Host.machines c.self.inside.hosts.items) c.self.inside.shape.stations.items c.self.inside.shape.wires.items c.self.inside.queues.items c.self.inside.shape.end) c.args.channel (subst (λ n. Ready n (Latch c.args.channel)) (sym c.self.view_is) c.requires) in
    λ κs outlive. latch-may c.self.invariant c.args.channel c.index-wire.result.now c.index-wire.ensures can.can.0 c.index_mut.result.now c.index_mut.ensures.value c.index.result.now c.index.ensures c.take-token.result c.take-token.ensures.token can

pub invariant_of-self : goal.invariant_of-self
invariant_of-self g c =
    let can = latch-can (net_of (map g.H.Host.machines c.self.inside.hosts.items) c.self.inside.shape.stations.items c.self.inside.shape.wires.items c.self.inside.queues.items c.self.inside.shape.end) c.args.channel (subst (λ n. Ready n (Latch c.args.channel)) (sym c.self.view_is) c.requires) in
    latch-closes c.self.invariant c.args.channel c.index-wire.result.now c.index-wire.ensures can.can.0 c.index_mut.result.now c.index_mut.ensures.value c.index.result.now c.index.ensures c.take-token.result c.take-token.ensures.token can
    (map g.H.Host.machines c.latch.new.hosts.items) c.take-token.new.self c.take-token.ensures.rest c.take-token.ensures.room c.latch.ensures

pub returns : goal.returns
returns g c =
    let can = latch-can (net_of (map g.H.Host.machines c.self.inside.hosts.items) c.self.inside.shape.stations.items c.self.inside.shape.wires.items c.self.inside.queues.items c.self.inside.shape.end) c.args.channel (subst (λ n. Ready n (Latch c.args.channel)) (sym c.self.view_is) c.requires) in
    latch-is c.self.invariant c.args.channel c.index-wire.result.now c.index-wire.ensures can.can.0 c.index_mut.result.now c.index_mut.ensures.value c.index.result.now c.index.ensures c.take-token.result c.take-token.ensures.token can
    (map g.H.Host.machines c.latch.new.hosts.items) c.take-token.new.self c.take-token.ensures.rest c.take-token.ensures.room c.latch.ensures
    ∙ ap (λ n. after_latch n c.args.channel) c.self.view_is
