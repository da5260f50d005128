use Rattle.std.proofs.Common.{map, sym, subst, arith}
use Rattle.std.specs.Prelude.{slice_set}
use Rattle.gg_net.specs.inside.Net.{net_of}
use Rattle.gg_net.specs.Step.{Ready, Gives}
use Rattle.gg_net.specs.declared.event.Event.TheVariants.{Fire}
use Rattle.gg_net.proofs.TableLemmas.{fire-can}
use Rattle.gg_net.proofs.CloseLemmas.{queues-there, producer-known, fire-stationed, fire-may, fire-room, fire-gives, fire-closes}
use Rattle.gg_net.proofs.net.Net.fire.Goals as goal

pub index-wire-requires : goal.index-wire-requires
index-wire-requires g c =
    let can = fire-can (net_of (map g.H.Host.machines c.self.inside.hosts.items) c.self.inside.shape.stations.items c.self.inside.shape.wires.items c.self.inside.queues.items c.self.inside.shape.end) c.self.invariant.kept.sound.wired c.args.channel (subst (λ n. Ready n (Fire c.args.channel)) (sym c.self.view_is) c.requires) in
    omega (arith, can.can.0)

pub index-requires : goal.index-requires
index-requires g c =
    let can = fire-can (net_of (map g.H.Host.machines c.self.inside.hosts.items) c.self.inside.shape.stations.items c.self.inside.shape.wires.items c.self.inside.queues.items c.self.inside.shape.end) c.self.invariant.kept.sound.wired c.args.channel (subst (λ n. Ready n (Fire c.args.channel)) (sym c.self.view_is) c.requires) in
    omega (arith, producer-known c.self.invariant c.args.channel c.index-wire.result.now c.index-wire.ensures can.can.0)

pub index_mut-requires : goal.index_mut-requires
index_mut-requires g c =
    let can = fire-can (net_of (map g.H.Host.machines c.self.inside.hosts.items) c.self.inside.shape.stations.items c.self.inside.shape.wires.items c.self.inside.queues.items c.self.inside.shape.end) c.self.invariant.kept.sound.wired c.args.channel (subst (λ n. Ready n (Fire c.args.channel)) (sym c.self.view_is) c.requires) in
    omega (arith, queues-there c.self.invariant c.args.channel can.can.0)

pub fire-token-requires-clause-stationed : goal.fire-token-requires-clause-stationed
fire-token-requires-clause-stationed g c =
    let can = fire-can (net_of (map g.H.Host.machines c.self.inside.hosts.items) c.self.inside.shape.stations.items c.self.inside.shape.wires.items c.self.inside.queues.items c.self.inside.shape.end) c.self.invariant.kept.sound.wired c.args.channel (subst (λ n. Ready n (Fire c.args.channel)) (sym c.self.view_is) c.requires) in
    λ κs outlive. fire-stationed c.self.invariant c.args.channel c.index-wire.result.now c.index-wire.ensures can.can.0 c.index.result.now c.index.ensures

pub fire-token-requires-clause-may : goal.fire-token-requires-clause-may
fire-token-requires-clause-may g c =
    let can = fire-can (net_of (map g.H.Host.machines c.self.inside.hosts.items) c.self.inside.shape.stations.items c.self.inside.shape.wires.items c.self.inside.queues.items c.self.inside.shape.end) c.self.invariant.kept.sound.wired c.args.channel (subst (λ n. Ready n (Fire c.args.channel)) (sym c.self.view_is) c.requires) in
    λ κs outlive. fire-may c.self.invariant c.args.channel c.index-wire.result.now c.index-wire.ensures can.can.0 c.index.result.now c.index.ensures can

pub put-requires : goal.put-requires
put-requires g c =
    let can = fire-can (net_of (map g.H.Host.machines c.self.inside.hosts.items) c.self.inside.shape.stations.items c.self.inside.shape.wires.items c.self.inside.queues.items c.self.inside.shape.end) c.self.invariant.kept.sound.wired c.args.channel (subst (λ n. Ready n (Fire c.args.channel)) (sym c.self.view_is) c.requires) in
    fire-room c.self.invariant c.args.channel c.index-wire.result.now c.index-wire.ensures can.can.0 c.index_mut.result.now c.index_mut.ensures.value can

pub invariant_of-self : goal.invariant_of-self
invariant_of-self g c =
    let can = fire-can (net_of (map g.H.Host.machines c.self.inside.hosts.items) c.self.inside.shape.stations.items c.self.inside.shape.wires.items c.self.inside.queues.items c.self.inside.shape.end) c.self.invariant.kept.sound.wired c.args.channel (subst (λ n. Ready n (Fire c.args.channel)) (sym c.self.view_is) c.requires) in
    fire-closes c.self.invariant c.args.channel c.index-wire.result.now c.index-wire.ensures can.can.0 c.index_mut.result.now c.index_mut.ensures.value c.index.result.now c.index.ensures can
    (map g.H.Host.machines c.fire-token.new.hosts.items) c.fire-token.result c.fire-token.ensures.token c.put.new.self c.put.ensures.tokens c.put.ensures.room c.fire-token.ensures.step

pub returns : goal.returns
returns g c =
    let can = fire-can (net_of (map g.H.Host.machines c.self.inside.hosts.items) c.self.inside.shape.stations.items c.self.inside.shape.wires.items c.self.inside.queues.items c.self.inside.shape.end) c.self.invariant.kept.sound.wired c.args.channel (subst (λ n. Ready n (Fire c.args.channel)) (sym c.self.view_is) c.requires) in
    subst (λ n. Gives n c.args.channel (net_of (map g.H.Host.machines c.fire-token.new.hosts.items) c.self.inside.shape.stations.items c.self.inside.shape.wires.items (slice_set c.self.inside.queues.items c.args.channel c.put.new.self) c.self.inside.shape.end)) c.self.view_is
    (fire-gives c.self.invariant c.args.channel c.index-wire.result.now c.index-wire.ensures can.can.0 c.index_mut.result.now c.index_mut.ensures.value c.index.result.now c.index.ensures can
    (map g.H.Host.machines c.fire-token.new.hosts.items) c.fire-token.result c.fire-token.ensures.token c.put.new.self c.put.ensures.tokens c.put.ensures.room c.fire-token.ensures.step)
