use Rattle.std.proofs.Common.{ℕ, ◌<◌, length, refl, arith}
use Rattle.gg_node.specs.Machine.{machine_at}
use Rattle.gg_net.specs.Network.{queue_at}
use Rattle.gg_net.proofs.TableLemmas.{latch-can}
use Rattle.gg_net.proofs.BelowLemmas.{not-so, not-true, not-both, latch-below, below-latch}
use Rattle.gg_net.proofs.net.Net.may_latch.Goals as goal

pub returns-then-channel-channels : goal.returns-then-channel-channels
returns-then-channel-channels g c = not-so (λ may. omega (arith, c.if-channel-channels.true, c.channels.ensures, (latch-can c.args.self.now c.args.channel may.0).can.0))

pub returns-then-wants : goal.returns-then-wants
returns-then-wants g c =
    let x = (machine_at (g.H.Host.machines c.host_and_thread-thread.result.0.now) c.host_and_thread-thread.result.1) in
    let known : c.args.channel < length c.args.self.now.wires = omega (arith, c.if-channel-channels.false, c.channels.ensures) in (
      λ some. latch-below c.args.self.now c.kept.ensures.sound.wired c.args.cycle c.requires c.args.channel c.wire-wire.result x c.wire-wire.ensures.is c.queued.result known c.host_and_thread-thread.ensures.machine (c.wants.ensures.0 c.if-wants.true) c.queued.ensures some,
      λ may. (below-latch c.args.self.now c.kept.ensures.sound.wired c.args.cycle c.requires c.args.channel c.wire-wire.result x c.wire-wire.ensures.is c.queued.result c.host_and_thread-thread.ensures.machine c.queued.ensures may).1,
    )

pub returns-else-wants : goal.returns-else-wants
returns-else-wants g c =
    let x = (machine_at (g.H.Host.machines c.host_and_thread-thread.result.0.now) c.host_and_thread-thread.result.1) in
    let count : ℕ = length (queue_at c.args.self.now.queues c.args.channel) in
    not-true c.wants.result c.if-wants.false (λ may. not-both c.wants.result (c.wants.ensures.1 (below-latch c.args.self.now c.kept.ensures.sound.wired c.args.cycle c.requires c.args.channel c.wire-wire.result x c.wire-wire.ensures.is count c.host_and_thread-thread.ensures.machine refl may).0) c.if-wants.false)
