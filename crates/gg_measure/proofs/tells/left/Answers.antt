use Rattle.std.proofs.Common.{◌≡◌, ◌+◌, suc, length, ap, arith}
use Rattle.gg_net.specs.Network.{frame_of}
use Rattle.gg_net.specs.inside.LayoutOf.{layout_of}
use Rattle.gg_net.specs.markings.Measure.{sum_below}
use Rattle.gg_measure.specs.inside.Nets.{wire_left, machine_left}
use Rattle.gg_measure.proofs.GoLemmas.{laid-out}
use Rattle.gg_measure.proofs.NetLemmas.{wires-small, machines-small}
use Rattle.gg_measure.proofs.tells.left.Goals as goal

pub overflow_add-left : goal.overflow_add-left
overflow_add-left g c =
    let more : sum_below (wire_left c.args.net.now) (c.loop-c.c + 1) ≡ sum_below (wire_left c.args.net.now) c.loop-c.c + wire_left c.args.net.now c.loop-c.c = ap (sum_below (wire_left c.args.net.now)) (let one : c.loop-c.c + 1 ≡ suc c.loop-c.c = omega arith in one) in
    omega (
      arith,
      more,
      c.loop-c.invariant,
      c.channel_left-left.ensures,
      wires-small g.Z.Streams.flow c.args.net.now c.kept.ensures (layout_of (frame_of c.args.net.now)) (laid-out g.Z.Streams.flow c.args.net.now c.kept.ensures) c.within_limits.ensures (c.loop-c.c + 1) (omega (arith, c.loop-c-test.true, c.channels-c-end.ensures)),
    )

pub overflow_add-left-in-loop-m : goal.overflow_add-left-in-loop-m
overflow_add-left-in-loop-m g c =
    let more : sum_below (machine_left c.args.net.now) (c.loop-m.m + 1) ≡ sum_below (machine_left c.args.net.now) c.loop-m.m + machine_left c.args.net.now c.loop-m.m = ap (sum_below (machine_left c.args.net.now)) (let one : c.loop-m.m + 1 ≡ suc c.loop-m.m = omega arith in one) in
    omega (
      arith,
      more,
      c.loop-m.invariant,
      c.machine_left-left.ensures,
      wires-small g.Z.Streams.flow c.args.net.now c.kept.ensures (layout_of (frame_of c.args.net.now)) (laid-out g.Z.Streams.flow c.args.net.now c.kept.ensures) c.within_limits.ensures (length c.args.net.now.wires) (omega arith),
      machines-small g.Z.Streams.flow c.args.net.now c.kept.ensures (layout_of (frame_of c.args.net.now)) (laid-out g.Z.Streams.flow c.args.net.now c.kept.ensures) c.within_limits.ensures (c.loop-m.m + 1) (omega (arith, c.loop-m-test.true, c.machines-m-end.ensures)),
    )
