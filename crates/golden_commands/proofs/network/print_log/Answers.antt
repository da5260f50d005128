use Rattle.std.proofs.Common.{◌<◌, length, arith, ap, ◌∙◌}
use Rattle.std.specs.Io.KnownBytes.{append_known}
use Rattle.golden_commands.specs.Replayed.{net_line}
use Rattle.gg_io.proofs.EndingLemmas.{exit-is}
use Rattle.golden_commands.proofs.LineLemmas.{lines-next, lines-stop}
use Rattle.golden_commands.proofs.NetLemmas.{at-range, in-range, whole-range}
use Rattle.golden_commands.proofs.network.print_log.Goals as goal

pub returns-in_err-print_channel-clause-prints : goal.returns-in_err-print_channel-clause-prints
returns-in_err-print_channel-clause-prints g c =
    let n = length c.args.plan.now.channels in
    let i = c.loop-channel.channel in
    let lt : i < n = omega (arith, c.loop-channel-test.true, ap length c.as_slice-channel-end.ensures) in
    lines-stop i (in-range i n lt) (at-range i n i lt) c.loop-channel.invariant _ (exit-is c.from_residual.ensures.1) c.in_err-print_channel.ensures.prints

pub loop-channel-preserved : goal.loop-channel-preserved
loop-channel-preserved g c =
    let n = length c.args.plan.now.channels in
    let i = c.loop-channel.channel in
    let lt : i < n = omega (arith, c.loop-channel-test.true, ap length c.as_slice-channel-end.ensures) in
    lines-next i (in-range i n lt) (at-range i n i lt) c.loop-channel.invariant c.in_ok-print_channel.ensures.prints c.print_channel.ensures.out

pub returns-clause-prints : goal.returns-clause-prints
returns-clause-prints g c =
    c.loop-channel.invariant.written
    ∙ ap (append_known (g.K.Sink.written c.args.out.now))
    (whole-range (net_line c.args.plan.now g.Z.Streams.flow c.args.net.now) c.loop-channel.channel (length c.args.plan.now.channels) (omega (arith, c.loop-channel-test.false, ap length c.as_slice-channel-end.ensures)))
