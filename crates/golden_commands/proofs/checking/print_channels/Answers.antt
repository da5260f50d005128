use Rattle.std.proofs.Common.{sym, arith}
use Rattle.gg_io.proofs.EndingLemmas.{exit-is}
use Rattle.golden_commands.proofs.LineLemmas.{lines-next, lines-stop}
use Rattle.golden_commands.proofs.checking.print_channels.Goals as goal

pub returns-in_err-print_channel-clause-prints : goal.returns-in_err-print_channel-clause-prints
returns-in_err-print_channel-clause-prints g c =
    lines-stop c.channel-item.result (omega (arith, c.loop-channel-test.true)) (sym c.channel-item.is) c.loop-channel.invariant _ (exit-is c.from_residual.ensures.1) c.in_err-print_channel.ensures.prints

pub loop-channel-preserved : goal.loop-channel-preserved
loop-channel-preserved g c =
    lines-next c.channel-item.result (omega (arith, c.loop-channel-test.true)) (sym c.channel-item.is) c.loop-channel.invariant c.in_ok-print_channel.ensures.prints c.print_channel.ensures.out
