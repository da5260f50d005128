use Rattle.std.proofs.Common.{length}
use Rattle.std.specs.List.{range_with_len}
use Rattle.golden_commands.specs.Replayed.{net_line}
use Rattle.golden_commands.proofs.LineLemmas.{LinesTo}
use Rattle.golden_commands.proofs.network.print_log.Given as goal

abbrev pub invariant-loop-channel : goal.invariant-loop-channel
invariant-loop-channel g l =
    LinesTo (net_line l.plan g.Z.Streams.flow l.net) (range_with_len 0 (length l.plan.channels)) g.K.Sink l.initial.out l.out l.channel
