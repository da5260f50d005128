use Rattle.golden_commands.proofs.LineLemmas.{LinesTo}
use Rattle.gg_cut_reference.specs.inside.PlanText.{channel_names, line_of_channel, machine_names}
use Rattle.golden_commands.proofs.checking.print_channels.Given as goal

abbrev pub invariant-loop-channel : goal.invariant-loop-channel
invariant-loop-channel g l =
    LinesTo (line_of_channel (machine_names l.machines) (channel_names l.channels)) l.channels g.K.Sink l.initial.out l.out l.channel-index
