use Rattle.gg_cut_split.proofs.TableLemmas.{MarkedTo}
use Rattle.gg_cut_split.proofs.tables.mark_channels.Given as goal

abbrev pub invariant-loop-channel : goal.invariant-loop-channel
invariant-loop-channel l = MarkedTo l.wires l.channel l.initial.channels l.channels
