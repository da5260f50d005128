use Rattle.gg_cut_plan.proofs.ChannelLemmas.{MarkedTo}
use Rattle.gg_cut_plan.proofs.marks.mark_all.Given as goal

abbrev pub invariant-loop-signal : goal.invariant-loop-signal
invariant-loop-signal l = MarkedTo l.signals l.signal-index l.initial.marks l.marks
