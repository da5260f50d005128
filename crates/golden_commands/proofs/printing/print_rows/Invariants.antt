use Rattle.golden_commands.proofs.PrintingLemmas.{SimulatedTo}
use Rattle.golden_commands.proofs.printing.print_rows.Given as goal

abbrev pub invariant-loop-cycle : goal.invariant-loop-cycle
invariant-loop-cycle g l = SimulatedTo l.initial.mono.circuit l.initial.mono.ratios l.inputs l.printer g.K.Sink l.initial.out l.out l.cycle l.mono l.outs
