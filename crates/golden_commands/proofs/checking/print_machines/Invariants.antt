use Rattle.golden_commands.proofs.LineLemmas.{LinesTo}
use Rattle.gg_cut_reference.specs.inside.PlanText.{line_of_machine}
use Rattle.golden_commands.proofs.checking.print_machines.Given as goal

abbrev pub invariant-loop-machine : goal.invariant-loop-machine
invariant-loop-machine g l =
    LinesTo line_of_machine l.machines g.K.Sink l.initial.out l.out l.machine-index
