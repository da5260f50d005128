use Rattle.gg_io.proofs.EndingLemmas.{exit-is}
use Rattle.golden_commands.proofs.LineLemmas.{plan-first}
use Rattle.gg_io.proofs.WritingLemmas.{prints-then}
use Rattle.golden_commands.proofs.checking.print_plan.Goals as goal

pub returns-in_err-print_machines-clause-prints : goal.returns-in_err-print_machines-clause-prints
returns-in_err-print_machines-clause-prints g c =
    rw (exit-is c.from_residual.ensures.1)
    (plan-first (Unit {0}) _ _ _ c.as_slice-machines.result.now c.args.plan.now c.in_err-print_machines.field-0.0 c.as_slice-machines.ensures c.in_err-print_machines.ensures.prints)

pub returns-clause-prints : goal.returns-clause-prints
returns-clause-prints g c =
    rw (← c.as_slice-machines.ensures, ← c.as_slice.ensures)
    (prints-then (Unit {0}) _ _ _ _ _ _ _ _ c.print_channels.result c.print_machines.ensures.out.faults_stay_or_rise c.in_ok-print_machines.ensures.prints c.print_channels.ensures.prints)
