use Rattle.std.proofs.Common.{sym, arith}
use Rattle.gg_io.proofs.EndingLemmas.{exit-is}
use Rattle.golden_commands.proofs.LineLemmas.{lines-stop}
use Rattle.golden_commands.proofs.checking.print_machines.Goals as goal

pub returns-in_err-print_machine-clause-prints : goal.returns-in_err-print_machine-clause-prints
returns-in_err-print_machine-clause-prints g c =
    lines-stop c.machine-item.result (omega (arith, c.loop-machine-test.true)) (sym c.machine-item.is) c.loop-machine.invariant _ (exit-is c.from_residual.ensures.1) c.in_err-print_machine.ensures.prints
