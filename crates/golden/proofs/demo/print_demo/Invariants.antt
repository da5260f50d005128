use Rattle.std.proofs.Common.{[]}
use Rattle.golden_commands.specs.Replayed.{fed_flow}
use Rattle.golden.proofs.demo.print_demo.Given as goal

-- what the plan's network computes on the trace
abbrev pub ghosts-sum_fed : goal.ghosts-sum_fed
ghosts-sum_fed g a = record { flow = fed_flow [] a.fed.now }
