use Rattle.golden_commands.specs.Replayed.{fed_flow}
use Rattle.golden_commands.proofs.windows.print_fed.Given as goal

-- what the plan's network computes on the trace
abbrev pub ghosts-print_flow : goal.ghosts-print_flow
ghosts-print_flow g a = record { flow = fed_flow a.tools.now.models.now a.fed.now }
