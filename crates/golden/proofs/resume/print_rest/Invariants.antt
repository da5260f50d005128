use Rattle.golden_commands.specs.inside.Runs.{resumed_flow}
use Rattle.golden.proofs.resume.print_rest.Given as goal

-- what the plan's network computes from the snapshot on
abbrev pub ghosts-print_since : goal.ghosts-print_since
ghosts-print_since g a = record { flow = resumed_flow a.tools.now.models.now a.fed.now a.snap.cycle a.snap.state }
