use Rattle.golden_commands.specs.Replayed.{fed_flow}
use Rattle.golden.proofs.save.save_upto.Given as goal

-- what the plan's network computes on the first rows
abbrev pub ghosts-text_upto : goal.ghosts-text_upto
ghosts-text_upto g a = record { flow = fed_flow a.tools.now.models.now a.fed.now }
